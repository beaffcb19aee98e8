-- What is written of why a tracker refuses a command.
use Rattle.std.specs.Prelude.{ℕ, List, ◌++◌, codes, decimal}
use Rattle.range_tracker.specs.declared.track_error.TrackError.{TrackError}
use Rattle.range_tracker.specs.declared.track_error.TrackError.TheVariants.{TooMany, OutOfMemory}

-- a few words, with the number of boundaries where they are too many
abbrev pub track_error_text : TrackError → List ℕ
track_error_text (TooMany boundaries) = codes "too many boundaries: " ++ decimal boundaries
track_error_text OutOfMemory = codes "out of memory"
