use Rattle.std.proofs.Common.{refl, true}
use Rattle.std.proofs.lemmas.Grind.{put_two, put_three}
use Rattle.range_collections.proofs.range_set_range.write_range.Goals as goal

pub returns-in_ok-write_str-in-Range : goal.returns-in_ok-write_str-in-Range
returns-in_ok-write_str-in-Range g c =
    rw c.in-Range.is (λ text known plain ok.
    let start = (rw known.0 at c.in_ok-fmt-in-Range.ensures.writes) plain (refl {a = true}) in
    let dots = c.in_ok-write_str-in-Range.ensures.writes start.plain (refl {a = true}) in
    let end = (rw known.1 at c.fmt-in-Range.ensures.writes) dots.plain ok in
    put_three _ _ _ _ _ _ _ _ _ start dots end refl)

pub returns-in_ok-fmt-in-RangeFrom : goal.returns-in_ok-fmt-in-RangeFrom
returns-in_ok-fmt-in-RangeFrom g c =
    rw c.in-RangeFrom.is (λ text known plain ok.
    let start = (rw known at c.in_ok-fmt-in-RangeFrom.ensures.writes) plain (refl {a = true}) in
    put_two _ _ _ _ _ _ _ start (c.write_str-in-RangeFrom.ensures.writes start.plain ok) refl)
