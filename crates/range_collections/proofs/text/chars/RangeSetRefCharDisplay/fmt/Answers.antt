use Rattle.std.proofs.Common.{ℕ, List}
use Rattle.std.specs.Fmt.{WritesOnOk}
use Rattle.range_collections.specs.Ranges.{ranges_of}
use Rattle.range_collections.specs.Text.{quoted, ranges_text}
use Rattle.range_collections.proofs.Texts.{AreTexts-ascii, IfSome-ascii}
use Rattle.range_collections.proofs.text.chars.RangeSetRefCharDisplay.fmt.Goals as goal

pub returns-clause-writes : goal.returns-clause-writes
returns-clause-writes g c =
    let items = c.args.self.now.boundaries.now in
    let P : List ℕ → Type 0 = λ bs. WritesOnOk g.W.Write.write_str_gives c.args.f.now c.write_ranges.result bs c.write_ranges.new.f in
    IfSome-ascii items (ranges_text quoted (ranges_of items)) P
    (λ ascii. c.write_ranges.ensures quoted (AreTexts-ascii items ascii))
