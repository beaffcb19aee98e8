use Rattle.std.proofs.Common.{◌≡◌, refl, sym, subst, ℕ, List, true}
use Rattle.std.proofs.lemmas.Grind.{put_three}
use Rattle.std.specs.Char.{is_ascii}
use Rattle.std.specs.Fmt.{WritesOnOk, debug_char}
use Rattle.std.specs.List.{list_all}
use Rattle.range_collections.specs.Ranges.{ranges_of}
use Rattle.range_collections.specs.Text.{AreTexts, quoted, set_text}
use Rattle.range_collections.proofs.Texts.{AreTexts-ascii, IfSome-ascii}
use Rattle.range_collections.proofs.text.chars.RangeSetCharDebug.fmt.Goals as goal

pub returns : goal.returns
returns g c =
    let items = c.args.self.now in
    let P : List ℕ → Type 0 = λ bs. WritesOnOk g.W.Write.write_str_gives c.args.f.now c.write_str-2.result bs c.write_str-2.new.self in
    let written : list_all is_ascii items ≡ true → P (set_text quoted items) =
    λ ascii plain ok.
    let name = c.in_ok-write_str.ensures.writes plain (refl {a = true}) in
    let ranges = rw c.as_ref.ensures.same at (c.in_ok-write_ranges.ensures quoted (subst (λ l. AreTexts debug_char quoted (ranges_of l)) (sym c.as_ref.ensures.same) (AreTexts-ascii items ascii)) name.plain (refl {a = true})) in
    put_three _ _ _ _ _ _ _ _ _ name ranges (c.write_str-2.ensures.writes ranges.plain ok) refl in
    record { writes = IfSome-ascii items (set_text quoted items) P written }
