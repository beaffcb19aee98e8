use Rattle.std.proofs.Common.{◌≡◌, sym, subst, ℕ, List, true}
use Rattle.std.specs.Char.{is_ascii}
use Rattle.std.specs.Fmt.{WritesOnOk, debug_char}
use Rattle.std.specs.List.{list_all}
use Rattle.range_collections.specs.Ranges.{range_ends, range_now, AllEnds}
use Rattle.range_collections.specs.Text.{IsText, quoted, range_text}
use Rattle.range_collections.proofs.Texts.{IsText-ascii_range, IfSome-ascii}
use Rattle.range_collections.proofs.text.chars.RangeSetRangeCharDebug.fmt.Goals as goal

pub returns : goal.returns
returns g c =
    let range = c.args.self.now in
    let P : List ℕ → Type 0 = λ bs. WritesOnOk g.W.Write.write_str_gives c.args.f.now c.write_range.result bs c.write_range.new.f in
    let known : list_all is_ascii (range_ends range) ≡ true → AllEnds (IsText debug_char quoted) (range_now c.as_ref.result) =
    λ ascii. subst (λ r. AllEnds (IsText debug_char quoted) r) (sym c.as_ref.ensures) (IsText-ascii_range range ascii) in
    record {
      writes = IfSome-ascii (range_ends range) (range_text quoted range) P
          (λ ascii. subst (λ r. P (range_text quoted r)) c.as_ref.ensures (c.write_range.ensures quoted (known ascii)));
    }
