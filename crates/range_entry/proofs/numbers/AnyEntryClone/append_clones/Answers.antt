use Rattle.std.proofs.Common.{◌≡◌, List, [], ◌∷◌, refl}
use Rattle.std.proofs.Math.Seq.{drop-append_seam}
use Rattle.std.specs.List.{AllZip}
use Rattle.range_entry.proofs.numbers.AnyEntryClone.append_clones.Goals as goal

-- each item is a copy of itself
own_copies : {T : Type 0} (xs : List T) → AllZip (λ x y. y ≡ x) xs xs
own_copies [] = tt
own_copies (x ∷ xs) = (refl, own_copies xs)

pub returns-clause-copied : goal.returns-clause-copied
returns-clause-copied g c =
    rw (c.in_ok-extend_from_slice.ensures.items, drop-append_seam c.args.list.now.items c.args.items.now) (own_copies c.args.items.now)
