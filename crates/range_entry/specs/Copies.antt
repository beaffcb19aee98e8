-- What counts as a copy of a list, a text or an option, and that a copy is equal to its source.
use Rattle.std.specs.Prelude.{◌≡◌, ℕ, List, [], ◌∷◌, Option, Some, None, refl}
use Rattle.std.specs.Cmp.{IsTotalOrder}
use Rattle.std.specs.Cmp.Lexicographic.{slice_cmp}
use Rattle.std.specs.List.{AllZip}
use Rattle.std.specs.Option.{option_cmp}
use Rattle.std.specs.Ordering.{nat_cmp}
use Rattle.std.specs.declared.cmp.Ordering.{Ordering}
use Rattle.std.specs.declared.cmp.Ordering.TheVariants.{Equal}
use Rattle.std.proofs.lemmas.Cmp.{lists_total, nat_cmp_total, tied_itself}

module _ {T : Type 0} where
  -- both are `None`, or both hold something, the second a copy of what the first holds
  abbrev pub IsOptionCopy : (T → T → Type 0) → Option T → Option T → Type 0
  IsOptionCopy is_copy None None = Unit {0}
  IsOptionCopy is_copy (Some x) (Some y) = is_copy x y
  IsOptionCopy is_copy None (Some y) = ⊥
  IsOptionCopy is_copy (Some x) None = ⊥

  module _ (order : T → T → Ordering) where
    -- what is the same is equal
    pub same-equal : IsTotalOrder order → (x y : T) → y ≡ x → order x y ≡ Equal
    same-equal total x y e = rw e (tied_itself total x)

    -- the same list is equal
    pub same_list-equal : IsTotalOrder order → (xs ys : List T) → ys ≡ xs → slice_cmp order xs ys ≡ Equal
    same_list-equal total xs ys e = rw e (tied_itself (lists_total total) xs)

    module _ (is_copy : T → T → Type 0) (equal : (x y : T) → is_copy x y → order x y ≡ Equal) where
      -- copies of all items make an equal list
      pub copies-equal : (xs ys : List T) → AllZip is_copy xs ys → slice_cmp order xs ys ≡ Equal
      copies-equal [] [] h = refl
      copies-equal [] (y ∷ ys) h = absurd h
      copies-equal (x ∷ xs) [] h = absurd h
      copies-equal (x ∷ xs) (y ∷ ys) h = rw (equal x y h.0) (copies-equal xs ys h.1)

      -- a copy of what it holds makes an equal option
      pub option_copy-equal : (x y : Option T) → IsOptionCopy is_copy x y → option_cmp order x y ≡ Equal
      option_copy-equal None None h = refl
      option_copy-equal None (Some y) h = absurd h
      option_copy-equal (Some x) None h = absurd h
      option_copy-equal (Some x) (Some y) h = equal x y h

-- the same text is equal
pub same_text-equal : (xs ys : List ℕ) → ys ≡ xs → slice_cmp nat_cmp xs ys ≡ Equal
same_text-equal xs ys e = same_list-equal nat_cmp nat_cmp_total xs ys e
