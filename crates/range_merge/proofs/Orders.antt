-- What follows from the laws of an order.
use Rattle.std.proofs.Common.{◌≡◌, ap, sym, ◌∙◌}
use Rattle.std.specs.Cmp.{IsTotalOrder}
use Rattle.std.proofs.lemmas.Cmp.{tied_back, tied_itself, alike_right}
use Rattle.std.specs.declared.cmp.Ordering.{Ordering}
use Rattle.std.specs.declared.cmp.Ordering.TheVariants.{Less, Equal, Greater}
use Rattle.std.specs.Ordering.{ordering_reverse}

module _ {K : Type 0} {order : K → K → Ordering} (o : IsTotalOrder order) where
  pub Greater-from_less : (x y : K) → order x y ≡ Less → order y x ≡ Greater
  Greater-from_less x y h = o.antisymm y x ∙ ap ordering_reverse h

  pub Less-from_greater : (x y : K) → order x y ≡ Greater → order y x ≡ Less
  Less-from_greater x y h = o.antisymm y x ∙ ap ordering_reverse h

  pub Equal-sym : (x y : K) → order x y ≡ Equal → order y x ≡ Equal
  Equal-sym = tied_back o

  pub Equal-self : (x : K) → order x x ≡ Equal
  Equal-self = tied_itself o

  pub Less-trans : (x y z : K) → order x y ≡ Less → order y z ≡ Less → order x z ≡ Less
  Less-trans = o.trans

  -- equal items stand alike to any other
  pub same_left : (x y z : K) → order x y ≡ Equal → order x z ≡ order y z
  same_left = o.congr

  pub same_right : (x y z : K) → order x y ≡ Equal → order z x ≡ order z y
  same_right = alike_right o

  pub Less-then_equal : (x y z : K) → order x y ≡ Less → order y z ≡ Equal → order x z ≡ Less
  Less-then_equal x y z h e = sym (same_right y z x e) ∙ h

  pub Less-from_equal : (x y z : K) → order x y ≡ Equal → order y z ≡ Less → order x z ≡ Less
  Less-from_equal x y z e h = same_left x y z e ∙ h

  pub Greater-trans : (x y z : K) → order x y ≡ Greater → order y z ≡ Greater → order x z ≡ Greater
  Greater-trans x y z h k = Greater-from_less z x (o.trans z y x (Less-from_greater y z k) (Less-from_greater x y h))
