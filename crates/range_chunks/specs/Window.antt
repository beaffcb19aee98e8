-- The window of a list of boundaries that those of another list can touch.
--     IsWindow order items that from to    outside these places no boundary equals one of the other list
use Rattle.std.specs.Prelude.{◌≡◌, ℕ, ◌≤◌, ◌<◌, false, List, length, All}
use Rattle.std.specs.List.{AllWithin}
use Rattle.std.specs.declared.cmp.Ordering.{Ordering}
use Rattle.std.specs.declared.cmp.Ordering.TheVariants.{Less}
use Rattle.range_merge.specs.Boundaries.{is_odd}

-- all items before place `from` are below those of the other list, and all from place `to` on are above
-- them; the first number is even, and so are the other and the other list's length, unless the window
-- ends where the items do
pub record IsWindow {K : Type 0} (order : K → K → Ordering) (items that : List K) (from to : ℕ) : Type 0 where
  pub ordered : from ≤ to
  pub within : to ≤ length items
  pub below : All (λ t. AllWithin (λ y. order y t ≡ Less) items 0 from) that
  pub above : All (λ t. AllWithin (λ y. order t y ≡ Less) items to (length items)) that
  pub starts_off : is_odd from ≡ false
  pub ends_off : to < length items → is_odd to ≡ false
  pub that_ends_off : to < length items → is_odd (length that) ≡ false
