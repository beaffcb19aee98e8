-- What an operation writes into a slice.
use Rattle.std.proofs.Common.{◌≡◌, ◌↔◌, ℕ, ◌<◌, List, ◌++◌, length, take, drop, Result, Ok, Err, IsErr, IfOk, IfErr, ap, ◌∙◌, sym}
use Rattle.std.proofs.lemmas.List.{length-map, take_at, drop_at}
use Rattle.std.specs.declared.cmp.Ordering.{Ordering}
use Rattle.range_merge.specs.Changes.{changes, taken_item, taken_items}
use Rattle.range_merge.specs.Connective.{Table, Means}
use Rattle.range_merge.specs.declared.merge_state.buffer.NoRoom.{NoRoom}
use Rattle.range_collections.specs.Buffers.{WritesOperation}

module _ {K : Type 0} (order : K → K → Ordering) (f : Table) (a b old new : List K) where
  pub WritesOperation-written : (r : Result ℕ NoRoom) → Means order f (taken_items (changes order f a b)) a b
      → IfOk r (λ n. new ≡ taken_items (changes order f a b) ++ drop n old) → IfOk r (λ n. n ≡ length (changes order f a b))
      → (IsErr r ↔ (length old < length (changes order f a b))) → IfErr r (λ refused. refused.needed ≡ length (changes order f a b))
      → WritesOperation order f a b old new r
  WritesOperation-written (Ok n) means written many no_room needed =
      let ts = changes order f a b in
      let long : length (taken_items ts) ≡ n = length-map ts taken_item ∙ sym many in
      let front : take n new ≡ taken_items ts = ap (take n) written ∙ take_at (taken_items ts) (drop n old) n long in
      record {
        means = rw front means;
        left_own_item = front;
        written = many;
        after = ap (drop n) written ∙ drop_at (taken_items ts) (drop n old) n long;
        no_room = no_room;
        needed = tt;
      }
  WritesOperation-written (Err refused) means written many no_room needed =
      record { means = tt; left_own_item = tt; written = tt; after = tt; no_room = no_room; needed = needed }
