-- Ranges with their values, put one after the other into two buffers.
use Rattle.std.proofs.Common.{◌≡◌, sym, ap, subst, ◌∙◌, ℕ, ◌*◌, ◌/◌, ◌≤◌, List, [], ◌∷◌, ◌++◌, length, take, drop, map, min, arith}
use Rattle.std.proofs.Math.Nat.{min-le_left, min-le_right}
use Rattle.std.proofs.lemmas.List.{append-nil, length-map, map-append, take_all, take_at}
use Rattle.std.specs.List.{flat_map}
use Rattle.range_collections.specs.Ranges.{range_ends}
use Rattle.range_collections.specs.declared.range_set_range.RangeSetRange.{RangeSetRange}
use Rattle.range_c.specs.Mapped.{entry_ends, with_room, CopiesEntries}
use Rattle.range_c.specs.Text.{PutsText}
use Rattle.range_c.proofs.Put.{PutsText-append, PutsText-ends, length-all_ends}

module _ {K V : Type 0} where
  -- so many have twice as many ends at most
  pub length-entry_ends : (es : List (RangeSetRange K × V)) → length (entry_ends es) ≤ 2 * length es
  length-entry_ends es = omega (arith, length-all_ends (map (λ e. e.0) es), length-map es (λ e. e.0))

  -- one more after some
  pub PutsText-entry_ends : (done : List (RangeSetRange K × V)) (one : RangeSetRange K × V) (m n : ℕ) (old mid new : List K)
      → PutsText 0 (entry_ends done) old mid m → PutsText m (range_ends one.0) mid new n → PutsText 0 (entry_ends (done ++ one ∷ [])) old new n
  PutsText-entry_ends done one m n old mid new first second =
      subst (λ rs. PutsText 0 (flat_map range_ends rs) old new n) (sym (map-append (λ e. e.0) done (one ∷ [])))
      (PutsText-ends (map (λ e. e.0) done) one.0 m n old mid new first second)

  pub PutsText-value : (done : List (RangeSetRange K × V)) (one : RangeSetRange K × V) (m n : ℕ) (old mid new : List V)
      → PutsText 0 (map (λ e. e.1) done) old mid m → PutsText m (one.1 ∷ []) mid new n → PutsText 0 (map (λ e. e.1) (done ++ one ∷ [])) old new n
  PutsText-value done one m n old mid new first second =
      subst (λ vs. PutsText 0 vs old new n) (sym (map-append (λ e. e.1) done (one ∷ [])))
      (PutsText-append 0 m n (map (λ e. e.1) done) (one.1 ∷ []) old mid new first second)

  module _ (es done rest : List (RangeSetRange K × V)) (ends_old ends_new : List K) (values_old values_new : List V) (n count : ℕ)
      (ends : PutsText 0 (entry_ends done) ends_old ends_new n) (values : PutsText 0 (map (λ e. e.1) done) values_old values_new count)
      (whole : done ++ rest ≡ es) where
    abbrev room : ℕ
    room = min (length ends_old / 2) (length values_old)

    first_entries : done ≡ with_room ends_old values_old es → length done ≤ room → CopiesEntries es ends_old ends_new values_old values_new n
    first_entries same few =
        let counted : count ≡ length done = omega (arith, values.counted, length-map done (λ e. e.1)) in
        record {
          counted = omega (arith, ends.counted, ap (λ ds. length (entry_ends ds)) same);
          ends = ends.written (omega (arith, ends.counted, few, min-le_left (length ends_old / 2) (length values_old), length-entry_ends done))
              ∙ ap (λ ds. entry_ends ds ++ drop n ends_old) same;
          values = values.written (omega (arith, counted, few, min-le_right (length ends_old / 2) (length values_old)))
              ∙ ap (λ k. map (λ e. e.1) done ++ drop k values_old) counted
              ∙ ap (λ ds. map (λ e. e.1) ds ++ drop (length ds) values_old) same;
        }

    -- as many as have room
    pub CopiesEntries-full : length done ≡ room → CopiesEntries es ends_old ends_new values_old values_new n
    CopiesEntries-full full = first_entries (sym (take_at done rest room full) ∙ ap (take room) whole) (omega (arith, full))

    -- fewer, and these are all
    pub CopiesEntries-all : rest ≡ [] → length done ≤ room → CopiesEntries es ends_old ends_new values_old values_new n
    CopiesEntries-all none few =
        let all : done ≡ es = sym (append-nil done) ∙ ap (λ xs. done ++ xs) (sym none) ∙ whole in
        first_entries (all ∙ sym (take_all room es (omega (arith, few, ap length all)))) few
