-- A range set within a limit, by the list that it is to leave.
use Rattle.std.proofs.Common.{◌≡◌, refl, sym, ap, ◌∙◌, ⊎_elim, ℕ, zero, suc, ◌-◌, ◌^◌, ◌≤◌, ◌<◌, inl, inr, Option, Some, None, Bool, true, false, List, [], ◌∷◌, length, take, set, Result, Ok, Err, arith, true≢false}
use Rattle.std.proofs.lemmas.Bool.{cases_lt}
use Rattle.std.proofs.lemmas.List.{length-take-le, take_all, nil_from_length}
use Rattle.std.specs.Cmp.{nat_cmp_total}
use Rattle.std.specs.Ordering.{nat_cmp}
use Rattle.std.specs.declared.cmp.Ordering.TheVariants.{Less}
use Rattle.std.specs.declared.ops.Range.{Range}
use Rattle.range_merge.specs.Boundaries.{IsAscending, is_odd, member}
use Rattle.range_merge.specs.Connective.{Table, Means}
use Rattle.range_collections.specs.Ranges.{range_items}
use Rattle.range_collections.specs.Splicing.{range_table, spliced, IsCut}
use Rattle.range_collections.proofs.Insertion.{Means-spliced, Means-alike}
use Rattle.range_tracker.specs.declared.track_error.TrackError.{TrackError}
use Rattle.range_tracker.specs.declared.track_error.TrackError.TheVariants.{TooMany, OutOfMemory}
use Rattle.range_tracker.specs.Offsets.{Offsets, IsListOf, HasBoundaries, is_within}
use Rattle.range_tracker.specs.Commands.{MayAnswer, after_command}
use Rattle.range_tracker.specs.declared.tracker.Command.{Command}
use Rattle.range_tracker.proofs.OffsetsLemmas.{is_even-from_means, IsListOf-from_means, IsListOf-self, same_length}
use Rattle.range_collections.proofs.Ascending.{IsAscending-nil}
use Rattle.range_collections.proofs.Changing.{cut-put, cut-none}
use Rattle.range_chunked_tracker.specs.Tracking.{IsAllOrNone, IsTracking, IsSetWithin}

pub two-from_even : (n : ℕ) → is_odd n ≡ false → 0 < n → 2 ≤ n
two-from_even zero even some = absurd (omega (arith, some))
two-from_even (suc zero) even some = absurd (true≢false even)
two-from_even (suc (suc n)) even some = omega arith

pub length-front : (n : ℕ) (items : List ℕ) → IsAllOrNone n items → n ≡ length (take n items)
length-front n items front =
    let within : n ≤ length items = ⊎_elim (λ none. omega (arith, none)) (λ all. omega (arith, all)) front.all_or_none in
    sym (length-take-le n items within)

module _ (inside : Bool) (limit : ℕ) (old : List ℕ) (range : Range ℕ) (want : List ℕ)
    (m : Means nat_cmp (range_table inside) want old (range_items nat_cmp range.start range.end)) where
  pub set-refused : (new : List ℕ) (b : ℕ) (r : Result ℕ TrackError) → b ≡ length want → limit < b → r ≡ Err (TooMany b) →
      IsSetWithin inside limit old range new r
  set-refused new b r count many is = rw is (record {
    left = want;
    means = m;
    taken = tt;
    front = tt;
    within = tt;
    too_many = λ n. (
      λ same. let e : b ≡ n = cc in (sym count ∙ e, omega (arith, many, e)),
      λ both. ap (λ k. Err (TooMany k)) (count ∙ both.0),
    );
    no_memory = λ few bad. cc;
  })

  pub set-no_memory : (new : List ℕ) (r : Result ℕ TrackError) → length want ≤ limit → length old < length want → 0 < length old → r ≡ Err OutOfMemory →
      IsSetWithin inside limit old range new r
  set-no_memory new r fits grows some is = rw is (record {
    left = want;
    means = m;
    taken = tt;
    front = tt;
    within = tt;
    too_many = λ n. (λ same. cc, λ both. absurd (omega (arith, both.0, both.1, fits)));
    no_memory = λ few bad. ⊎_elim (λ le. omega (arith, le, grows)) (λ none. omega (arith, none, some)) few;
  })

  pub set-done : (new : List ℕ) (n : ℕ) → n ≡ length want → n ≤ limit → take n new ≡ want → IsAllOrNone n new → IsSetWithin inside limit old range new (Ok n)
  set-done new n count fits taken front = record {
    left = want;
    means = m;
    taken = taken;
    front = front;
    within = fits;
    too_many = λ k. (λ same. cc, λ both. absurd (omega (arith, both.0, both.1, count, fits)));
    no_memory = λ few bad. cc;
  }

-- where something was there, the range is set by a splice
module _ (inside : Bool) (limit : ℕ) (a : List ℕ) (range : Range ℕ) (from to : ℕ) (s e : Option ℕ) (up : IsAscending nat_cmp a)
    (less : nat_cmp range.start range.end ≡ Less) (p : IsCut nat_cmp inside a range.start from s) (q : IsCut nat_cmp inside a range.end to e) where
  abbrev want : List ℕ
  want = spliced a from to s e

  meant : Means nat_cmp (range_table inside) want a (range_items nat_cmp range.start range.end)
  meant = Means-spliced nat_cmp_total inside a range.start range.end from to s e up less p q

  pub spliced-refused : (new : List ℕ) (b : ℕ) (r : Result ℕ TrackError) → b ≡ length want → limit < b → r ≡ Err (TooMany b) →
      IsSetWithin inside limit a range new r
  spliced-refused = set-refused inside limit a range want meant

  pub spliced-no_memory : (new : List ℕ) (b : ℕ) (r : Result ℕ TrackError) → b ≡ length want → b ≤ limit → (length want ≤ length a → ⊥) → 0 < length a → r ≡ Err OutOfMemory →
      IsSetWithin inside limit a range new r
  spliced-no_memory new b r count fits grows some is =
      set-no_memory inside limit a range want meant new r (omega (arith, count, fits))
      (⊎_elim (λ more. more) (λ few. absurd (grows few)) (cases_lt (length a) (length want))) some is

  pub spliced-done : (new : List ℕ) (b : ℕ) → b ≡ length want → b ≤ limit → 0 < b → is_odd (length a) ≡ false → new ≡ want →
      IsSetWithin inside limit a range new (Ok b)
  spliced-done new b count fits some even is =
      let long : b ≡ length new = count ∙ ap length (sym is) in
      let two : 2 ≤ length want = two-from_even (length want) (is_even-from_means (range_table inside) refl want a range meant even) (omega (arith, count, some)) in
      set-done inside limit a range want meant new b count fits (take_all b new (omega (arith, long)) ∙ is)
      (record { all_or_none = inr long; room = omega (arith, two, ap length is) })

  pub spliced-none : (new : List ℕ) (b : ℕ) → b ≡ length want → b ≡ 0 → 2 ≤ length new → IsSetWithin inside limit a range new (Ok b)
  spliced-none new b count none room =
      set-done inside limit a range want meant new b count (omega (arith, none))
      (ap (λ n. take n new) none ∙ sym (nil_from_length want (sym count ∙ none)))
      (record { all_or_none = inl none; room = room })

-- where nothing was there, the range alone is there, or nothing
module _ (inside : Bool) (range : Range ℕ) (less : nat_cmp range.start range.end ≡ Less) where
  pub Means-first : inside ≡ true →
      Means nat_cmp (range_table inside) (range.start ∷ range.end ∷ []) [] (range_items nat_cmp range.start range.end)
  Means-first on =
      Means-spliced nat_cmp_total inside [] range.start range.end 0 0 (Some range.start) (Some range.end) (IsAscending-nil nat_cmp) less
      (cut-put nat_cmp inside on range.start) (cut-put nat_cmp inside on range.end)

  pub Means-none : inside ≡ false → Means nat_cmp (range_table inside) [] [] (range_items nat_cmp range.start range.end)
  Means-none off =
      Means-spliced nat_cmp_total inside [] range.start range.end 0 0 None None (IsAscending-nil nat_cmp) less
      (cut-none nat_cmp inside off range.start) (cut-none nat_cmp inside off range.end)

-- what a tracker answers where its range was set so
module _ (inside : Bool) (f : Table) (alike : (x y : Bool) → range_table inside x y ≡ f x y) (limit : ℕ) (old : List ℕ) (range : Range ℕ) (new : List ℕ)
    (up : IsAscending nat_cmp old) where
  abbrev had : Offsets
  had = member nat_cmp old

  abbrev after : Offsets
  after = λ n. f (had n) (is_within range n)

  pub listed : (r : Result ℕ TrackError) (s : IsSetWithin inside limit old range new r) → IsListOf s.left after
  listed r s =
      IsListOf-from_means f s.left old range
      (Means-alike (range_table inside) f alike s.left old (range_items nat_cmp range.start range.end) s.means)

  as_many : (r : Result ℕ TrackError) (s : IsSetWithin inside limit old range new r) (n : ℕ) → HasBoundaries after n → length s.left ≡ n
  as_many r s n h = same_length after s.left h.0 (listed r s) h.1 ∙ h.2

  were : (m : ℕ) → HasBoundaries had m → length old ≡ m
  were m h = same_length had old h.0 (IsListOf-self old up) h.1 ∙ h.2

  module _ (command : Command) (is : after_command command had ≡ after) where
    pub MayAnswer-refused : (e : TrackError) → IsSetWithin inside limit old range new (Err e) → MayAnswer limit had command (Err e)
    MayAnswer-refused e s = record {
      too_many = λ n. (
        λ same.
            let why : e ≡ TooMany n = cc in
            let told = (s.too_many n).0 (ap Err why) in
            (rw is (s.left, listed (Err e) s, told.0), told.1),
        λ both.
            let told = (s.too_many n).1 (as_many (Err e) s n (rw is at both.0), both.1) in
            cc,
      );
      no_growth = λ m n before there few bad.
          let why : e ≡ OutOfMemory = cc in
          s.no_memory (inl (omega (arith, few, were m before, as_many (Err e) s n (rw is at there)))) (ap Err why);
      first = λ none bad.
          let why : e ≡ OutOfMemory = cc in
          s.no_memory (inr (were 0 none)) (ap Err why);
    }

    pub MayAnswer-done : (k : ℕ) → IsSetWithin inside limit old range new (Ok k) → MayAnswer limit had command (Ok tt)
    MayAnswer-done k s = record {
      too_many = λ n. (
        λ same. cc,
        λ both.
            let told = (s.too_many n).1 (as_many (Ok k) s n (rw is at both.0), both.1) in
            cc,
      );
      no_growth = λ m n before there few bad. cc;
      first = λ none bad. cc;
    }

  pub offsets-done : (k : ℕ) (s : IsSetWithin inside limit old range new (Ok k)) (n : ℕ) → member nat_cmp (take k new) n ≡ after n
  offsets-done k s n = ap (λ items. member nat_cmp items n) s.taken ∙ (listed (Ok k) s).offsets n

  pub IsTracking-done : f false false ≡ false → (k : ℕ) → IsSetWithin inside limit old range new (Ok k) → is_odd (length old) ≡ false → limit ≤ 2 ^ 64 - 3 → IsAscending nat_cmp new →
      IsTracking new k limit
  IsTracking-done off k s even room sorted =
      let means = Means-alike (range_table inside) f alike s.left old (range_items nat_cmp range.start range.end) s.means in
      record {
        sorted = sorted;
        front = s.front;
        ended =
            ap is_odd (length-front k new s.front ∙ ap length s.taken)
            ∙ is_even-from_means f off s.left old range means even;
        within = s.within;
        room = room;
      }

pub is_even-front : (n : ℕ) (items : List ℕ) → IsAllOrNone n items → is_odd n ≡ false → is_odd (length (take n items)) ≡ false
is_even-front n items front even = ap is_odd (sym (length-front n items front)) ∙ even

-- two of a list's items replaced by others, and the rest removed
pub two-kept : (xs ys zs : List ℕ) (n m k a b : ℕ) → 2 ≤ length xs → n ≡ 0 → m ≡ 1 → k ≡ 2 → ys ≡ set xs n a → zs ≡ set ys m b → take k zs ≡ a ∷ b ∷ []
two-kept xs ys zs n m k a b room en em ek ey ez =
    ap (λ j. take j zs) ek ∙ ap (λ ws. take 2 ws) (ez ∙ ap (λ j. set ys j b) em ∙ ap (λ ws. set ws 1 b) (ey ∙ ap (λ j. set xs j a) en)) ∙ of_two xs room
  where
    of_two : (ws : List ℕ) → 2 ≤ length ws → take 2 (set (set ws 0 a) 1 b) ≡ a ∷ b ∷ []
    of_two [] room = absurd (omega (arith, room))
    of_two (x ∷ []) room = absurd (omega (arith, room))
    of_two (x ∷ y ∷ ws) room = refl
