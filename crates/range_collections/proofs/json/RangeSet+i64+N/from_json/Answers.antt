use Rattle.std.proofs.Common.{◌≡◌, sym, ◌∙◌, Some, None, refl}
use Rattle.std.specs.Prelude.{position}
use Rattle.serde_json.specs.View.{view, items_view}
use Rattle.serde_json.specs.Find.{as_array}
use Rattle.range_collections.specs.Json.{is_bad, first_bad}
use Rattle.range_collections.proofs.JsonLemmas.{first_bad-array, first_bad-no_array, IsReadingOf-array}
use Rattle.range_collections.proofs.json.RangeSet+i64+N.from_json.Goals as goal

pub returns-in-None-clause-not_array : goal.returns-in-None-clause-not_array
returns-in-None-clause-not_array g c = (λ _. sym c.in-None.ensures, λ _. refl)

pub returns-in-None-clause-not_integer : goal.returns-in-None-clause-not_integer
returns-in-None-clause-not_integer g c =
    let b : first_bad (view c.args.value.now) ≡ None = first_bad-no_array (view c.args.value.now) (sym c.in-None.ensures) in
    λ i. (λ h. cc, λ h. cc)

pub returns-in-Some-bad_place-clause-not_integer : goal.returns-in-Some-bad_place-clause-not_integer
returns-in-Some-bad_place-clause-not_integer g c =
    let a : as_array (view c.args.value.now) ≡ Some (items_view c.as_slice-items.result.now) = rw c.as_slice-items.ensures.value (sym c.in-Some.ensures) in
    let p : position (λ v. is_bad (view v)) c.as_slice-items.result.now ≡ Some c.in-Some-bad_place.index = sym c.in-Some-bad_place.ensures in
    let b : first_bad (view c.args.value.now) ≡ Some c.in-Some-bad_place.index =
    first_bad-array (view c.args.value.now) c.as_slice-items.result.now a ∙ p in
    λ i. (λ h. cc, λ h. cc)

pub returns-in-Ok-clause-not_integer : goal.returns-in-Ok-clause-not_integer
returns-in-Ok-clause-not_integer g c =
    let a : as_array (view c.args.value.now) ≡ Some (items_view c.as_slice-items.result.now) = rw c.as_slice-items.ensures.value (sym c.in-Some.ensures) in
    let p : position (λ v. is_bad (view v)) c.as_slice-items.result.now ≡ None = sym c.in-None-bad_place.ensures in
    let b : first_bad (view c.args.value.now) ≡ None =
    first_bad-array (view c.args.value.now) c.as_slice-items.result.now a ∙ p in
    λ i. (λ h. cc, λ h. cc)

pub returns-in-Ok-clause-ok : goal.returns-in-Ok-clause-ok
returns-in-Ok-clause-ok g c =
    let a : as_array (view c.args.value.now) ≡ Some (items_view c.as_slice-items.result.now) = rw c.as_slice-items.ensures.value (sym c.in-Some.ensures) in
    let p : position (λ v. is_bad (view v)) c.as_slice-items.result.now ≡ None = sym c.in-None-bad_place.ensures in
    IsReadingOf-array (view c.args.value.now) c.as_slice-items.result.now c.in-Ok.set a p c.in-Ok.ensures

pub returns-in-Err-clause-not_integer : goal.returns-in-Err-clause-not_integer
returns-in-Err-clause-not_integer g c =
    let a : as_array (view c.args.value.now) ≡ Some (items_view c.as_slice-items.result.now) = rw c.as_slice-items.ensures.value (sym c.in-Some.ensures) in
    let p : position (λ v. is_bad (view v)) c.as_slice-items.result.now ≡ None = sym c.in-None-bad_place.ensures in
    let b : first_bad (view c.args.value.now) ≡ None =
    first_bad-array (view c.args.value.now) c.as_slice-items.result.now a ∙ p in
    λ i. (λ h. cc, λ h. cc)
