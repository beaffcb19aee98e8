use Rattle.std.proofs.Common.{◌≡◌, ℕ, ◌<◌, ◌≤◌, ◌↔◌, List, [], ◌∷◌, ◌++◌, length, take, refl, sym, ap, ◌∙◌, arith, length-append}
use Rattle.std.specs.Prelude.{Result, Ok, Err, IsOk, OnOk, OnErr}
use Rattle.std.proofs.lemmas.Result.{on_err_weaker}
use Rattle.std.proofs.lemmas.List.{take_all, take-append-le}
use Rattle.range_track_answers.proofs.line.keep.Goals as goal

kept : {A E : Type 0} (r : Result A E) (old new : List ℕ) (byte : ℕ) → IsOk r ↔ (length old < 65) → OnOk r (new ≡ old ++ byte ∷ []) → OnErr r (new ≡ old) →
    OnErr r (length old ≡ 65) → new ≡ take 65 (old ++ byte ∷ [])
kept (Ok done) old new byte room ok err full =
    let few : length (old ++ byte ∷ []) ≤ 65 = omega (arith, length-append old (byte ∷ []), room.0 refl) in
    ok ∙ sym (take_all 65 (old ++ byte ∷ []) few)
kept (Err back) old new byte room ok err full =
    let all : 65 ≤ length old = omega (arith, full) in
    err ∙ sym (take-append-le 65 old (byte ∷ []) all ∙ take_all 65 old (omega (arith, full)))

pub returns : goal.returns
returns c =
    let told = c.try_push.ensures in
    kept c.try_push.result c.args.line.now.items c.try_push.new.self.items c.args.byte told.variant told.ok
    (on_err_weaker c.try_push.result (λ e. ap (λ v. v.items) e) told.err) told.full
