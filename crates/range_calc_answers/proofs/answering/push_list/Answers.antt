use Rattle.std.proofs.Common.{◌≡◌, ℕ, ℤ, pos, List, ◌++◌, Result, Ok, Err, get_or, take, sym, ap, ◌∙◌, append_assoc, string_bytes, codes}
use Rattle.std.specs.Prelude.{if◌then◌else◌, is_ok, OnOk}
use Rattle.std.specs.List.{flat_map}
use Rattle.std.specs.Fmt.{signed_decimal}
use Rattle.std.proofs.lemmas.List.{append-nil, flat_map_more, nil_from_length, take_all, take_more}
use Rattle.range_calc_answers.specs.Line.{list_text}
use Rattle.range_calc_answers.proofs.answering.push_list.Goals as goal

on_ok : {A E : Type 0} (r : Result A E) (after pushed before : List ℕ) → after ≡ (if is_ok r then pushed else before) → OnOk r (after ≡ pushed)
on_ok (Ok x) after pushed before e = e
on_ok (Err x) after pushed before e = tt

pub returns-in_default : goal.returns-in_default
unfolding list_text
returns-in_default c = let e = nil_from_length c.args.items.now c.in_default.ensures.cases in rw e (on_ok c.push_str.result _ _ _ c.push_str.ensures.bytes)

pub returns : goal.returns
unfolding list_text
returns c =
    let others : List ℤ → List ℕ = flat_map (λ z. codes "," ++ signed_decimal z) in
    let all_taken = take_all c.loop-n.n-index c.in-Some.rest.now c.loop-n-test.false in
    rw c.in-Some.ensures.cases.0
    (c.loop-n.invariant ∙ ap (λ front. front ++ others (take c.loop-n.n-index c.in-Some.rest.now)) c.in_ok-write.ensures.bytes
    ∙ append_assoc (string_bytes c.args.line.now) (signed_decimal c.in-Some.first.now) (others (take c.loop-n.n-index c.in-Some.rest.now))
    ∙ ap (λ zs. string_bytes c.args.line.now ++ (signed_decimal c.in-Some.first.now ++ others zs)) all_taken)

pub loop-n-init : goal.loop-n-init
loop-n-init c = sym (append-nil _)

pub loop-n-preserved : goal.loop-n-preserved
loop-n-preserved c =
    let number : ℤ → List ℕ = λ z. codes "," ++ signed_decimal z in
    let rest = c.in-Some.rest.now in
    let i = c.loop-n.n-index in
    let item = get_or rest i (pos 0) in
    let more = flat_map_more number (string_bytes c.write.new.self) (take i rest) item in
    let taken = take_more rest i (pos 0) c.loop-n-test.true in
    let written = c.in_ok-write-2.ensures.bytes in
    written ∙ ap (λ front. front ++ number item) c.loop-n.invariant ∙ more ∙ ap (λ zs. string_bytes c.write.new.self ++ flat_map number zs) (sym taken)
