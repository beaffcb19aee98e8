-- What is written piece after piece.
use Rattle.std.proofs.Common.{◌≡◌, sym, ap, ◌∙◌, ℕ, List, [], ◌++◌, append_assoc}
use Rattle.std.specs.Prelude.{Option, Some, None, Result, Ok, Err, OnOk}
use Rattle.std.proofs.lemmas.List.{append-nil}
use Rattle.std.specs.Io.KnownBytes.{Appends, Keeps}

pub Appends-nothing : (known : Option (List ℕ)) → Appends known known []
Appends-nothing None = tt
Appends-nothing (Some xs) = sym (append-nil xs)

pub Appends-then : (a b c : Option (List ℕ)) (x y z : List ℕ) → Appends a b x → Appends b c y → x ++ y ≡ z → Appends a c z
Appends-then None b c x y z h k e = tt
Appends-then (Some xs) None c x y z h k e = absurd h
Appends-then (Some xs) (Some ys) None x y z h k e = absurd k
Appends-then (Some xs) (Some ys) (Some zs) x y z h k e = k ∙ ap (λ front. front ++ y) h ∙ append_assoc xs x y ∙ ap (λ more. xs ++ more) e

pub Appends-kept : (a b c : Option (List ℕ)) (x : List ℕ) → Appends a b x → Keeps b c → Appends a c x
Appends-kept None b c x h k = tt
Appends-kept (Some xs) None c x h k = absurd h
Appends-kept (Some xs) (Some ys) None x h k = absurd k
Appends-kept (Some xs) (Some ys) (Some zs) x h k = k ∙ h

pub OnOk-then : {A E : Type 0} (r : Result A E) (a b c : Option (List ℕ)) (x y z : List ℕ) →
    Appends a b x → OnOk r (Appends b c y) → x ++ y ≡ z → OnOk r (Appends a c z)
OnOk-then (Ok done) a b c x y z h k e = Appends-then a b c x y z h k e
OnOk-then (Err why) a b c x y z h k e = tt
