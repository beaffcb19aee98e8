-- What a read appended to a list: it was written to the end of the filled list, which was then cut.
use Rattle.std.proofs.Common.{◌≡◌, ℕ, ◌+◌, ◌≤◌, List, ◌++◌, length, take, drop, ap, sym, ◌∙◌, append_assoc}
use Rattle.std.proofs.lemmas.List.{drop-take, drop_at, length-take-le, take-append-le, take-take}

-- of a list whose end was overwritten by `out`, cut so far: what stands after its first n items
pub drop-cut : {X : Type 0} (n k len : ℕ) (xs out rest more : List X) (m : ℕ) (new : List X) → n ≡ m → n ≤ length xs → k ≤ length out → n + k ≤ len
    → new ≡ take (n + k) (take len ((take n xs ++ (out ++ rest)) ++ more)) → drop m new ≡ take k out
drop-cut n k len xs out rest more m new is within fits long cut =
    let whole : List _ = take n xs ++ (out ++ (rest ++ more)) in
    let cut_so : new ≡ take (n + k) whole =
    cut ∙ take-take (n + k) len _ long ∙ ap (take (n + k)) (append_assoc (take n xs) (out ++ rest) more ∙ ap (λ ys. take n xs ++ ys) (append_assoc out rest more)) in
    ap (λ i. drop i new) (sym is) ∙ ap (drop n) cut_so ∙ drop-take n k whole
    ∙ ap (take k) (drop_at (take n xs) (out ++ (rest ++ more)) n (length-take-le n xs within)) ∙ take-append-le k out (rest ++ more) fits
