use Rattle.std.proofs.Common.{◌≡◌, ◌++◌, take, string_bytes, codes}
use Rattle.std.specs.List.{flat_map}
use Rattle.std.specs.Fmt.{signed_decimal}
use Rattle.range_calc_answers.proofs.answering.push_list.Given as goal

abbrev pub invariant-loop-n : goal.invariant-loop-n
invariant-loop-n l = string_bytes l.line ≡ string_bytes l.initial.line ++ flat_map (λ z. codes "," ++ signed_decimal z) (take l.n-index l.rest)
