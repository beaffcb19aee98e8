use Rattle.std.proofs.Common.{◌≡◌, Some, None, true, false, sym, true≢false, rules}
use Rattle.range_list.specs.Lists.{joined}
use Rattle.range_map.specs.Places.{span_of}
use Rattle.range_map.specs.declared.step.Step.{Step}
use Rattle.range_map.proofs.Put.{span_ordered, canonical-put, values-put, put-fits, none-put, one-put}
use Rattle.range_map.proofs.replacing.put_range.Goals as goal

pub put_steps-requires-clause-ordered : goal.put_steps-requires-clause-ordered
put_steps-requires-clause-ordered g c =
    let items = joined c.args.steps.now in
    let span = span_of c.args.steps.now c.args.places in
    span_ordered g.K.Ord.cmp g.met.K.Ord.total g.V.PartialEq.eq g.met.V.Eq.laws items c.requires.canonical c.args.start c.args.end c.requires.some c.args.option span c.requires.places

pub put_steps-requires-2-clause-ordered : goal.put_steps-requires-2-clause-ordered
put_steps-requires-2-clause-ordered g c =
    let items = joined c.args.steps.now in
    let span = span_of c.args.steps.now c.args.places in
    span_ordered g.K.Ord.cmp g.met.K.Ord.total g.V.PartialEq.eq g.met.V.Eq.laws items c.requires.canonical c.args.start c.args.end c.requires.some c.args.option span c.requires.places

pub returns-in-Ok-clause-canonical : goal.returns-in-Ok-clause-canonical
returns-in-Ok-clause-canonical g c =
    let items = joined c.args.steps.now in
    let span = span_of c.args.steps.now c.args.places in
    let step : Step g.row.K.Denot g.row.V.Denot = record { key = c.args.start; option = c.args.option } in
    let off : c.args.places.starts ≡ false = search rules in
    canonical-put g.K.Ord.cmp g.met.K.Ord.total g.V.PartialEq.eq g.met.V.Eq.laws items c.requires.canonical c.args.start c.args.end c.requires.some c.args.option span c.requires.places
    c.args.copied c.requires.copied None c.end_if-end.result (none-put _ step off) c.end_if-end.ensures (joined c.put_steps.new.steps) c.in-Ok.ensures.items

pub returns-in-Ok-clause-values : goal.returns-in-Ok-clause-values
returns-in-Ok-clause-values g c =
    let items = joined c.args.steps.now in
    let span = span_of c.args.steps.now c.args.places in
    let step : Step g.row.K.Denot g.row.V.Denot = record { key = c.args.start; option = c.args.option } in
    let off : c.args.places.starts ≡ false = search rules in
    values-put g.K.Ord.cmp g.met.K.Ord.total g.V.PartialEq.eq g.met.V.Eq.laws items c.requires.canonical c.args.start c.args.end c.requires.some c.args.option span c.requires.places
    c.args.copied c.requires.copied None c.end_if-end.result (none-put _ step off) c.end_if-end.ensures (joined c.put_steps.new.steps) c.in-Ok.ensures.items

pub returns-in-Ok-put_steps-clause-canonical : goal.returns-in-Ok-put_steps-clause-canonical
returns-in-Ok-put_steps-clause-canonical g c =
    let items = joined c.args.steps.now in
    let span = span_of c.args.steps.now c.args.places in
    let step : Step g.row.K.Denot g.row.V.Denot = record { key = c.args.start; option = c.args.option } in
    let on : c.args.places.starts ≡ true = search rules in
    canonical-put g.K.Ord.cmp g.met.K.Ord.total g.V.PartialEq.eq g.met.V.Eq.laws items c.requires.canonical c.args.start c.args.end c.requires.some c.args.option span c.requires.places
    c.args.copied c.requires.copied (Some step) c.end_if-end.result (one-put _ step on) c.end_if-end.ensures (joined c.put_steps-2.new.steps) c.in-Ok-put_steps.ensures.items

pub returns-in-Ok-put_steps-clause-values : goal.returns-in-Ok-put_steps-clause-values
returns-in-Ok-put_steps-clause-values g c =
    let items = joined c.args.steps.now in
    let span = span_of c.args.steps.now c.args.places in
    let step : Step g.row.K.Denot g.row.V.Denot = record { key = c.args.start; option = c.args.option } in
    let on : c.args.places.starts ≡ true = search rules in
    values-put g.K.Ord.cmp g.met.K.Ord.total g.V.PartialEq.eq g.met.V.Eq.laws items c.requires.canonical c.args.start c.args.end c.requires.some c.args.option span c.requires.places
    c.args.copied c.requires.copied (Some step) c.end_if-end.result (one-put _ step on) c.end_if-end.ensures (joined c.put_steps-2.new.steps) c.in-Ok-put_steps.ensures.items

pub returns-in-Err-clause-succeeds : goal.returns-in-Err-clause-succeeds
returns-in-Err-clause-succeeds g c =
    let items = joined c.args.steps.now in
    let span = span_of c.args.steps.now c.args.places in
    let step : Step g.row.K.Denot g.row.V.Denot = record { key = c.args.start; option = c.args.option } in
    let off : c.args.places.starts ≡ false = search rules in
    λ fits. absurd (true≢false (sym (c.in-Err.ensures.succeeds (put-fits g.K.Ord.cmp g.met.K.Ord.total g.V.PartialEq.eq g.met.V.Eq.laws items c.requires.canonical c.args.start c.args.end c.requires.some c.args.option span c.requires.places
    None c.end_if-end.result (none-put _ step off) c.end_if-end.ensures fits))))

pub returns-in-Err-put_steps-clause-succeeds : goal.returns-in-Err-put_steps-clause-succeeds
returns-in-Err-put_steps-clause-succeeds g c =
    let items = joined c.args.steps.now in
    let span = span_of c.args.steps.now c.args.places in
    let step : Step g.row.K.Denot g.row.V.Denot = record { key = c.args.start; option = c.args.option } in
    let on : c.args.places.starts ≡ true = search rules in
    λ fits. absurd (true≢false (sym (c.in-Err-put_steps.ensures.succeeds (put-fits g.K.Ord.cmp g.met.K.Ord.total g.V.PartialEq.eq g.met.V.Eq.laws items c.requires.canonical c.args.start c.args.end c.requires.some c.args.option span c.requires.places
    (Some step) c.end_if-end.result (one-put _ step on) c.end_if-end.ensures fits))))
