use Rattle.std.proofs.Common.{◌≡◌, ◌↔◌, ◌+◌, [], ◌∷◌, ◌++◌, sym, ap, ◌∙◌, subst, take, List, arith}
use Rattle.std.specs.List.{Any}
use Rattle.std.specs.declared.cmp.Ordering.TheVariants.{Equal}
use Rattle.std.proofs.lemmas.List.{take_more, take_all}
use Rattle.std.proofs.lemmas.Result.{IfOk-weaker}
use Rattle.range_collections.specs.Ranges.{IsInRange}
use Rattle.range_collections.specs.declared.range_set_range.RangeSetRange.{RangeSetRange}
use Rattle.range_collections.proofs.SingleValues.{Any-push}
use Rattle.range_collections.proofs.range_set.RangeSet.from_values.Goals as goal

same_lists : {K : Type 0} (P : RangeSetRange K → Type 0) (Q : K → Type 0) (xs xs' : List (RangeSetRange K)) (ys ys' : List K) → xs ≡ xs' → ys ≡ ys' →
    Any P xs' ↔ Any Q ys' → Any P xs ↔ Any Q ys
same_lists P Q xs xs' ys ys' e f both =
    subst (λ l. Any P l ↔ Any Q ys) (sym e) (subst (λ l. Any P xs' ↔ Any Q l) (sym f) both)

pub loop-value-preserved : goal.loop-value-preserved
loop-value-preserved g c x v =
    let P = λ (range : RangeSetRange g.row.T.Denot). IsInRange g.T.Ord.cmp range x in
    let Q = λ (value : g.row.T.Denot). g.T.Ord.cmp value x ≡ Equal in
    same_lists P Q c.push.new.self.items (c.loop-value.ranges.items ++ c.range_of.result ∷ [])
    (take (c.loop-value.value-index + 1) c.args.values.now) (take c.loop-value.value-index c.args.values.now ++ c.value-item.result ∷ [])
    c.in_ok-push.ensures.items
    (take_more c.args.values.now c.loop-value.value-index c.value-item.result (omega arith)
    ∙ ap (λ item. take c.loop-value.value-index c.args.values.now ++ item ∷ []) (sym c.value-item.is))
    (Any-push P Q c.loop-value.ranges.items (take c.loop-value.value-index c.args.values.now) c.range_of.result c.value-item.result
    (c.loop-value.invariant x v) (c.range_of.ensures x v))

pub returns : goal.returns
returns g c =
    IfOk-weaker c.from_ranges.result _ _
    (λ set m x v.
    let P = λ (range : RangeSetRange g.row.T.Denot). IsInRange g.T.Ord.cmp range x in
    let Q = λ (value : g.row.T.Denot). g.T.Ord.cmp value x ≡ Equal in
    let all : take c.loop-value.value-index c.args.values.now ≡ c.args.values.now = take_all c.loop-value.value-index c.args.values.now c.loop-value-test.false in
    let both : Any P c.as_slice.result.now ↔ Any Q c.args.values.now =
    same_lists P Q c.as_slice.result.now c.loop-value.ranges.items c.args.values.now (take c.loop-value.value-index c.args.values.now)
    c.as_slice.ensures.value (sym all) (c.loop-value.invariant x v) in
    ((λ e. both.0 ((m x).0 e)), (λ a. (m x).1 (both.1 a))))
    c.from_ranges.ensures.members
