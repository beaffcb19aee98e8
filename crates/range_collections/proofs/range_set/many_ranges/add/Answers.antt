use Rattle.std.proofs.Common.{◌≡◌, ◌∙◌, sym, ap, subst, refl, rules, arith, length, [], ◌∷◌}
use Rattle.std.specs.Prelude.{⊤}
use Rattle.std.specs.List.{AllZip}
use Rattle.std.specs.declared.cmp.Ordering.TheVariants.{Less}
use Rattle.range_collections.specs.ManyRanges.{EndsBefore, IsAddedOwn, IsRangeAdded}
use Rattle.range_collections.specs.Ranges.{range_boundaries, range_items}
use Rattle.range_collections.specs.declared.range_set_range.RangeSetRange.TheVariants.{Range}
use Rattle.range_collections.proofs.ManyRanges.{IsAdded-copies, range_is}
use Rattle.range_collections.proofs.Underway.{room-left, underway-put_on}
use Rattle.range_collections.proofs.range_set.many_ranges.add.Goals as goal

pub put_at_end-requires : goal.put_at_end-requires
put_at_end-requires g c =
    let same : c.args.set.now ≡ c.set.inside.list.items = search rules in (
      search rules,
      (
        search rules,
        (
          subst (λ items. EndsBefore g.T.Ord.cmp c.in-Some.touches items c.in-Range.range.start) same c.in-Some.ensures.ends,
          c.in-Some.ensures.less,
        ),
      ),
    )

pub returns-in-Some : goal.returns-in-Some
returns-in-Some g c =
    let r = c.in-Range.range in
    let is : c.args.range ≡ Range r = search rules in
    let same : c.args.set.now ≡ c.set.inside.list.items = search rules in
    let less : g.T.Ord.cmp r.start r.end ≡ Less = search rules in
    let own : AllZip (λ x y. x ≡ y) (range_items g.T.Ord.cmp r.start r.end) (r.start ∷ r.end ∷ []) =
    subst (λ ends. AllZip (λ x y. x ≡ y) ends (r.start ∷ r.end ∷ [])) (sym (range_is g.met.T.Ord.total r.start r.end less)) (refl, (refl, tt)) in
    let added : IsAddedOwn g.T.Ord.cmp g.row.N c.set.inside.list.items (range_items g.T.Ord.cmp r.start r.end) c.put_at_end.new.list.items c.put_at_end.result =
    IsAdded-copies g.met.T.Ord.total (λ x y. x ≡ y) (λ x. ⊤) g.row.N c.set.inside.list.items _ (r.start ∷ r.end ∷ []) c.put_at_end.new.list.items c.put_at_end.result
    own c.put_at_end.ensures.means c.put_at_end.ensures.left_own_item c.put_at_end.ensures.succeeds in
    let two : length (range_boundaries g.T.Ord.cmp c.args.range) ≡ 2 =
    ap (λ range. length (range_boundaries g.T.Ord.cmp range)) is ∙ ap length (range_is g.met.T.Ord.total r.start r.end less) in
    record {
      underway = λ ranges u.
          underway-put_on g.met.T.Ord.total g.row.N ranges c.args.range c.args.set.now c.args.aside.now.starts.items c.args.aside.now.ends.items
          c.put_at_end.new.list.items c.put_at_end.result u c.in-Some.ensures.none_aside
          (subst (λ range. IsAddedOwn g.T.Ord.cmp g.row.N c.args.set.now (range_boundaries g.T.Ord.cmp range) c.put_at_end.new.list.items c.put_at_end.result) (sym is)
          (subst (λ list. IsAddedOwn g.T.Ord.cmp g.row.N list (range_items g.T.Ord.cmp r.start r.end) c.put_at_end.new.list.items c.put_at_end.result) (sym same) added));
      succeeds = λ ranges u few.
          let left = room-left g.met.T.Ord.total g.row.N ranges c.args.range c.args.set.now c.args.aside.now.starts.items c.args.aside.now.ends.items u few in
          c.put_at_end.ensures.succeeds (omega (arith, left.1, two, ap length same));
      in_order = λ none low. refl;
    }

pub returns-in-None : goal.returns-in-None
returns-in-None g c =
    let is : c.args.range ≡ Range c.in-Range.range = search rules in
    subst (λ range. IsRangeAdded g.T.Ord.cmp g.row.N range c.args.set.now c.args.aside.now c.add_anywhere.new.set c.add_anywhere.new.aside c.add_anywhere.result) (sym is)
    c.add_anywhere.ensures
