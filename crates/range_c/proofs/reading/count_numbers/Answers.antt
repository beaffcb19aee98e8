use Rattle.std.proofs.Common.{◌&&◌, refl, sym, ap, ◌∙◌, true, length, arith}
use Rattle.std.specs.List.{flat_map, filter_map}
use Rattle.std.specs.Option.{is_some, option_to_list}
use Rattle.range_collections.specs.Ranges.{range_ends}
use Rattle.range_collections.specs.Reading.{parts_of, range_in, ranges_in}
use Rattle.range_collections.proofs.ReadParts.{next-part, no_part, yields-parts}
use Rattle.range_c.specs.Reading.{numbers_in}
use Rattle.range_c.proofs.Read.{are_ranges, are_ranges-step, is_ranges-all, numbers-step, none_before}
use Rattle.range_c.proofs.reading.count_numbers.Goals as goal

pub loop-part-init : goal.loop-part-init
unfolding ranges_in
loop-part-init g c = rw c.into_iter-part-iterator.ensures.into_iter_gives (record {
  left = parts_of c.args.text.now;
  yields = yields-parts c.split-part-items.result c.args.text.now c.split-part-items.ensures.text c.split-part-items.ensures.has_more c.split-part-items.ensures.pattern;
  counted = none_before (numbers_in g.T.WholeNumber.number c.args.text.now);
  ranges = refl;
})

pub overflow_add-count : goal.overflow_add-count
overflow_add-count g c =
    let number = g.T.WholeNumber.number in
    let at = c.loop-part.invariant in
    let next = next-part c.loop-part.part-iterator c.next.new.self c.in-Some.part at.left at.yields c.in-Some.ensures.steps in
    let all = numbers-step number c.loop-part.count (numbers_in number c.args.text.now) c.in-Some.part.now at.left next.rest next.is at.counted in
    omega (arith, all, c.requires.fits, c.ends-count.ensures, ap (λ r. length (flat_map range_ends (option_to_list r))) c.parse-range.ensures)

pub loop-part-preserved : goal.loop-part-preserved
loop-part-preserved g c =
    let number = g.T.WholeNumber.number in
    let at = c.loop-part.invariant in
    let next = next-part c.loop-part.part-iterator c.next.new.self c.in-Some.part at.left at.yields c.in-Some.ensures.steps in
    let all = numbers-step number c.loop-part.count (numbers_in number c.args.text.now) c.in-Some.part.now at.left next.rest next.is at.counted in
    record {
      left = next.rest;
      yields = next.yields;
      counted = omega (arith, all, c.ends-count.ensures, ap (λ r. length (flat_map range_ends (option_to_list r))) c.parse-range.ensures);
      ranges =
          are_ranges-step number c.loop-part.are_ranges (are_ranges number (parts_of c.args.text.now)) c.is_some-are_ranges.result c.in-Some.part.now at.left next.rest next.is
          (c.is_some-are_ranges.ensures ∙ ap is_some c.parse-range.ensures) at.ranges;
    }

pub returns-clause-count : goal.returns-clause-count
returns-clause-count g c =
    let number = g.T.WholeNumber.number in
    let at = c.loop-part.invariant in
    let none = no_part c.loop-part.part-iterator c.next.new.self at.left at.yields c.in-None.ensures.steps in
    omega (arith, at.counted, ap (λ xs. length (flat_map range_ends (filter_map (range_in number) xs))) none)

pub returns-clause-ranges : goal.returns-clause-ranges
returns-clause-ranges g c =
    let number = g.T.WholeNumber.number in
    let at = c.loop-part.invariant in
    let none = no_part c.loop-part.part-iterator c.next.new.self at.left at.yields c.in-None.ensures.steps in
    λ all. is_ranges-all number c.args.text.now
    (sym at.ranges ∙ ap (λ parts. c.loop-part.are_ranges && are_ranges number parts) none ∙ ap (λ b. b && true) all)
