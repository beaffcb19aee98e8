use Rattle.std.proofs.Common.{◌<◌, refl, sym, ap, ◌∙◌, length, take, Some, arith, rules}
use Rattle.std.proofs.lemmas.List.{length-set, length-take-le, take_more_set}
use Rattle.range_collections.specs.declared.range_set_range.RangeSetRange.TheVariants.{Range}
use Rattle.range_c.proofs.Read.{IsReading-start, IsReading-none, IsReading-range, IsReading-from, AreRead-all, fits-more}
use Rattle.range_c.proofs.reading.read_ranges.Goals as goal

pub loop-part-init : goal.loop-part-init
loop-part-init g c = rw c.into_iter-part-iterator.ensures.into_iter_gives (record {
  len = refl;
  within = omega arith;
  read = IsReading-start g.met.E.Number.Ord.total g.E.Number.WholeNumber.number g.E.Ends.first g.E.Ends.last c.args.text.now c.split-part-items.result c.split-part-items.ensures.text c.split-part-items.ensures.has_more c.split-part-items.ensures.pattern;
})

pub bounds-ranges-len : goal.bounds-ranges-len
bounds-ranges-len g c =
    let at = c.loop-part.invariant in
    let more = fits-more g.met.E.Number.Ord.total g.E.Number.WholeNumber.number g.E.Ends.first g.E.Ends.last c.args.text.now c.loop-part.part-iterator
    (take c.loop-part.len c.loop-part.ranges) c.loop-part.from at.read c.next.new.self c.in-Some.part c.in-Some.ensures.steps
    (Range c.in-Some-Range.range) (sym c.in-Some-Range.ensures ∙ ap Some c.in-Some-Range.field-0-is) in
    omega (arith, more, length-take-le c.loop-part.len c.loop-part.ranges at.within, c.requires.room, at.len)

pub overflow_add-len : goal.overflow_add-len
overflow_add-len g c =
    let at = c.loop-part.invariant in
    let more = fits-more g.met.E.Number.Ord.total g.E.Number.WholeNumber.number g.E.Ends.first g.E.Ends.last c.args.text.now c.loop-part.part-iterator
    (take c.loop-part.len c.loop-part.ranges) c.loop-part.from at.read c.next.new.self c.in-Some.part c.in-Some.ensures.steps
    (Range c.in-Some-Range.range) (sym c.in-Some-Range.ensures ∙ ap Some c.in-Some-Range.field-0-is) in
    search (rules, more)

pub loop-part-preserved-in-Some-Range : goal.loop-part-preserved-in-Some-Range
loop-part-preserved-in-Some-Range g c =
    let at = c.loop-part.invariant in
    let ranges = c.loop-part.ranges in
    let front = take c.loop-part.len ranges in
    let more = fits-more g.met.E.Number.Ord.total g.E.Number.WholeNumber.number g.E.Ends.first g.E.Ends.last c.args.text.now c.loop-part.part-iterator
    front c.loop-part.from at.read c.next.new.self c.in-Some.part c.in-Some.ensures.steps (Range c.in-Some-Range.range) (sym c.in-Some-Range.ensures ∙ ap Some c.in-Some-Range.field-0-is) in
    let within : c.loop-part.len < length ranges = omega (arith, more, length-take-le c.loop-part.len ranges at.within, c.requires.room, at.len) in
    let read = IsReading-range g.met.E.Number.Ord.total g.E.Number.WholeNumber.number g.E.Ends.first g.E.Ends.last c.args.text.now c.loop-part.part-iterator
    front c.loop-part.from at.read c.next.new.self c.in-Some.part c.in-Some.ensures.steps
    c.of.result c.in-Some-Range.range.start c.in-Some-Range.range.end (sym c.in-Some-Range.ensures ∙ ap Some c.in-Some-Range.field-0-is) c.of.ensures.starts c.of.ensures.ends in
    record {
      len = length-set ranges c.loop-part.len c.of.result ∙ at.len;
      within = omega (arith, within, length-set ranges c.loop-part.len c.of.result);
      read = rw (take_more_set ranges c.loop-part.len c.of.result within) read;
    }

pub loop-part-preserved-in-Some-RangeFrom : goal.loop-part-preserved-in-Some-RangeFrom
loop-part-preserved-in-Some-RangeFrom g c =
    let at = c.loop-part.invariant in
    record {
      len = at.len;
      within = at.within;
      read =
          IsReading-from g.met.E.Number.Ord.total g.E.Number.WholeNumber.number g.E.Ends.first g.E.Ends.last c.args.text.now c.loop-part.part-iterator
          (take c.loop-part.len c.loop-part.ranges) c.loop-part.from at.read c.next.new.self c.in-Some.part c.in-Some.ensures.steps
          c.in-Some-RangeFrom.range.start c.lowest.result (sym c.in-Some-RangeFrom.ensures ∙ ap Some c.in-Some-RangeFrom.field-0-is) c.lowest.ensures;
    }

pub loop-part-preserved : goal.loop-part-preserved
loop-part-preserved g c =
    let at = c.loop-part.invariant in
    record {
      len = at.len;
      within = at.within;
      read =
          IsReading-none g.met.E.Number.Ord.total g.E.Number.WholeNumber.number g.E.Ends.first g.E.Ends.last c.args.text.now c.loop-part.part-iterator
          (take c.loop-part.len c.loop-part.ranges) c.loop-part.from at.read c.next.new.self c.in-Some.part c.in-Some.ensures.steps (sym c.in-None-parse.ensures);
    }

pub returns-clause-members : goal.returns-clause-members
returns-clause-members g c =
    (AreRead-all g.met.E.Number.Ord.total g.E.Number.WholeNumber.number g.E.Ends.first g.E.Ends.last c.args.text.now c.loop-part.part-iterator
    (take c.loop-part.len c.loop-part.ranges) c.loop-part.from c.loop-part.invariant.read c.next.new.self c.in-None.ensures.steps).members

pub returns-clause-few : goal.returns-clause-few
returns-clause-few g c =
    let at = c.loop-part.invariant in
    let all = AreRead-all g.met.E.Number.Ord.total g.E.Number.WholeNumber.number g.E.Ends.first g.E.Ends.last c.args.text.now c.loop-part.part-iterator
    (take c.loop-part.len c.loop-part.ranges) c.loop-part.from at.read c.next.new.self c.in-None.ensures.steps in
    omega (arith, all.few, length-take-le c.loop-part.len c.loop-part.ranges at.within)
