use Rattle.std.proofs.Common.{◌≡◌, subst, take}
use Rattle.range_collections.specs.Boundaries.{member}
use Rattle.range_collections.specs.Ranges.{range_boundaries}
use Rattle.range_collections.specs.Reading.{ranges_in}
use Rattle.range_collections.specs.Unions.{is_in_one}
use Rattle.range_collections.proofs.Unions.{in_one_range}
use Rattle.range_c.specs.Ranges.{ends_and}
use Rattle.range_c.proofs.reading.read.Goals as goal

pub returns-in-Ok-clause-members : goal.returns-in-Ok-clause-members
returns-in-Ok-clause-members g c =
    let order = g.E.Number.Ord.cmp in
    let number = g.E.Number.WholeNumber.number in
    let items = ends_and g.E.Ends.first g.E.Ends.last (take c.read_text.result.0 c.read_text.new.ranges) c.read_text.result.1 in
    λ x. in_one_range g.met.E.Number.Ord.total (ranges_in number c.args.bytes.now) x (member order items x)
    (subst (λ text. member order items x ≡ is_in_one order (range_boundaries order) (ranges_in number text) x) c.in-Ok.ensures.cases.0 (c.read_text.ensures.members x))
