use Rattle.std.proofs.Common.{◌∙◌, refl, arith, rules}
use Rattle.std.specs.Option.{option_to_list, option_copied}
use Rattle.range_list.specs.Chunks.{flat}
use Rattle.range_list.proofs.Between.{place-before, between-parts, between-indices, between-none}
use Rattle.range_list.proofs.items.Items.between.Goals as goal

pub behind-requires : goal.behind-requires
behind-requires g c =
    place-before c.args.chunks.now c.args.from c.args.to.chunk c.requires.from (search rules) (omega (arith, c.requires.to.chunk))

pub returns-then-from-to : goal.returns-then-from-to
returns-then-from-to g c =
    between-parts c.args.chunks.now c.args.from c.args.to.chunk c.requires.from (search rules) (omega (arith, c.requires.to.chunk))
    c.args.to c.index-chunks-to.result
    c.behind.result.0.now (flat c.behind.result.1.now) (option_to_list (option_copied c.between.result.0)) c.between.result.1.now refl c.requires.to c.index-chunks-to.is c.behind.ensures c.between.ensures

pub returns-then-from-to-2 : goal.returns-then-from-to-2
returns-then-from-to-2 g c = c.none.ensures ∙ between-none c.args.chunks.now c.args.from c.args.to c.requires.to (search rules)

pub returns : goal.returns
returns g c =
    c.between-2.ensures
    ∙ between-indices c.args.chunks.now c.args.from c.args.to c.index-chunks-to-2.result c.requires.from c.requires.to (omega (arith, c.if-from-to.false, c.if-from-to-2.false)) c.index-chunks-to-2.is c.requires.ordered
