use Rattle.std.proofs.Common.{sym, ◌∙◌}
use Rattle.range_c.proofs.Meant.{length-meant}
use Rattle.range_c.proofs.laws.a_list_is_told_by_its_length.Goals as goal

pub returns : goal.returns
returns g c = record {
  told = λ f a b old new items n off answers up means.
      answers.counted ∙ sym (length-meant g.met.T.Ord.total f a b items off up means);
}
