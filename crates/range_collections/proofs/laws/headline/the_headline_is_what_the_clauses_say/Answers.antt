use Rattle.range_collections.specs.Headline.{EveryElement}
use Rattle.range_collections.proofs.Combined.{Means-of_off}
use Rattle.range_collections.proofs.Headline.{MeansAmong-result, AreOwnElseOf-result}
use Rattle.range_collections.proofs.laws.headline.the_headline_is_what_the_clauses_say.Goals as goal

pub returns : goal.returns
returns g c =
    let o = g.met.T.Ord.total in
    let is_copy = g.T.EntryClone.is_copy in
    record {
      means = λ f a b items off h. (Means-of_off o EveryElement f items a b off).0 (MeansAmong-result o EveryElement f a b items is_copy is_copy h);
      among = λ f a b items h. MeansAmong-result o g.T.RangeSetEntry.is_value f a b items is_copy is_copy h;
      left_own_item = AreOwnElseOf-result o;
      comparisons = λ f a b r before after h. (h.fact, h.comparisons.at_most);
      negation = λ a items other v w m n. m.unique other n.negates v w;
    }
