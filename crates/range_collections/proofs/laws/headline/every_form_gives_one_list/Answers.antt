use Rattle.range_collections.proofs.Headline.{AreEqual-results}
use Rattle.range_collections.proofs.laws.headline.every_form_gives_one_list.Goals as goal

pub returns : goal.returns
returns g c = record {
  borrowed = λ f a b items new off given left. AreEqual-results g.met.T.Ord.total f a b items new _ _ _ _ off given left.ok;
  owned = λ f a b items new off given left. AreEqual-results g.met.T.Ord.total f a b items new _ _ _ _ off given left.ok;
  refused = λ f a b new error h. h.unchanged;
  refused_owned = λ f a b new back error h. (h.unchanged, h.handed_back);
}
