use Rattle.std.proofs.Common.{◌≡◌, true, map, drop}
use Rattle.schema_meaning.specs.Members.{all_true}
use Rattle.schema_meaning.specs.Keywords.{rule}
use Rattle.schema_engine.specs.Itself.{is_fine, SettlesSo}
use Rattle.schema_engine.specs.Matches.{InEach}
use Rattle.schema_engine.specs.Places.{value_at}
use Rattle.schema_engine.specs.Rules.{is_right}
use Rattle.schema_engine.proofs.Rightness.{AllBut}
use Rattle.schema_engine.proofs.itself.accept_itself.Given as goal

abbrev pub invariant-loop-keyword : goal.invariant-loop-keyword
invariant-loop-keyword g l =
    let entry = g.T.Matching.matches l.fn.matching in
    record {
      matches : g.T.Matching.matches l.matching ≡ entry;
      fine : is_fine l.all ≡ true;
      left : InEach entry (λ m. all_true (map (λ k. is_right (rule m (value_at l.place) (g.K.Validate.shape k))) l.keywords)
          ≡ all_true (map (λ k. is_right (rule m (value_at l.place) (g.K.Validate.shape k))) (drop l.keyword-index l.keywords)));
      settled : InEach entry (λ m. AllBut (λ k. SettlesSo l.all (rule m (value_at l.place) (g.K.Validate.shape k))) l.keyword-index l.keywords (drop l.keyword-index l.keywords));
    }
