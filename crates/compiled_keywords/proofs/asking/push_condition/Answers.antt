use Rattle.std.proofs.lemmas.Result.{on_ok_weaker}
use Rattle.schema_engine.proofs.Pushing.{seen_both}
use Rattle.compiled_keywords.specs.Forms.{condition_at}
use Rattle.compiled_keywords.specs.Seen.{seen_by}
use Rattle.compiled_keywords.proofs.asking.push_condition.Goals as goal

pub returns : goal.returns
returns c =
    on_ok_weaker c.push_else.result
    (λ last k. seen_both (seen_by (condition_at k)) _ _ _ _ _ (c.in_ok-push_here.ensures.condition k) (seen_both (seen_by (condition_at k)) _ _ _ _ _ (c.in_ok-push_then.ensures k) (last k)))
    c.push_else.ensures
