use Rattle.std.proofs.Common.{map, arith}
use Rattle.std.proofs.lemmas.List.{at_drop_all}
use Rattle.schema_meaning.specs.Questions.{each_branch}
use Rattle.compiled_keywords.specs.Forms.{alone, index_at}
use Rattle.compiled_keywords.proofs.PushLemmas.{put_done}
use Rattle.compiled_keywords.proofs.asking.push_branches.Goals as goal

pub returns : goal.returns
returns c = λ k.
    let i = c.loop-index.index in
    put_done (index_at k) _ _ _ _ (at_drop_all (λ ns. map alone (each_branch k i ns)) c.args.nodes.now i (omega (arith, c.loop-index-test.false))) (c.loop-index.invariant k)
