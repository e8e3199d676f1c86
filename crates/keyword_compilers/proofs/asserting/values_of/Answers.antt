use Rattle.keyword_compilers.proofs.CopyLemmas.{copied}
use Rattle.std.proofs.lemmas.Result.{IfOk-weaker}
use Rattle.keyword_compilers.proofs.asserting.values_of.Goals as goal

pub returns : goal.returns
returns c = IfOk-weaker c.to_vec.result _ _ (λ v h. copied c.args.values.now v.items h) c.to_vec.ensures.ok
