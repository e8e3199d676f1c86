use Rattle.std.proofs.Common.{subst, arith}
use Rattle.std.specs.List.{All}
use Rattle.std.proofs.lemmas.List.{take_all}
use Rattle.std.proofs.lemmas.List.Elements.{All-more}
use Rattle.schema_validators.specs.RefusedTexts.{IsNotOf}
use Rattle.schema_validators.proofs.refused_texts.first_of.Goals as goal

pub loop-cause-preserved : goal.loop-cause-preserved
loop-cause-preserved c =
    let Other = IsNotOf c.args.error.now in
    All-more Other c.args.causes.now c.loop-cause.cause-index c.cause-item.result c.loop-cause-test.true c.loop-cause.invariant
    (subst Other c.cause-item.is (c.is_of.ensures.others c.if-is_of.false))

pub returns-clause-none : goal.returns-clause-none
returns-clause-none c = λ none.
    subst (All (IsNotOf c.args.error.now)) (take_all c.loop-cause.cause-index c.args.causes.now (omega arith)) c.loop-cause.invariant
