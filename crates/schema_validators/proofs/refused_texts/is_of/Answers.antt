use Rattle.std.proofs.Common.{sym, subst}
use Rattle.schema_validators.specs.RefusedTexts.{IsOf, IsNotOf}
use Rattle.schema_validators.proofs.refused_texts.is_of.Goals as goal

pub returns-in-Reference-clause-same : goal.returns-in-Reference-clause-same
returns-in-Reference-clause-same c = λ is. subst (IsOf c.args.error.now) (sym c.in-Reference.is) (c.name_one.ensures.same is)

pub returns-in-Reference-clause-others : goal.returns-in-Reference-clause-others
returns-in-Reference-clause-others c = λ is. subst (IsNotOf c.args.error.now) (sym c.in-Reference.is) (c.name_one.ensures.others is)
