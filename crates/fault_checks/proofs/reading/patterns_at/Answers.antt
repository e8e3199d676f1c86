use Rattle.std.proofs.Common.{◌∙◌, sym}
use Rattle.fault_checks.specs.Passed.{documents_in, target_in}
use Rattle.fault_checks.proofs.ReadLemmas.{has_cause}
use Rattle.fault_checks.proofs.reading.patterns_at.Goals as goal

pub returns-then-is_of_schemas : goal.returns-then-is_of_schemas
returns-then-is_of_schemas g c = λ placed.
    has_cause (g.P.PatternMaker.patterns c.args.maker.now) (documents_in c.args.root.now.resolver) (target_in c.args.root.now) _ c.in-Err.cause c.in-Err.ensures.refused
    (sym c.is_of_schemas.ensures ∙ c.if-is_of_schemas.true)
