use Rattle.std.proofs.Common.{◌∙◌, sym}
use Rattle.applicators.proofs.CombinedLemmas.{every_rule}
use Rattle.applicators.proofs.combined.Applicator.is_every.Goals as goal

pub returns-clause-rule : goal.returns-clause-rule
returns-clause-rule c = λ h. every_rule c.args.self.now (sym c.tells_each.ensures ∙ h)
