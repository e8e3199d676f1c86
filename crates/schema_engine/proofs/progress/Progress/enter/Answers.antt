use Rattle.std.proofs.Common.{◌∷◌, ap, arith}
use Rattle.schema_engine.specs.Progress.{numbers_in}
use Rattle.schema_engine.proofs.Bounds.{entered_before}
use Rattle.schema_engine.proofs.progress.Progress.enter.Goals as goal

pub returns-in-Target : goal.returns-in-Target
returns-in-Target c =
    entered_before c.min.result c.max.result c.in-Target.lowest c.in-Target.highest c.args.node (numbers_in c.args.self.now) (c.in-Target.node ∷ numbers_in c.in-Target.before.now)
    (ap numbers_in c.in-Target.is) (omega arith) (omega arith) (omega arith) (omega arith)
