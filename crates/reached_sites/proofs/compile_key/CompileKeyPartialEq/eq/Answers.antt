use Rattle.reached_sites.specs.Keyed.{keys_equal}
use Rattle.reached_sites.proofs.Filing.{equal-decides, one-answer}
use Rattle.reached_sites.proofs.compile_key.CompileKeyPartialEq.eq.Goals as goal

pub returns : goal.returns
returns c = one-answer c.is.result (keys_equal c.args.self.now c.args.other.now) c.is.ensures (equal-decides c.args.self.now c.args.other.now)
