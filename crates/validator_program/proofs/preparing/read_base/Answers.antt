use Rattle.std.proofs.Common.{◌∙◌, ap}
use Rattle.uri_references.specs.Identity.{identity_of}
use Rattle.validator_program.proofs.Small.{text_or}
use Rattle.validator_program.proofs.preparing.read_base.Goals as goal

pub returns : goal.returns
returns c = c.in_ok-from_str.ensures.ok ∙ ap identity_of (ap (λ s. s.now) c.unwrap_or.ensures ∙ text_or c.args.base _)
