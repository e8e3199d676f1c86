use Rattle.std.proofs.Common.{ap, ◌∙◌}
use Rattle.schema_definitions.specs.PathTexts.{path_text}
use Rattle.schema_reports.specs.Told.{fault_of}
use Rattle.schema_reports.proofs.PairLemmas.{pair_added}
use Rattle.schema_reports.proofs.path_pairs.PathPairs.add_error.Goals as goal

pub returns : goal.returns
returns c =
    pair_added c.args.self.now.pairs.items c.push.new.self.items c.in_ok-instance.instance c.in_ok-evaluation.evaluation c.in_ok-push.ensures.items (fault_of c.args.error)
    (c.in_ok-instance.ensures ∙ ap path_text c.instance_path.ensures) (c.in_ok-evaluation.ensures ∙ ap path_text c.evaluation_path.ensures)
