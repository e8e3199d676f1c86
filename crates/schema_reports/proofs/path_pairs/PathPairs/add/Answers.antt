use Rattle.std.proofs.Common.{sym, ap, ◌∙◌}
use Rattle.schema_definitions.specs.PathTexts.{path_text}
use Rattle.schema_reports.proofs.PairLemmas.{pair_added}
use Rattle.schema_reports.proofs.path_pairs.PathPairs.add.Goals as goal

pub returns : goal.returns
returns c = λ fs f stands comes before.
    pair_added c.args.self.now.pairs.items c.push.new.self.items c.in_ok-instance.instance c.in_ok-evaluation.evaluation c.in_ok-push.ensures.items f
    (c.in_ok-instance.ensures ∙ ap path_text (sym stands)) (c.in_ok-evaluation.ensures ∙ ap path_text (sym comes)) fs before
