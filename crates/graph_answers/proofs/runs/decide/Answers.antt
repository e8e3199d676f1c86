use Rattle.std.proofs.Common.{◌∙◌, [], sym, subst}
use Rattle.std.proofs.lemmas.Result.{IfOk-weaker}
use Rattle.serde_json.specs.View.{view}
use Rattle.schema_engine.specs.Matches.{none_matched}
use Rattle.graph_answers.specs.Completions.{matches_with}
use Rattle.graph_answers.specs.Runs.{IsRun}
use Rattle.graph_answers.specs.declared.runs.Decision.TheVariants as decision
use Rattle.graph_answers.proofs.RunVerdicts.{verdict_of}
use Rattle.graph_answers.proofs.runs.decide.Goals as goal

pub returns-in-Answered-true-clause-cut : goal.returns-in-Answered-true-clause-cut
returns-in-Answered-true-clause-cut g c rest =
    let run = subst (IsRun g.K.Validate.shape c.args.graph.now.nodes.items c.args.start (view c.args.value.now) (matches_with g.M.PatternMatcher.finds c.args.table.now [])) c.in-Answered-true.is c.in_ok-run_once.ensures in
    sym (run rest) ∙ c.in-Answered-true.field-0-test

pub returns-in-Answered-false-clause-cut : goal.returns-in-Answered-false-clause-cut
returns-in-Answered-false-clause-cut g c =
    let run = subst (IsRun g.K.Validate.shape c.args.graph.now.nodes.items c.args.start (view c.args.value.now) (matches_with g.M.PatternMatcher.finds c.args.table.now [])) c.in-Answered-false.is c.in_ok-run_once.ensures in
    (none_matched, sym (run none_matched) ∙ c.in-Answered-false.field-0-test)

pub returns-in-Answered-true-clause-verdict : goal.returns-in-Answered-true-clause-verdict
returns-in-Answered-true-clause-verdict g c =
    verdict_of g.K.Validate.shape g.M.PatternMatcher.finds c.args.graph.now.nodes.items c.args.table.now c.args.start (view c.args.value.now) c.args.graph.now.sound decision.Accepted
    (returns-in-Answered-true-clause-cut g c)

pub returns-in-Answered-false-clause-verdict : goal.returns-in-Answered-false-clause-verdict
returns-in-Answered-false-clause-verdict g c =
    verdict_of g.K.Validate.shape g.M.PatternMatcher.finds c.args.graph.now.nodes.items c.args.table.now c.args.start (view c.args.value.now) c.args.graph.now.sound decision.Refused
    (returns-in-Answered-false-clause-cut g c)

pub returns-in-Stopped-clause-verdict : goal.returns-in-Stopped-clause-verdict
returns-in-Stopped-clause-verdict g c =
    IfOk-weaker c.assume_each.result _ _
    (verdict_of g.K.Validate.shape g.M.PatternMatcher.finds c.args.graph.now.nodes.items c.args.table.now c.args.start (view c.args.value.now) c.args.graph.now.sound)
    c.assume_each.ensures
