use Rattle.std.proofs.Common.{◌∙◌, sym, ap, subst}
use Rattle.serde_json.specs.View.{view}
use Rattle.schema_meaning.specs.Faults.{Faults, none}
use Rattle.schema_reports.specs.Stands.{verdict_stands}
use Rattle.schema_reports.specs.declared.observer.Observation.TheVariants as kept
use Rattle.schema_reports.specs.declared.observer.Observer.TheVariants as observers
use Rattle.schema_engine.specs.Matches.{completed, none_matched}
use Rattle.graph_answers.specs.Certain.{faults_in, IsTelling}
use Rattle.graph_answers.specs.Completions.{matches_with}
use Rattle.graph_answers.specs.declared.telling.Telling.TheVariants as telling
use Rattle.graph_answers.proofs.CertainLemmas.{agree_in}
use Rattle.graph_answers.proofs.telling.judge_once.Goals as goal

pub unreachable-requires : goal.unreachable-requires
unreachable-requires g c =
    let told = subst (IsTelling g.K.Validate.shape c.args.graph.now.nodes.items c.args.start (view c.args.value.now) (matches_with g.M.PatternMatcher.finds c.args.table.now c.args.assumed.now) (observers.Verdict c.new.result))
    (c.in-Told-First.is ∙ ap telling.Told c.in-Told-First.field-0-is) c.in_ok-verdict.ensures in
    (told none_matched).heard kept.Verdict none c.new.ensures

pub unreachable-requires-in-Told-All : goal.unreachable-requires-in-Told-All
unreachable-requires-in-Told-All g c =
    let told = subst (IsTelling g.K.Validate.shape c.args.graph.now.nodes.items c.args.start (view c.args.value.now) (matches_with g.M.PatternMatcher.finds c.args.table.now c.args.assumed.now) (observers.Verdict c.new.result))
    (c.in-Told-All.is ∙ ap telling.Told c.in-Told-All.field-0-is) c.in_ok-verdict.ensures in
    (told none_matched).heard kept.Verdict none c.new.ensures

pub unreachable-requires-in-Told-Paths : goal.unreachable-requires-in-Told-Paths
unreachable-requires-in-Told-Paths g c =
    let told = subst (IsTelling g.K.Validate.shape c.args.graph.now.nodes.items c.args.start (view c.args.value.now) (matches_with g.M.PatternMatcher.finds c.args.table.now c.args.assumed.now) (observers.Verdict c.new.result))
    (c.in-Told-Paths.is ∙ ap telling.Told c.in-Told-Paths.field-0-is) c.in_ok-verdict.ensures in
    (told none_matched).heard kept.Verdict none c.new.ensures

pub returns-in-Told-Verdict : goal.returns-in-Told-Verdict
returns-in-Told-Verdict g c rest =
    let shape = g.K.Validate.shape in
    let nodes = c.args.graph.now.nodes.items in
    let d = view c.args.value.now in
    let m = matches_with g.M.PatternMatcher.finds c.args.table.now c.args.assumed.now in
    let told = subst (IsTelling shape nodes c.args.start d m (observers.Verdict c.new.result))
    (c.in-Told-Verdict.is ∙ ap telling.Told c.in-Told-Verdict.field-0-is) c.in_ok-verdict.ensures in
    let fs : Faults = faults_in shape nodes c.args.start d (completed m rest) in
    c.accepts.ensures fs (subst (λ v. verdict_stands v fs) (sym c.in-Told-Verdict.verdict-is) ((told rest).heard kept.Verdict none c.new.ensures))
    ∙ agree_in shape nodes c.args.start d (completed m rest)
