use Rattle.std.proofs.Common.{[], inl, subst}
use Rattle.std.proofs.lemmas.Result.{IfOk-weaker}
use Rattle.serde_json.specs.View.{view}
use Rattle.schema_reports.specs.Told.{faults_of, AreAll}
use Rattle.schema_reports.specs.declared.observer.Observer.TheVariants as observers
use Rattle.schema_engine.specs.Matches.{InEach, none_matched}
use Rattle.graph_answers.specs.Certain.{faults_in, IsTelling}
use Rattle.graph_answers.specs.Completions.{matches_with}
use Rattle.graph_answers.proofs.CertainLemmas.{run_heard, certain_told, certain_certified}
use Rattle.graph_answers.proofs.certain.tell_certain.Goals as goal

heard : (g : _) (c : goal.After-all_heard g) → InEach (matches_with g.M.PatternMatcher.finds c.args.table.now [])
    (λ reads. AreAll c.all_heard.result.items (faults_in g.K.Validate.shape c.args.graph.now.nodes.items c.args.start (view c.args.value.now) reads))
heard g c =
    let m = matches_with g.M.PatternMatcher.finds c.args.table.now [] in
    run_heard g.K.Validate.shape c.args.graph.now.nodes.items c.args.start (view c.args.value.now) m c.new.result c.in-Told.observer c.all_heard.result.items c.new.ensures
    (subst (IsTelling g.K.Validate.shape c.args.graph.now.nodes.items c.args.start (view c.args.value.now) m (observers.All c.new.result)) c.in-Told.is c.in_ok-observer.ensures) c.all_heard.ensures

pub returns-in-Told-clause-each : goal.returns-in-Told-clause-each
returns-in-Told-clause-each g c = record { either = inl (λ rest. (heard g c rest).told) }

pub returns-in-Told-clause-proper : goal.returns-in-Told-clause-proper
returns-in-Told-clause-proper g c = (heard g c none_matched).proper

pub returns-in-Told-clause-faults : goal.returns-in-Told-clause-faults
returns-in-Told-clause-faults g c =
    certain_told g.K.Validate.shape g.M.PatternMatcher.finds c.args.graph.now.nodes.items c.args.table.now c.args.start (view c.args.value.now) c.args.graph.now.sound (faults_of c.all_heard.result.items)
    (returns-in-Told-clause-each g c)

pub returns-in-Told-clause-certified : goal.returns-in-Told-clause-certified
returns-in-Told-clause-certified g c =
    certain_certified g.K.Validate.shape g.M.PatternMatcher.finds c.args.graph.now.nodes.items c.args.table.now c.args.start (view c.args.value.now) c.args.graph.now.sound (faults_of c.all_heard.result.items)
    (returns-in-Told-clause-each g c)

pub returns-in-Stopped-clause-faults : goal.returns-in-Stopped-clause-faults
returns-in-Stopped-clause-faults g c =
    IfOk-weaker c.tell_open.result _ _
    (λ es h. certain_told g.K.Validate.shape g.M.PatternMatcher.finds c.args.graph.now.nodes.items c.args.table.now c.args.start (view c.args.value.now) c.args.graph.now.sound (faults_of es.items) h)
    c.tell_open.ensures.each

pub returns-in-Stopped-clause-certified : goal.returns-in-Stopped-clause-certified
returns-in-Stopped-clause-certified g c =
    IfOk-weaker c.tell_open.result _ _
    (λ es h. certain_certified g.K.Validate.shape g.M.PatternMatcher.finds c.args.graph.now.nodes.items c.args.table.now c.args.start (view c.args.value.now) c.args.graph.now.sound (faults_of es.items) h)
    c.tell_open.ensures.each
