use Rattle.std.proofs.Common.{◌∙◌, List, map, string_bytes, ap, subst}
use Rattle.serde_json.specs.View.{view}
use Rattle.schema_patterns.specs.declared.table.PatternTable.{PatternTable}
use Rattle.schema_engine.specs.Graphs.{keywords_at}
use Rattle.schema_engine.specs.Hearing.{HearsMore}
use Rattle.schema_engine.specs.Matches.{completed}
use Rattle.graph_answers.specs.Certain.{faults_in}
use Rattle.graph_answers.specs.Completions.{matches_with, start_at, asked_from, IsStop}
use Rattle.graph_answers.specs.declared.assumed.AssumedMatch.{AssumedMatch}
use Rattle.graph_answers.proofs.CertainLemmas.{hears_in}
use Rattle.graph_answers.proofs.Completing.{same_completed}
use Rattle.graph_answers.proofs.telling.tell_once.Goals as goal

pub tell-requires-clause-begin : goal.tell-requires-clause-begin
tell-requires-clause-begin g c = record {
  keywords = λ n. ap (λ a. map g.K.Validate.shape (keywords_at a.nodes.items n)) c.new-matching.ensures.graph;
  node = c.new-matching.ensures.start;
  value = ap (λ v. view v) c.new-matching.ensures.value;
}

pub returns-in-Ok : goal.returns-in-Ok
returns-in-Ok g c rest =
    let finds = g.M.PatternMatcher.finds in
    let nodes = c.args.graph.now.nodes.items in
    let d = view c.args.value.now in
    let old = c.args.observer in
    let new = c.tell.new.observer in
    let made = c.new-matching.result in
    let m = matches_with finds made.table.now made.assumed.now in
    let s = start_at g.K.Validate.shape made.graph.now.nodes.items made.start (view made.value.now) in
    let told = hears_in g.K.Validate.shape nodes c.args.start d c.args.graph.now.sound (completed (asked_from s m) rest) old new (c.in-Ok.ensures.cut rest) in
    subst (λ (as_said : List AssumedMatch). HearsMore (faults_in g.K.Validate.shape nodes c.args.start d (completed (matches_with finds c.args.table.now as_said) rest)) old new) c.new-matching.ensures.assumed
    (subst (λ (table : PatternTable g.row.M.Denot). HearsMore (faults_in g.K.Validate.shape nodes c.args.start d (completed (matches_with finds table made.assumed.now) rest)) old new) c.new-matching.ensures.table
    (subst (λ reads. HearsMore (faults_in g.K.Validate.shape nodes c.args.start d reads) old new) (same_completed s m rest) told))

pub returns-in-Some : goal.returns-in-Some
returns-in-Some g c =
    let finds = g.M.PatternMatcher.finds in
    let shape = g.K.Validate.shape in
    let made = c.new-matching.result in
    let nodes = c.args.graph.now.nodes.items in
    let d = view c.args.value.now in
    let p = string_bytes c.in-Some.stopped.pattern in
    let t = string_bytes c.in-Some.stopped.text in
    let e = c.new-matching.ensures in
    let is = ap (λ a. asked_from (start_at shape a.nodes.items made.start (view made.value.now)) (matches_with finds made.table.now made.assumed.now)) e.graph
    ∙ ap (λ n. asked_from (start_at shape nodes n (view made.value.now)) (matches_with finds made.table.now made.assumed.now)) e.start
    ∙ ap (λ v. asked_from (start_at shape nodes c.args.start (view v)) (matches_with finds made.table.now made.assumed.now)) e.value
    ∙ ap (λ x. asked_from (start_at shape nodes c.args.start d) (matches_with finds x made.assumed.now)) e.table
    ∙ ap (λ xs. asked_from (start_at shape nodes c.args.start d) (matches_with finds c.args.table.now xs)) e.assumed in
    subst (λ m. IsStop m p t) (c.in-Err.ensures.stays ∙ is) c.in-Some.ensures.stop
