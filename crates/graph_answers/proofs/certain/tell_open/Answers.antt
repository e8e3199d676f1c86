use Rattle.std.proofs.Common.{◌∙◌, ◌⊎◌, [], true≢false, length, inl, inr, string_bytes, sym, ap, subst}
use Rattle.std.specs.Prelude.{◌==◌}
use Rattle.std.proofs.lemmas.Bool.{eqb-true}
use Rattle.serde_json.specs.View.{view}
use Rattle.schema_reports.specs.Told.{faults_of}
use Rattle.graph_answers.specs.Certain.{IsCertain, HasShared, MayRefuse}
use Rattle.graph_answers.specs.Completions.{matches_with, start_at}
use Rattle.graph_answers.specs.Runs.{IsDecision, AreSixOpen}
use Rattle.graph_answers.proofs.CertainLemmas.{certain_none, certain_some, certain_one, has_open_of, none_listed}
use Rattle.graph_answers.proofs.certain.tell_open.Goals.{in-Refused, in-Undecided}
use Rattle.graph_answers.proofs.certain.tell_open.Goals as goal

pub returns-in-Accepted-clause-each : goal.returns-in-Accepted-clause-each
returns-in-Accepted-clause-each g c =
    let shape = g.K.Validate.shape in
    let nodes = c.args.graph.now.nodes.items in
    let d = view c.args.value.now in
    let m = matches_with g.M.PatternMatcher.finds c.args.table.now [] in
    subst (λ es. IsCertain shape nodes c.args.start d m (faults_of es)) (sym c.new.ensures.items)
    (certain_none shape nodes c.args.start d m (subst (IsDecision shape nodes c.args.start d m) c.in-Accepted.is c.in_ok-shared.ensures.decided))

pub returns-then-not-is_empty-clause-each : goal.returns-then-not-is_empty-clause-each
returns-then-not-is_empty-clause-each g c =
    let shape = g.K.Validate.shape in
    let finds = g.M.PatternMatcher.finds in
    let nodes = c.args.graph.now.nodes.items in
    let d = view c.args.value.now in
    let m = matches_with finds c.args.table.now [] in
    let begin = start_at shape nodes c.args.start d in
    certain_some shape nodes c.args.start d m c.in_ok-shared.shared.errors.items
    (λ e. true≢false (sym (c.if-not-is_empty.ensures ∙ ap (λ n. n == 0) (c.in_ok-shared.shared.errors.ok.0 ∙ ap length e))))
    c.in_ok-shared.ensures.shared (has_open_of finds c.args.table.now begin (string_bytes c.args.stopped.pattern) (string_bytes c.args.stopped.text) c.requires.stop)

pub returns-clause-each : goal.returns-clause-each
returns-clause-each g c =
    let shape = g.K.Validate.shape in
    let finds = g.M.PatternMatcher.finds in
    let nodes = c.args.graph.now.nodes.items in
    let d = view c.args.value.now in
    let m = matches_with finds c.args.table.now [] in
    let begin = start_at shape nodes c.args.start d in
    let refuses : MayRefuse shape nodes c.args.start d m =
    elim c.match-shared.branch [
      | in-Refused w ↦ inl (subst (IsDecision shape nodes c.args.start d m) w.in-Refused.is c.in_ok-shared.ensures.decided)
      | in-Undecided w ↦ inr (subst (IsDecision shape nodes c.args.start d m) w.in-Undecided.is c.in_ok-shared.ensures.decided)
    ] in
    let none_left = subst (λ es. HasShared shape nodes c.args.start d m (faults_of es) ⊎ AreSixOpen m begin) (none_listed c.in_ok-shared.shared.errors.items (sym c.in_ok-shared.shared.errors.ok.0 ∙ eqb-true _ _ (sym c.if-not-is_empty.ensures))) c.in_ok-shared.ensures.shared.all in
    subst (λ es. IsCertain shape nodes c.args.start d m (faults_of es)) (sym c.in_ok-vec.ensures.items)
    (certain_one shape nodes c.args.start d m c.in_ok-error.error refuses c.in_ok-error.ensures none_left)
