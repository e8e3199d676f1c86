use Rattle.std.proofs.Common.{rules, ◌≡◌, ◌&&◌, ◌+◌, ◌∙◌, List, [], true, false, string_bytes, refl, sym, ap, subst, arith}
use Rattle.serde_json.specs.View.{view}
use Rattle.schema_engine.specs.Matches.{Answers, completed}
use Rattle.graph_answers.specs.Completions.{matches_with, start_at, asked_from, IsStop}
use Rattle.graph_answers.specs.Runs.{is_left, verdict_in, IsRun}
use Rattle.graph_answers.specs.declared.assumed.AssumedMatch.{AssumedMatch}
use Rattle.graph_answers.proofs.RunCounts.{Counts, begun, at_the_end, once_stopped, once_turned}
use Rattle.graph_answers.proofs.RunLemmas.{left_no, accepted_till, refused_by}
use Rattle.graph_answers.proofs.runs.assume_each.Goals.{in-Stopped+in_ok-push-in-Stopped, in-Answered-true+in_ok-turn_last-in-Answered-true+else-not-branch}
use Rattle.graph_answers.proofs.runs.assume_each.Goals as goal

pub returns-then-not-branch : goal.returns-then-not-branch
returns-then-not-branch g c =
    let shape = g.K.Validate.shape in
    let finds = g.M.PatternMatcher.finds in
    let nodes = c.args.graph.now.nodes.items in
    let d = view c.args.value.now in
    let table = c.args.table.now in
    let run = subst (IsRun shape nodes c.args.start d (matches_with finds table c.as_slice.result.now)) c.in-Answered-true.is c.in_ok-stopped.ensures in
    let accepts : (rest : Answers) → true ≡ verdict_in shape nodes c.args.start d (completed (matches_with finds table c.loop-made.assumed.items) rest) =
    λ rest. subst (λ (xs : List AssumedMatch). true ≡ verdict_in shape nodes c.args.start d (completed (matches_with finds table xs) rest)) c.as_slice.ensures.value (sym c.in-Answered-true.field-0-test ∙ run rest) in
    λ rest. accepted_till shape nodes c.args.start d finds table c.loop-made.assumed.items accepts c.loop-made.invariant.left rest
    (c.in_ok-turn_last-in-Answered-true.ensures.left rest ∙ ap (λ b. b && is_left c.turn_last.new.assumed.items rest) c.if-not-branch.true)

pub returns-in-Answered-false : goal.returns-in-Answered-false
returns-in-Answered-false g c =
    let shape = g.K.Validate.shape in
    let finds = g.M.PatternMatcher.finds in
    let nodes = c.args.graph.now.nodes.items in
    let d = view c.args.value.now in
    let table = c.args.table.now in
    let run = subst (IsRun shape nodes c.args.start d (matches_with finds table c.as_slice.result.now)) c.in-Answered-false.is c.in_ok-stopped.ensures in
    refused_by shape nodes c.args.start d finds table c.as_slice.result.now (λ rest. sym c.in-Answered-false.field-0-test ∙ run rest)

pub loop-made-preserved : goal.loop-made-preserved
loop-made-preserved g c =
    let shape = g.K.Validate.shape in
    let finds = g.M.PatternMatcher.finds in
    let nodes = c.args.graph.now.nodes.items in
    let d = view c.args.value.now in
    let table = c.args.table.now in
    let made = c.loop-made.made in
    let before = c.loop-made.assumed.items in
    let begin = start_at shape nodes c.args.start d in
    elim c.match-branch-2.branch [
      | in-Stopped+in_ok-push-in-Stopped w ↦
          (let no : AssumedMatch = record { pattern = w.in-Stopped.stopped.pattern; text = w.in-Stopped.stopped.text; is_match = false } in
          let one = subst (IsRun shape nodes c.args.start d (matches_with finds table c.as_slice.result.now)) w.in-Stopped.is c.in_ok-stopped.ensures in
          let stop = subst (λ (xs : List AssumedMatch). IsStop (asked_from begin (matches_with finds table xs)) (string_bytes w.in-Stopped.stopped.pattern) (string_bytes w.in-Stopped.stopped.text)) c.as_slice.ensures.value one in
          record {
            left = λ rest none_left.
                c.loop-made.invariant.left rest
                (sym (left_no rest before no refl)
                ∙ sym (ap (λ v. is_left v.items rest) w.assumed-is ∙ ap (λ xs. is_left xs rest) w.in_ok-push-in-Stopped.ensures.items) ∙ none_left);
            counts = subst (Counts (matches_with finds table []) begin (made + 1)) (sym (ap (λ v. v.items) w.assumed-is ∙ w.in_ok-push-in-Stopped.ensures.items))
                (once_stopped finds table begin made before no refl stop c.loop-made.invariant.counts);
          })
      | in-Answered-true+in_ok-turn_last-in-Answered-true+else-not-branch w ↦
          (let run = subst (IsRun shape nodes c.args.start d (matches_with finds table c.as_slice.result.now)) w.in-Answered-true.is c.in_ok-stopped.ensures in
          let accepts : (rest : Answers) → true ≡ verdict_in shape nodes c.args.start d (completed (matches_with finds table before) rest) =
          λ rest. subst (λ (xs : List AssumedMatch). true ≡ verdict_in shape nodes c.args.start d (completed (matches_with finds table xs) rest)) c.as_slice.ensures.value (sym w.in-Answered-true.field-0-test ∙ run rest) in
          record {
            left = λ rest none.
                accepted_till shape nodes c.args.start d finds table before accepts c.loop-made.invariant.left rest
                (w.in_ok-turn_last-in-Answered-true.ensures.left rest ∙ ap (λ b. b && is_left w.turn_last.new.assumed.items rest) w.if-not-branch.false
                ∙ sym (ap (λ v. is_left v.items rest) w.assumed-is) ∙ none);
            counts = subst (Counts (matches_with finds table []) begin (made + 1)) (sym (ap (λ v. v.items) w.assumed-is))
                (once_turned (matches_with finds table []) begin made before w.turn_last.new.assumed.items (w.in_ok-turn_last-in-Answered-true.ensures.turned w.if-not-branch.false) c.loop-made.invariant.counts);
          })
    ]

pub loop-made-init : goal.loop-made-init
loop-made-init g c = record {
  left = λ rest e. search rules;
  counts = subst (Counts (matches_with g.M.PatternMatcher.finds c.args.table.now []) (start_at g.K.Validate.shape c.args.graph.now.nodes.items c.args.start (view c.args.value.now)) 1) (sym c.new-assumed.ensures.items)
      (begun (matches_with g.M.PatternMatcher.finds c.args.table.now []) _ 1 (omega arith));
}

pub returns : goal.returns
returns g c = at_the_end (matches_with g.M.PatternMatcher.finds c.args.table.now []) _ c.loop-made.made c.loop-made.assumed.items (omega arith) c.loop-made.invariant.counts
