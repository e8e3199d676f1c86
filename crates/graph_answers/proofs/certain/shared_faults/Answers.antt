use Rattle.std.proofs.Common.{◌≡◌, ◌&&◌, ◌+◌, ◌∙◌, List, [], true, false, true≢false, inl, inr, IfSome, string_bytes, refl, sym, ap, subst, arith}
use Rattle.std.specs.Prelude.{◌==◌}
use Rattle.serde_json.specs.View.{view}
use Rattle.schema_reports.specs.Told.{faults_of, are_proper, AreAll}
use Rattle.schema_reports.specs.declared.observer.Observer.TheVariants as observers
use Rattle.schema_engine.specs.Matches.{Answers, InEach, completed, none_matched}
use Rattle.graph_answers.specs.Certain.{faults_in, IsTelling, AreShared}
use Rattle.graph_answers.specs.Completions.{matches_with, start_at, asked_from, IsStop}
use Rattle.graph_answers.specs.Runs.{is_behind, is_left}
use Rattle.graph_answers.specs.declared.assumed.AssumedMatch.{AssumedMatch}
use Rattle.graph_answers.proofs.CertainLemmas.{Held, IsHeld, run_heard, held_till, shared_told}
use Rattle.graph_answers.proofs.DecidedRuns.{DecidedBeside, beside_same, beside_none, once_told}
use Rattle.graph_answers.proofs.RunCounts.{Counts, begun, at_the_end, once_stopped, once_turned}
use Rattle.graph_answers.proofs.RunLemmas.{left_no}
use Rattle.graph_answers.proofs.certain.shared_faults.Goals.{in-Stopped+in_ok-push-in-Stopped, in-Told+in_ok-turn_last-in-Told+else-not-branch}
use Rattle.graph_answers.proofs.certain.shared_faults.Goals as goal

pub loop-made-init : goal.loop-made-init
loop-made-init g c =
    let shape = g.K.Validate.shape in
    let finds = g.M.PatternMatcher.finds in
    let nodes = c.args.graph.now.nodes.items in
    let d = view c.args.value.now in
    let table = c.args.table.now in
    let begin = start_at shape nodes c.args.start d in
    let no : AssumedMatch = record { pattern = c.args.stopped.pattern; text = c.args.stopped.text; is_match = false } in
    let none_left : (rest : Answers) → is_left c.in_ok-assumed.assumed.items rest ≡ true = λ rest. ap (λ xs. is_left xs rest) c.in_ok-assumed.ensures.items ∙ left_no rest [] no refl in
    record {
      told = λ rest e. absurd (true≢false (sym (none_left rest) ∙ e));
      all = λ f whole shared. tt;
      decided = λ rest e. absurd (true≢false (sym (none_left rest) ∙ e));
      proper = tt;
      counts = subst (Counts (matches_with finds table []) begin 1) (sym c.in_ok-assumed.ensures.items)
          (once_stopped finds table begin 0 [] no refl c.requires.stop (begun (matches_with finds table []) begin 0 (omega arith)));
    }

pub returns-then-not-branch-clause-shared : goal.returns-then-not-branch-clause-shared
returns-then-not-branch-clause-shared g c =
    let shape = g.K.Validate.shape in
    let finds = g.M.PatternMatcher.finds in
    let nodes = c.args.graph.now.nodes.items in
    let d = view c.args.value.now in
    let table = c.args.table.now in
    let before = c.loop-made.assumed.items in
    let es = c.all_heard-errors.result.items in
    let told = subst (IsTelling shape nodes c.args.start d (matches_with finds table c.as_slice.result.now) (observers.All c.new.result)) c.in-Told.is c.in_ok-stopped.ensures in
    let run = subst (λ (xs : List AssumedMatch). InEach (matches_with finds table xs) (λ reads. AreAll es (faults_in shape nodes c.args.start d reads))) c.as_slice.ensures.value
    (run_heard shape nodes c.args.start d (matches_with finds table c.as_slice.result.now) c.new.result c.in-Told.observer es c.new.ensures told c.all_heard-errors.ensures) in
    record {
      told = λ rest. held_till shape nodes c.args.start d finds table before c.loop-made.shared es c.narrowed-kept.result.items run c.narrowed-kept.ensures.told c.narrowed-kept.ensures.before
          c.loop-made.invariant.told rest (c.in_ok-turn_last-in-Told.ensures.left rest ∙ ap (λ b. b && is_left c.turn_last.new.assumed.items rest) c.if-not-branch.true);
      proper = c.narrowed-kept.ensures.proper (run none_matched).proper;
      all = inl (λ f whole shared. c.narrowed-kept.ensures.all f whole
          (shared_told shape nodes c.args.start d finds table before f shared (faults_of es) (λ rest. (run rest).told)) (c.loop-made.invariant.all f whole shared));
    }

pub returns-then-not-branch-clause-decided : goal.returns-then-not-branch-clause-decided
returns-then-not-branch-clause-decided g c =
    let shape = g.K.Validate.shape in
    let finds = g.M.PatternMatcher.finds in
    let nodes = c.args.graph.now.nodes.items in
    let d = view c.args.value.now in
    let table = c.args.table.now in
    let before = c.loop-made.assumed.items in
    let es = c.all_heard-errors.result.items in
    let told = subst (IsTelling shape nodes c.args.start d (matches_with finds table c.as_slice.result.now) (observers.All c.new.result)) c.in-Told.is c.in_ok-stopped.ensures in
    let run = subst (λ (xs : List AssumedMatch). InEach (matches_with finds table xs) (λ reads. AreAll es (faults_in shape nodes c.args.start d reads))) c.as_slice.ensures.value
    (run_heard shape nodes c.args.start d (matches_with finds table c.as_slice.result.now) c.new.result c.in-Told.observer es c.new.ensures told c.all_heard-errors.ensures) in
    beside_none shape nodes c.args.start d finds table c.decided_by-decision.result (λ rest. is_behind before rest)
    (λ rest. c.in_ok-turn_last-in-Told.ensures.left rest ∙ ap (λ b. b && is_left c.turn_last.new.assumed.items rest) c.if-not-branch.true)
    (once_told shape nodes c.args.start d finds table before es run c.loop-made.decision c.decided_by-decision.result c.is_empty.result
    (c.is_empty.ensures ∙ ap (λ n. n == 0) c.all_heard-errors.result.ok.0) c.decided_by-decision.ensures.same c.decided_by-decision.ensures.refused c.loop-made.invariant.decided)

pub loop-made-preserved : goal.loop-made-preserved
loop-made-preserved g c =
    let shape = g.K.Validate.shape in
    let finds = g.M.PatternMatcher.finds in
    let nodes = c.args.graph.now.nodes.items in
    let d = view c.args.value.now in
    let table = c.args.table.now in
    let made = c.loop-made.made in
    let before = c.loop-made.assumed.items in
    let begin = start_at shape nodes c.args.start d in
    elim c.match-branch-3.branch [
      | in-Stopped+in_ok-push-in-Stopped w ↦
          (let no : AssumedMatch = record { pattern = w.in-Stopped.stopped.pattern; text = w.in-Stopped.stopped.text; is_match = false } in
          let one = subst (IsTelling shape nodes c.args.start d (matches_with finds table c.as_slice.result.now) (observers.All c.new.result)) w.in-Stopped.is c.in_ok-stopped.ensures in
          let stop = subst (λ (xs : List AssumedMatch). IsStop (asked_from begin (matches_with finds table xs)) (string_bytes w.in-Stopped.stopped.pattern) (string_bytes w.in-Stopped.stopped.text)) c.as_slice.ensures.value one in
          record {
            told = λ rest none_left.
                subst (λ o. Held o (faults_in shape nodes c.args.start d (completed (matches_with finds table []) rest))) (sym w.shared-is)
                (c.loop-made.invariant.told rest
                (sym (left_no rest before no refl)
                ∙ sym (ap (λ v. is_left v.items rest) w.assumed-is ∙ ap (λ xs. is_left xs rest) w.in_ok-push-in-Stopped.ensures.items) ∙ none_left));
            all = λ f whole shared. subst (λ o. IsHeld o f) (sym w.shared-is) (c.loop-made.invariant.all f whole shared);
            decided = subst (λ a. DecidedBeside shape nodes c.args.start d finds table a (λ rest. is_left c.match-branch-3.assumed.items rest)) (sym w.decision-is)
                (beside_same shape nodes c.args.start d finds table c.loop-made.decision (λ rest. is_left before rest) (λ rest. is_left c.match-branch-3.assumed.items rest)
                (λ rest. sym (left_no rest before no refl) ∙ sym (ap (λ v. is_left v.items rest) w.assumed-is ∙ ap (λ xs. is_left xs rest) w.in_ok-push-in-Stopped.ensures.items))
                c.loop-made.invariant.decided);
            proper = subst (λ o. IfSome o (λ es. are_proper es.items ≡ true)) (sym w.shared-is) c.loop-made.invariant.proper;
            counts = subst (Counts (matches_with finds table []) begin (made + 1)) (sym (ap (λ v. v.items) w.assumed-is ∙ w.in_ok-push-in-Stopped.ensures.items))
                (once_stopped finds table begin made before no refl stop c.loop-made.invariant.counts);
          })
      | in-Told+in_ok-turn_last-in-Told+else-not-branch w ↦
          (let es = w.all_heard-errors.result.items in
          let told = subst (IsTelling shape nodes c.args.start d (matches_with finds table c.as_slice.result.now) (observers.All c.new.result)) w.in-Told.is c.in_ok-stopped.ensures in
          let run = subst (λ (xs : List AssumedMatch). InEach (matches_with finds table xs) (λ reads. AreAll es (faults_in shape nodes c.args.start d reads))) c.as_slice.ensures.value
          (run_heard shape nodes c.args.start d (matches_with finds table c.as_slice.result.now) c.new.result w.in-Told.observer es c.new.ensures told w.all_heard-errors.ensures) in
          record {
            told = λ rest none.
                subst (λ o. Held o (faults_in shape nodes c.args.start d (completed (matches_with finds table []) rest))) (sym w.shared-is)
                (held_till shape nodes c.args.start d finds table before c.loop-made.shared es w.narrowed-kept.result.items run w.narrowed-kept.ensures.told w.narrowed-kept.ensures.before
                c.loop-made.invariant.told rest
                (w.in_ok-turn_last-in-Told.ensures.left rest ∙ ap (λ b. b && is_left w.turn_last.new.assumed.items rest) w.if-not-branch.false
                ∙ sym (ap (λ v. is_left v.items rest) w.assumed-is) ∙ none));
            all = λ f whole shared. subst (λ o. IsHeld o f) (sym w.shared-is) (w.narrowed-kept.ensures.all f whole
                (shared_told shape nodes c.args.start d finds table before f shared (faults_of es) (λ rest. (run rest).told)) (c.loop-made.invariant.all f whole shared));
            decided = subst (λ a. DecidedBeside shape nodes c.args.start d finds table a (λ rest. is_left c.match-branch-3.assumed.items rest)) (sym w.decision-is)
                (beside_same shape nodes c.args.start d finds table w.decided_by-decision.result (λ rest. is_behind before rest) (λ rest. is_left c.match-branch-3.assumed.items rest)
                (λ rest. w.in_ok-turn_last-in-Told.ensures.left rest ∙ ap (λ b. b && is_left w.turn_last.new.assumed.items rest) w.if-not-branch.false
                ∙ sym (ap (λ v. is_left v.items rest) w.assumed-is))
                (once_told shape nodes c.args.start d finds table before es run c.loop-made.decision w.decided_by-decision.result w.is_empty.result
                (w.is_empty.ensures ∙ ap (λ n. n == 0) w.all_heard-errors.result.ok.0) w.decided_by-decision.ensures.same w.decided_by-decision.ensures.refused c.loop-made.invariant.decided));
            proper = subst (λ o. IfSome o (λ es. are_proper es.items ≡ true)) (sym w.shared-is) (w.narrowed-kept.ensures.proper (run none_matched).proper);
            counts = subst (Counts (matches_with finds table []) begin (made + 1)) (sym (ap (λ v. v.items) w.assumed-is))
                (once_turned (matches_with finds table []) begin made before w.turn_last.new.assumed.items (w.in_ok-turn_last-in-Told.ensures.turned w.if-not-branch.false) c.loop-made.invariant.counts);
          })
    ]

pub returns-clause-shared : goal.returns-clause-shared
returns-clause-shared g c =
    let shape = g.K.Validate.shape in
    let m = matches_with g.M.PatternMatcher.finds c.args.table.now [] in
    let nodes = c.args.graph.now.nodes.items in
    let d = view c.args.value.now in
    subst (λ es. AreShared shape nodes c.args.start d m es) (sym c.new-2.ensures.items)
    (record {
      told = λ rest f t. elim t [ ];
      proper = refl;
      all = inr (at_the_end m (start_at shape nodes c.args.start d) c.loop-made.made c.loop-made.assumed.items (omega arith) c.loop-made.invariant.counts);
    })

pub returns-clause-decided : goal.returns-clause-decided
returns-clause-decided g c = at_the_end (matches_with g.M.PatternMatcher.finds c.args.table.now []) _ c.loop-made.made c.loop-made.assumed.items (omega arith) c.loop-made.invariant.counts
