use Rattle.std.proofs.Common.{◌∙◌, true, refl, sym, ap}
use Rattle.graph_answers.specs.Runs.{is_behind, is_left}
use Rattle.graph_answers.proofs.RunCounts.{one_gone, turned_by}
use Rattle.graph_answers.proofs.RunLemmas.{said_not, not_denied, behind_yes, behind_no}
use Rattle.graph_answers.proofs.runs.turn_last.Goals as goal

pub returns-then-not-last-clause-turned : goal.returns-then-not-last-clause-turned
returns-then-not-last-clause-turned c so =
    turned_by c.args.assumed.now.items c.loop-last.assumed.items c.pop.new.self.items c.push.new.self.items c.in-Some.last c.in-Some.ensures.items (said_not c.in-Some.last.is_match c.if-not-last.true)
    c.in_ok-push.ensures.items c.loop-last.invariant.gone

pub returns-then-not-last-clause-left : goal.returns-then-not-last-clause-left
returns-then-not-last-clause-left c rest =
    let last = c.in-Some.last in
    c.loop-last.invariant.left rest ∙ ap (λ xs. is_behind xs rest) c.in-Some.ensures.items
    ∙ behind_no rest c.pop.new.self.items last (record { pattern = last.pattern; text = last.text; is_match = true }) (said_not last.is_match c.if-not-last.true) refl refl
    ∙ sym (ap (λ xs. is_left xs rest) c.in_ok-push.ensures.items)

pub loop-last-preserved : goal.loop-last-preserved
loop-last-preserved c = record {
  left = λ rest. c.loop-last.invariant.left rest ∙ ap (λ xs. is_behind xs rest) c.in-Some.ensures.items ∙ behind_yes rest c.pop.new.self.items c.in-Some.last (not_denied c.in-Some.last.is_match c.if-not-last.false);
  gone = one_gone c.args.assumed.now.items c.loop-last.assumed.items c.pop.new.self.items c.in-Some.last c.in-Some.ensures.items (not_denied c.in-Some.last.is_match c.if-not-last.false) c.loop-last.invariant.gone;
}
