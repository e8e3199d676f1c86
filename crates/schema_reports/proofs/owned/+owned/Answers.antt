use Rattle.std.proofs.Common.{sym, ap, ◌∙◌}
use Rattle.schema_meaning.specs.Faults as told
use Rattle.schema_reports.specs.Kinds.{kind_of, is_proper}
use Rattle.schema_reports.proofs.FaultLemmas.{faults_pushed, branches_pushed, proper_pushed, context_pushed}
use Rattle.schema_reports.proofs.KindLemmas.{kind-AnyOf, kind-OneOfMultipleValid, kind-OneOfNotValid, proper-AnyOf, proper-OneOfMultipleValid, proper-OneOfNotValid}
use Rattle.schema_reports.proofs.owned.+owned.Goals as goal

pub owned_kind-returns-in_ok-owned_context-in-AnyOf-clause-told : goal.owned_kind-returns-in_ok-owned_context-in-AnyOf-clause-told
owned_kind-returns-in_ok-owned_context-in-AnyOf-clause-told t c =
    kind-AnyOf c.in_ok-owned_context-in-AnyOf.field-0 ∙ ap told.AnyOf c.in_ok-owned_context-in-AnyOf.ensures.told
    ∙ sym (kind-AnyOf c.in-AnyOf.context) ∙ ap kind_of (sym c.in-AnyOf.is)

pub owned_kind-returns-in_ok-owned_context-in-AnyOf-clause-proper : goal.owned_kind-returns-in_ok-owned_context-in-AnyOf-clause-proper
owned_kind-returns-in_ok-owned_context-in-AnyOf-clause-proper t c =
    proper-AnyOf c.in_ok-owned_context-in-AnyOf.field-0 ∙ c.in_ok-owned_context-in-AnyOf.ensures.proper ∙ sym (proper-AnyOf c.in-AnyOf.context) ∙ ap is_proper (sym c.in-AnyOf.is)

pub owned_kind-returns-in_ok-owned_context-in-OneOfMultipleValid-clause-told : goal.owned_kind-returns-in_ok-owned_context-in-OneOfMultipleValid-clause-told
owned_kind-returns-in_ok-owned_context-in-OneOfMultipleValid-clause-told t c =
    kind-OneOfMultipleValid c.in_ok-owned_context-in-OneOfMultipleValid.field-0 ∙ ap told.OneOfMultipleValid c.in_ok-owned_context-in-OneOfMultipleValid.ensures.told
    ∙ sym (kind-OneOfMultipleValid c.in-OneOfMultipleValid.context) ∙ ap kind_of (sym c.in-OneOfMultipleValid.is)

pub owned_kind-returns-in_ok-owned_context-in-OneOfMultipleValid-clause-proper : goal.owned_kind-returns-in_ok-owned_context-in-OneOfMultipleValid-clause-proper
owned_kind-returns-in_ok-owned_context-in-OneOfMultipleValid-clause-proper t c =
    proper-OneOfMultipleValid c.in_ok-owned_context-in-OneOfMultipleValid.field-0 ∙ c.in_ok-owned_context-in-OneOfMultipleValid.ensures.proper ∙ sym (proper-OneOfMultipleValid c.in-OneOfMultipleValid.context) ∙ ap is_proper (sym c.in-OneOfMultipleValid.is)

pub owned_kind-returns-in_ok-owned_context-in-OneOfNotValid-clause-told : goal.owned_kind-returns-in_ok-owned_context-in-OneOfNotValid-clause-told
owned_kind-returns-in_ok-owned_context-in-OneOfNotValid-clause-told t c =
    kind-OneOfNotValid c.in_ok-owned_context-in-OneOfNotValid.field-0 ∙ ap told.OneOfNotValid c.in_ok-owned_context-in-OneOfNotValid.ensures.told
    ∙ sym (kind-OneOfNotValid c.in-OneOfNotValid.context) ∙ ap kind_of (sym c.in-OneOfNotValid.is)

pub owned_kind-returns-in_ok-owned_context-in-OneOfNotValid-clause-proper : goal.owned_kind-returns-in_ok-owned_context-in-OneOfNotValid-clause-proper
owned_kind-returns-in_ok-owned_context-in-OneOfNotValid-clause-proper t c =
    proper-OneOfNotValid c.in_ok-owned_context-in-OneOfNotValid.field-0 ∙ c.in_ok-owned_context-in-OneOfNotValid.ensures.proper ∙ sym (proper-OneOfNotValid c.in-OneOfNotValid.context) ∙ ap is_proper (sym c.in-OneOfNotValid.is)

pub owned_branches-loop-errors-preserved : goal.owned_branches-loop-errors-preserved
owned_branches-loop-errors-preserved t c =
    let push = c.in_ok-push.ensures.items in
    let one = c.in_ok-owned_errors.ensures in
    record {
      told = branches_pushed c.loop-errors.owned.items c.push.new.self.items c.in-Some.errors c.in_ok-owned_errors.field-0 push one.told c.loop-errors.yielded c.loop-errors.invariant.told;
      proper = context_pushed c.loop-errors.owned.items c.push.new.self.items c.in-Some.errors c.in_ok-owned_errors.field-0 push one.proper c.loop-errors.yielded c.loop-errors.invariant.proper;
    }

pub owned_errors-loop-error-preserved : goal.owned_errors-loop-error-preserved
owned_errors-loop-error-preserved t c =
    let push = c.in_ok-push.ensures.items in
    let one = c.in_ok-owned_error.ensures in
    record {
      told = faults_pushed c.loop-error.owned.items c.push.new.self.items c.in-Some.error c.in_ok-owned_error.field-0 push one.told c.loop-error.yielded c.loop-error.invariant.told;
      proper = proper_pushed c.loop-error.owned.items c.push.new.self.items c.in-Some.error c.in_ok-owned_error.field-0 push one.proper c.loop-error.yielded c.loop-error.invariant.proper;
    }
