use Rattle.std.proofs.Common.{◌≡◌, ◌<◌, length, sym, ap, ap₂, ◌∙◌, arith}
use Rattle.schema_reports.specs.Kinds.{context_branches}
use Rattle.schema_reports.specs.Told.{branches_in}
use Rattle.error_kinds.specs.Faults.{same_branches}
use Rattle.error_kinds.specs.Sizes.{branches_size}
use Rattle.error_kinds.proofs.ErrorLemmas.{other_errors, other_branches, error_below, errors_below, context_is}
use Rattle.error_kinds.proofs.errors.+sameness.Goals as goal

pub same_branches-returns-then-ones-others : goal.same_branches-returns-then-ones-others
same_branches-returns-then-ones-others t c = sym (other_branches c.args.ones.now c.args.others.now c.if-ones-others.true)

pub same_branches-same_errors-requires : goal.same_branches-same_errors-requires
same_branches-same_errors-requires t c =
    let within : c.loop-index.index < length c.args.ones.now = omega arith in
    let less = errors_below c.args.ones.now c.loop-index.index c.index-ones-index.result c.deref.result.now within c.index-ones-index.is c.deref.ensures.value in
    (omega (arith, less, c.decreases), tt)

pub same_context-same_branches-requires : goal.same_context-same_branches-requires
same_context-same_branches-requires t c =
    let same : branches_in c.branches.result.now ≡ context_branches c.args.one.now = ap branches_in c.branches.ensures ∙ sym (context_is c.args.one.now) in
    let sizes = ap branches_size same in
    (omega (arith, sizes, c.decreases), tt)

pub same_context-returns : goal.same_context-returns
same_context-returns t c =
    c.same_branches.ensures
    ∙ ap₂ same_branches (ap branches_in c.branches.ensures ∙ sym (context_is c.args.one.now)) (ap branches_in c.branches-2.ensures ∙ sym (context_is c.args.other.now))

pub same_errors-returns-then-ones-others : goal.same_errors-returns-then-ones-others
same_errors-returns-then-ones-others t c = sym (other_errors c.args.ones.now c.args.others.now c.if-ones-others.true)

pub same_errors-same_error-requires : goal.same_errors-same_error-requires
same_errors-same_error-requires t c =
    let within : c.loop-index.index < length c.args.ones.now = omega arith in
    let less = error_below c.args.ones.now c.loop-index.index c.index-ones-index.result within c.index-ones-index.is in
    (omega (arith, less, c.decreases), tt)
