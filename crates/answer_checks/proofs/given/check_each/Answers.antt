use Rattle.std.proofs.Common.{◌∙◌, IfOk, ap, subst}
use Rattle.std.proofs.lemmas.Result.{err_from_is_err_and}
use Rattle.schema_registries.specs.Roots.{Patterns, Root}
use Rattle.answer_checks.specs.Checks.{IsCheckerOf, IsPairChecked, views}
use Rattle.answer_checks.specs.Listing.{ChecksTexts}
use Rattle.answer_checks.proofs.Pairing.{breaks_none}
use Rattle.answer_checks.proofs.given.check_each.Goals as goal

pub returns-in_err-bytes-clause-stops : goal.returns-in_err-bytes-clause-stops
returns-in_err-bytes-clause-stops g c =
    let e = err_from_is_err_and c.from_residual.result c.from_residual.ensures.1 in
    rw (e.1, e.2) (λ p r of. breaks_none (IsPairChecked p r) _ _)

pub returns-clause-ok : goal.returns-clause-ok
returns-clause-ok g c =
    let contents = g.K.ByteSink.contents in
    subst (λ ts. IfOk c.check_texts.result (λ report. (p : Patterns) (r : Root) → IsCheckerOf g.M.PatternMatcher.finds p r c.args.checker.now
    → ChecksTexts p r ts c.args.listed.now (contents c.args.writer.now) (contents c.check_texts.new.writer) report)) (ap views c.as_slice.ensures.value ∙ c.in_ok-bytes.ensures) c.check_texts.ensures.ok
