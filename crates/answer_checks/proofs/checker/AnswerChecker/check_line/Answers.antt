use Rattle.std.proofs.Common.{◌≡◌, ◌∙◌, Some, map, option_map, option_and_then, ap, sym, subst}
use Rattle.std.specs.List.{AllZip}
use Rattle.serde_json.specs.View.{view}
use Rattle.schema_definitions.specs.Lines.{line_value}
use Rattle.answer_checks.specs.Checks.{IsPathChecked, ValueChecked}
use Rattle.answer_checks.specs.Paths.{path_bytes, paths_in, paths_in_data}
use Rattle.answer_checks.proofs.checker.AnswerChecker.check_line.Goals as goal

pub returns-in-Some-3 : goal.returns-in-Some-3
returns-in-Some-3 g c = λ p r of.
    let d = view c.in-Some.value in
    let said = c.in_ok-check_paths-in-Some-3.field-0.items in
    let value : line_value c.args.line.now ≡ Some d = sym c.in_ok-value.ensures.value ∙ ap (option_map (λ v. view v)) c.in-Some.is in
    let listed : paths_in c.args.answers.now ≡ Some (map path_bytes c.in-Some-3.paths.items) =
    ap (option_and_then paths_in_data) (sym c.in_ok-listed.ensures ∙ ap (option_map (λ v. view v)) c.in-Some-2.is) ∙ sym c.in_ok-paths.ensures
    ∙ ap (option_map (λ v. map path_bytes v.items)) c.in-Some-3.is in
    let checked = subst (λ s. AllZip (IsPathChecked p r d) (map path_bytes s) said) c.as_slice.ensures.value (c.in_ok-check_paths-in-Some-3.ensures p r of) in
    subst (λ o. ValueChecked p r o (paths_in c.args.answers.now) (Some said)) (sym value) (subst (λ o. ValueChecked p r (Some d) o (Some said)) (sym listed) checked)
