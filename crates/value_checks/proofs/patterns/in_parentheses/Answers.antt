use Rattle.std.proofs.Common.{◌≡◌, option_map, option_and_then, Some, None, sym, ap, ◌∙◌, lit<}
use Rattle.std.proofs.lemmas.Str.Pattern.{strip_prefix_char, strip_suffix_char}
use Rattle.json_values.specs.Patterns.{before, behind}
use Rattle.json_values.proofs.Marks.{stripped_start, stripped_end}
use Rattle.value_checks.proofs.patterns.in_parentheses.Goals as goal

pub returns-in_err-strip_prefix : goal.returns-in_err-strip_prefix
returns-in_err-strip_prefix c =
    let text = c.args.text.now in
    let started = stripped_start 40 text c.strip_prefix.result (strip_prefix_char 40 text c.strip_prefix.result c.strip_prefix.ensures.cases (lit< tt)) in
    let none : None ≡ behind 40 text = sym (ap (option_map (λ x. x.now)) c.in_err-strip_prefix.was) ∙ started in
    ap (option_map (λ x. x.now)) c.from_residual.ensures ∙ ap (option_and_then (before 41)) none

pub returns : goal.returns
returns c =
    let text = c.args.text.now in
    let rest = c.in_ok-strip_prefix.field-0.now in
    let started = stripped_start 40 text c.strip_prefix.result (strip_prefix_char 40 text c.strip_prefix.result c.strip_prefix.ensures.cases (lit< tt)) in
    let ended = stripped_end 41 rest c.strip_suffix.result (strip_suffix_char 41 rest c.strip_suffix.result c.strip_suffix.ensures.cases (lit< tt)) in
    let opened : Some rest ≡ behind 40 text = sym (ap (option_map (λ x. x.now)) c.in_ok-strip_prefix.was) ∙ started in
    ended ∙ ap (option_and_then (before 41)) opened
