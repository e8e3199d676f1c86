use Rattle.std.proofs.Common.{◌≡◌, option_map, option_and_then, string_bytes, Option, Some, None, IfOk, sym, ap, ◌∙◌, lit<, subst}
use Rattle.std.proofs.lemmas.Str.Pattern.{strip_prefix_char, strip_suffix_char}
use Rattle.value_checks.specs.CodePatterns.{form_of}
use Rattle.json_values.specs.Patterns.{Literal, before, behind, word, opened_of, closed_of, literal_of}
use Rattle.json_values.proofs.Marks.{stripped_start, stripped_end, opened_here, closed_here}
use Rattle.value_checks.proofs.patterns.analyze_pattern.Goals as goal

pub returns-in_default : goal.returns-in_default
returns-in_default c =
    let text = c.args.pattern.now in
    let started = stripped_start 94 text c.strip_prefix.result (strip_prefix_char 94 text c.strip_prefix.result c.strip_prefix.ensures.cases (lit< tt)) in
    sym (ap (option_and_then opened_of) (sym started ∙ ap (option_map (λ x. x.now)) c.in_default.is))

pub returns-in-Some-strip_suffix : goal.returns-in-Some-strip_suffix
returns-in-Some-strip_suffix c =
    let text = c.args.pattern.now in
    let opened = c.in-Some.opened.now in
    let closed = c.in-Some-strip_suffix.closed.now in
    let started = stripped_start 94 text c.strip_prefix.result (strip_prefix_char 94 text c.strip_prefix.result c.strip_prefix.ensures.cases (lit< tt)) in
    let ended = stripped_end 36 opened c.strip_suffix.result (strip_suffix_char 36 opened c.strip_suffix.result c.strip_suffix.ensures.cases (lit< tt)) in
    let here : behind 94 text ≡ Some opened = sym started ∙ ap (option_map (λ x. x.now)) c.in-Some.is in
    let none : word opened ≡ None = sym c.in_ok-text.ensures ∙ ap (option_map string_bytes) c.in_default-2.is in
    let last : before 36 opened ≡ Some closed = sym ended ∙ ap (option_map (λ x. x.now)) c.in-Some-strip_suffix.is in
    let is : literal_of text ≡ closed_of closed = opened_here text opened here ∙ closed_here opened none ∙ ap (option_and_then closed_of) last in
    let P : Option Literal → Type 0 = λ l. IfOk c.analyze_closed.result (λ o. option_map form_of o ≡ l) in
    subst P (sym is) c.analyze_closed.ensures

pub returns-in-None : goal.returns-in-None
returns-in-None c =
    let text = c.args.pattern.now in
    let opened = c.in-Some.opened.now in
    let started = stripped_start 94 text c.strip_prefix.result (strip_prefix_char 94 text c.strip_prefix.result c.strip_prefix.ensures.cases (lit< tt)) in
    let ended = stripped_end 36 opened c.strip_suffix.result (strip_suffix_char 36 opened c.strip_suffix.result c.strip_suffix.ensures.cases (lit< tt)) in
    let here : behind 94 text ≡ Some opened = sym started ∙ ap (option_map (λ x. x.now)) c.in-Some.is in
    let none : word opened ≡ None = sym c.in_ok-text.ensures ∙ ap (option_map string_bytes) c.in_default-2.is in
    let last : before 36 opened ≡ None = sym ended ∙ ap (option_map (λ x. x.now)) c.in-None.is in
    sym (opened_here text opened here ∙ closed_here opened none ∙ ap (option_and_then closed_of) last)
