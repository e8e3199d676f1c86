use Rattle.std.proofs.Common.{ap, sym, ◌∙◌, Some, None, lit<, drop, ◌∷◌, ◌+◌}
use Rattle.std.proofs.lemmas.Str.Pattern.{find_char}
use Rattle.std.proofs.lemmas.List.{drop_more}
use Rattle.uri_grammar.specs.Parts.{from_slash}
use Rattle.uri_grammar.proofs.Cuts.{cut_found, cut_missing}
use Rattle.uri_grammar.proofs.components.split_at_slash.Goals as goal

pub returns-in-Some-clause-before : goal.returns-in-Some-clause-before
returns-in-Some-clause-before c =
    let text = c.args.text.now in
    let f = find_char 47 text (Some c.in-Some.at) c.in-Some.ensures.cases (lit< tt) in
    c.split_at.ensures.front ∙ sym (ap (λ x. x.0) (cut_found 47 text c.in-Some.at f.0 f.1 f.2))

pub returns-in-Some-clause-rest : goal.returns-in-Some-clause-rest
returns-in-Some-clause-rest c =
    let text = c.args.text.now in
    let f = find_char 47 text (Some c.in-Some.at) c.in-Some.ensures.cases (lit< tt) in
    c.split_at.ensures.back ∙ drop_more text c.in-Some.at 0 f.0 ∙ ap (λ x. x ∷ drop (c.in-Some.at + 1) text) f.1
    ∙ sym (ap from_slash (cut_found 47 text c.in-Some.at f.0 f.1 f.2))

pub returns-in-None-clause-before : goal.returns-in-None-clause-before
returns-in-None-clause-before c =
    let text = c.args.text.now in
    sym (ap (λ x. x.0) (cut_missing 47 text (find_char 47 text None c.in-None.ensures.cases (lit< tt))))

pub returns-in-None-clause-rest : goal.returns-in-None-clause-rest
returns-in-None-clause-rest c =
    let text = c.args.text.now in
    sym (ap from_slash (cut_missing 47 text (find_char 47 text None c.in-None.ensures.cases (lit< tt))))
