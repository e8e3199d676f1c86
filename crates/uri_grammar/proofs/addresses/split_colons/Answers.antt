use Rattle.std.proofs.Common.{ap, sym, ◌∙◌, Some}
use Rattle.uri_grammar.proofs.Groups.{colons_found, colons_missing}
use Rattle.uri_grammar.proofs.addresses.split_colons.Goals as goal

pub returns-in-Some-clause-before : goal.returns-in-Some-clause-before
returns-in-Some-clause-before c =
    let h = c.in-Some.ensures.cases in
    h.3 ∙ sym (ap (λ x. x.0) (colons_found c.args.text.now h.0 _ h.2.0 h.2.1.split))

pub returns-in-Some-clause-after : goal.returns-in-Some-clause-after
returns-in-Some-clause-after c =
    let h = c.in-Some.ensures.cases in
    ap Some h.4 ∙ sym (ap (λ x. x.1) (colons_found c.args.text.now h.0 _ h.2.0 h.2.1.split))

pub returns-in-None-clause-before : goal.returns-in-None-clause-before
returns-in-None-clause-before c = sym (ap (λ x. x.0) (colons_missing c.args.text.now c.in-None.ensures.cases))

pub returns-in-None-clause-after : goal.returns-in-None-clause-after
returns-in-None-clause-after c = sym (ap (λ x. x.1) (colons_missing c.args.text.now c.in-None.ensures.cases))
