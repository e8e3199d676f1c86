use Rattle.std.proofs.Common.{ap, sym, lit<}
use Rattle.uri_grammar.proofs.Lasts.{last_some, last_none}
use Rattle.uri_grammar.proofs.grammar.split_at_last_colon.Goals as goal

pub returns-in-Some-clause-before : goal.returns-in-Some-clause-before
returns-in-Some-clause-before c = sym (ap (λ x. x.0) (last_some 58 c.args.text.now c.in-Some.before c.in-Some.after (lit< tt) c.in-Some.ensures.cases))

pub returns-in-Some-clause-after : goal.returns-in-Some-clause-after
returns-in-Some-clause-after c = sym (ap (λ x. x.1) (last_some 58 c.args.text.now c.in-Some.before c.in-Some.after (lit< tt) c.in-Some.ensures.cases))

pub returns-in-None-clause-before : goal.returns-in-None-clause-before
returns-in-None-clause-before c = sym (ap (λ x. x.0) (last_none 58 c.args.text.now (lit< tt) c.in-None.ensures.cases))

pub returns-in-None-clause-after : goal.returns-in-None-clause-after
returns-in-None-clause-after c = sym (ap (λ x. x.1) (last_none 58 c.args.text.now (lit< tt) c.in-None.ensures.cases))
