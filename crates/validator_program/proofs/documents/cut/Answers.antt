use Rattle.std.proofs.Common.{ap, lit<}
use Rattle.uri_grammar.proofs.Lasts.{last_some, last_none}
use Rattle.validator_program.proofs.documents.cut.Goals as goal

pub returns-in_err-uri : goal.returns-in_err-uri
returns-in_err-uri c =
    rw c.from_residual.ensures (ap (λ x. x.1) (last_none 61 c.args.word.now (lit< tt) c.in_err-uri.ensures.cases))

pub returns : goal.returns
returns c = last_some 61 c.args.word.now c.in_ok-uri.uri c.in_ok-uri.file (lit< tt) c.in_ok-uri.ensures.cases
