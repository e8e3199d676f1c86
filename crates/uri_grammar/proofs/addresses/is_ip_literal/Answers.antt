use Rattle.std.proofs.Common.{sym, None, lit<}
use Rattle.std.proofs.lemmas.Str.Pattern.{strip_prefix_char}
use Rattle.uri_grammar.proofs.Bracketed.{unbracketed}
use Rattle.uri_grammar.proofs.addresses.is_ip_literal.Goals as goal

pub returns-in-None : goal.returns-in-None
returns-in-None c = sym (unbracketed c.args.text.now (strip_prefix_char 91 c.args.text.now None c.in-None.ensures.cases (lit< tt)))
