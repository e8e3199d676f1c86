use Rattle.std.proofs.Common.{lit<}
use Rattle.std.proofs.lemmas.Str.Pattern.{contains_char}
use Rattle.uri_grammar.proofs.Cuts.{has_decided}
use Rattle.uri_references.proofs.resolution.has_slash.Goals as goal

pub returns : goal.returns
returns c = let f = contains_char 47 c.args.text.now c.contains.result c.contains.ensures.cases (lit< tt) in has_decided 47 c.args.text.now c.contains.result f.0 f.1
