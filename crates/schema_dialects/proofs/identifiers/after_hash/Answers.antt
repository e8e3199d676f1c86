use Rattle.std.proofs.Common.{lit<}
use Rattle.std.proofs.lemmas.Str.Pattern.{strip_prefix_char}
use Rattle.schema_dialects.proofs.Hashes.{stripped}
use Rattle.schema_dialects.proofs.identifiers.after_hash.Goals as goal

pub returns : goal.returns
returns c = stripped c.args.text.now c.strip_prefix.result (strip_prefix_char 35 c.args.text.now c.strip_prefix.result c.strip_prefix.ensures.cases (lit< tt))
