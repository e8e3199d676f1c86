use Rattle.std.proofs.Common.{◌≡◌, drop}
use Rattle.uri_grammar.specs.Classes.{allows}
use Rattle.uri_grammar.specs.Grammar.{is_encoded}
use Rattle.uri_grammar.proofs.characters.is_encoded.Given as goal

abbrev pub invariant-loop-byte : goal.invariant-loop-byte
invariant-loop-byte l = is_encoded (allows l.class) l.due (drop l.byte-index l.byte-items) ≡ is_encoded (allows l.class) 0 l.byte-items
