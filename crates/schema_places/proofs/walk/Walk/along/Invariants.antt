use Rattle.std.proofs.Common.{◌≡◌, length, drop}
use Rattle.uri_grammar.specs.Texts.{pieces}
use Rattle.schema_definitions.specs.Lookup as spec
use Rattle.schema_dialects.specs.Dialects.{dialects_in}
use Rattle.schema_places.specs.Walks.{walk_of}
use Rattle.schema_places.proofs.walk.Walk.along.Given as goal

abbrev pub invariant-loop-token : goal.invariant-loop-token
invariant-loop-token l = spec.walk (dialects_in l.known) l.written (drop (length l.yielded) (pieces 47 l.tokens)) (walk_of l.walk) ≡ spec.walk (dialects_in l.known) l.written (pieces 47 l.tokens) (walk_of l.fn.self)
