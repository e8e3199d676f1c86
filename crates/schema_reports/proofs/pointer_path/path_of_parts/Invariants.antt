use Rattle.std.proofs.Common.{◌≡◌, [], length, drop}
use Rattle.uri_grammar.specs.Texts.{pieces}
use Rattle.schema_definitions.specs.Sites.{pushed}
use Rattle.schema_reports.proofs.pointer_path.path_of_parts.Given as goal

abbrev pub invariant-loop-part : goal.invariant-loop-part
invariant-loop-part l = pushed (drop (length l.yielded) (pieces 47 l.parts)) l.path ≡ pushed (pieces 47 l.parts) []
