use Rattle.std.proofs.Common.{◌≡◌, ◌++◌, map}
use Rattle.serde_json.specs.View.{members_view}
use Rattle.schema_definitions.specs.Rows.{member_names}
use Rattle.compiled_keywords.specs.Owned.{named}
use Rattle.keyword_compilers.specs.Numbers.{beside}
use Rattle.keyword_compilers.proofs.names.named_nodes.Given as goal

abbrev pub invariant-loop-name : goal.invariant-loop-name
invariant-loop-name l = beside (member_names (members_view l.schemas.entries)) l.nodes ≡ map named l.found.items ++ beside (member_names (members_view l.name-iterator)) l.left
