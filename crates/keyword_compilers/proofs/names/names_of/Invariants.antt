use Rattle.std.proofs.Common.{◌≡◌, ◌++◌, map, string_bytes}
use Rattle.serde_json.specs.View.{members_view}
use Rattle.schema_definitions.specs.Rows.{member_names}
use Rattle.keyword_compilers.proofs.names.names_of.Given as goal

abbrev pub invariant-loop-name : goal.invariant-loop-name
invariant-loop-name l = member_names (members_view l.schemas.entries) ≡ map string_bytes l.names.items ++ member_names (members_view l.name-iterator)
