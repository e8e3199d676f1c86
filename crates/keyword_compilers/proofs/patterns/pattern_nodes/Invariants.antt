use Rattle.std.proofs.Common.{◌≡◌, ◌++◌, map}
use Rattle.serde_json.specs.View.{members_view}
use Rattle.schema_definitions.specs.Rows.{member_names}
use Rattle.schema_patterns.specs.Tables.{texts_of_table}
use Rattle.keyword_compilers.specs.Numbers.{beside}
use Rattle.keyword_compilers.specs.Patterns.{numbered, seen_node}
use Rattle.keyword_compilers.proofs.patterns.pattern_nodes.Given as goal

abbrev pub invariant-loop-name : goal.invariant-loop-name
invariant-loop-name g l =
    let texts = texts_of_table l.table in
    beside (map (numbered texts) (member_names (members_view l.schemas.entries))) l.nodes
    ≡ map seen_node l.found.items ++ beside (map (numbered texts) (member_names (members_view l.name-iterator))) l.left
