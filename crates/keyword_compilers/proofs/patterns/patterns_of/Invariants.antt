use Rattle.std.proofs.Common.{◌≡◌, ◌++◌, map}
use Rattle.serde_json.specs.View.{members_view}
use Rattle.schema_definitions.specs.Rows.{member_names}
use Rattle.schema_patterns.specs.Tables.{texts_of_table}
use Rattle.keyword_compilers.specs.Patterns.{numbered, seen}
use Rattle.keyword_compilers.proofs.patterns.patterns_of.Given as goal

abbrev pub invariant-loop-name : goal.invariant-loop-name
invariant-loop-name g l =
    let texts = texts_of_table l.table in
    map (numbered texts) (member_names (members_view l.schemas.entries)) ≡ map seen l.found.items ++ map (numbered texts) (member_names (members_view l.name-iterator))
