use Rattle.std.proofs.Common.{◌≡◌, drop, map, string_bytes}
use Rattle.std.specs.List.{filter}
use Rattle.serde_json.specs.Find.{get}
use Rattle.serde_json.specs.View.{view}
use Rattle.schema_meaning.specs.Members.{is_empty}
use Rattle.schema_meaning.specs.Keywords.{none_there}
use Rattle.compiled_keywords.proofs.assertion.lacks_none.Given as goal

abbrev pub invariant-loop-name : goal.invariant-loop-name
invariant-loop-name l = is_empty (filter (λ k. none_there (get k (view l.value))) (map string_bytes l.names)) ≡ is_empty (filter (λ k. none_there (get k (view l.value))) (map string_bytes (drop l.name-index l.names)))
