use Rattle.std.proofs.Common.{◌≡◌, map, drop}
use Rattle.schema_definitions.specs.Words.{has_text}
use Rattle.schema_registries.specs.Passed.{retrieved_by}
use Rattle.schema_validators.proofs.meta_schema.is_retrieved.Given as goal

-- none of those before is the document
abbrev pub invariant-loop-uri : goal.invariant-loop-uri
invariant-loop-uri l = has_text l.document (map (λ u. u.value) (drop l.uri-index l.uri-items)) ≡ has_text l.document (retrieved_by l.registry)
