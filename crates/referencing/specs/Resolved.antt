-- What the code's resolvers and their answers stand for.
use Rattle.std.specs.Prelude.{ℕ, List, Bool, map, Option, Some, None, Result, Ok}
use Rattle.serde_json.specs.Data.{Data}
use Rattle.serde_json.specs.View.{view}
use Rattle.schema_definitions.specs.Words.{ok_or, result_map}
use Rattle.schema_definitions.specs.Identifiers.{resolved, identifier}
use Rattle.schema_definitions.specs.Places.{Dialect}
use Rattle.schema_definitions.specs.Bearers.{Document}
use Rattle.schema_definitions.specs.Lookup.{LookupCause, invalid_uri, Target}
use Rattle.schema_definitions.specs.Scopes.{entered_scope}
use Rattle.schema_dialects.specs.Dialects.{dialect_of}
use Rattle.document_index.specs.Seen.{name_of}
use Rattle.referencing.specs.Seen.{documents_of}
use Rattle.referencing.specs.declared.resolver.Resolver.{Resolver}
use Rattle.referencing.specs.declared.resolver.Resolved.{Resolved}

abbrev pub documents_in : Resolver → List Document
documents_in r = documents_of r.registry.now

-- whether what stands beside `$ref` is read in Drafts 6 and 7
abbrev pub siblings_in : Resolver → Bool
siblings_in r = r.registry.now.siblings

abbrev pub base_of : Resolver → List ℕ
base_of r = r.base.value

abbrev pub scope_of : Resolver → List (List ℕ)
scope_of r = map (λ u. u.value) r.scope

abbrev pub target_in : Resolved → Target
target_in r = record { document = name_of r.document; path = r.path; contents = view r.contents.now; base = base_of r.resolver; dialect = dialect_of r.dialect; is_place = r.is_place }

-- a subschema entered: its identifier changes the base, and is then the present resource (Core 8.2.1)
abbrev pub entered_at : List ℕ → List (List ℕ) → List ℕ → Result (List ℕ × List (List ℕ)) LookupCause
entered_at base scope id = result_map (λ uri. (uri, entered_scope uri base scope)) (ok_or (invalid_uri id) (resolved base id))

abbrev pub entered_with : List ℕ → List (List ℕ) → Option (List ℕ) → Result (List ℕ × List (List ℕ)) LookupCause
entered_with base scope None = Ok (base, scope)
entered_with base scope (Some id) = entered_at base scope id

abbrev pub entered_by : Dialect → Data → List ℕ → List (List ℕ) → Result (List ℕ × List (List ℕ)) LookupCause
entered_by dialect d base scope = entered_with base scope (identifier dialect d)
