-- What references lead to.
use Rattle.std.specs.Prelude.{ℕ, List, ◌∷◌, ◌&&◌, if◌then◌else◌, Result, Ok}
use Rattle.schema_definitions.specs.Words.{ok_or, and_then, has_text}
use Rattle.schema_definitions.specs.Identifiers.{resolved, is_name, dynamic_anchors}
use Rattle.schema_definitions.specs.Bearers.{Document, Documents, Standing, bearer}
use Rattle.schema_definitions.specs.Lookup.{LookupCause, invalid_uri, unretrievable, Target}
use Rattle.schema_definitions.specs.Scopes.{outermost}
use Rattle.schema_places.specs.Reached.{target_of}
use Rattle.document_index.specs.Seen.{name_of}
use Rattle.referencing.specs.declared.resolving.Found.{Found}

abbrev pub found_target : Found → Target
found_target f = target_of (name_of f.document) f.reached

-- the bearer of a reference without its fragment
abbrev pub bearer_at : List Document → List ℕ → Result Standing LookupCause
bearer_at documents uri = ok_or (unretrievable uri) (bearer documents uri)

abbrev pub bearer_wanted : List Document → List ℕ → List ℕ → Result Standing LookupCause
bearer_wanted documents base text = and_then (ok_or (invalid_uri text) (resolved base text)) (bearer_at documents)

-- what a dynamic reference leads to, by the name in its fragment and what it leads to as a plain one
abbrev pub redirect : Documents → List (List ℕ) → List ℕ → Target → Result Target LookupCause
redirect docs scope k t = if is_name k && has_text k (dynamic_anchors t.dialect t.contents) then outermost docs k (t.base ∷ scope) else Ok t
