-- The causes of schema places, by who bears a URI and by why a meta-schema that is awaited is not known.
use Rattle.std.specs.Prelude.{ℕ, suc, List, [], ◌∷◌, ◌++◌, Bool, if◌then◌else◌, codes, Option, Some, None, is_some}
use Rattle.uri_grammar.specs.Texts.{cut_at}
use Rattle.schema_definitions.specs.Words.{text_at}
use Rattle.schema_definitions.specs.Identifiers.{resolved, identifier_text}
use Rattle.schema_definitions.specs.Places.{schema_in_force}
use Rattle.schema_definitions.specs.Bearers.{Documents, Standing, is_root, bearer}
use Rattle.schema_definitions.specs.DocumentCauses.{DocumentCause, no_reference, unretrieved, unless_reference, awaited_cause, how_many_await}
use Rattle.document_index.specs.Indexes.{bearer_in}
use Rattle.document_index.specs.declared.index.Index.{Index}

-- who bears a URI, by an index and by documents
abbrev pub borne_in : Index → List ℕ → Bool
borne_in index uri = is_some (bearer_in index uri)

abbrev pub borne_by : Documents → List ℕ → Bool
borne_by docs uri = is_some (bearer docs uri)

-- why a meta-schema that is awaited is not known, by documents
abbrev pub unknown_by : Documents → List ℕ → DocumentCause
unknown_by docs uri = awaited_cause docs (suc (how_many_await docs)) uri

-- the causes of a reference by the part before its `#`
abbrev pub unless_borne : (List ℕ → Bool) → List ℕ → List DocumentCause
unless_borne borne uri = if borne uri then [] else unretrieved uri ∷ []

abbrev pub wanted_from : (List ℕ → Bool) → List ℕ → Option (List ℕ) → List DocumentCause
wanted_from borne t None = no_reference t ∷ []
wanted_from borne t (Some uri) = unless_borne borne uri

abbrev pub wanted_by : (List ℕ → Bool) → List ℕ → List ℕ → List DocumentCause
wanted_by borne t base = wanted_from borne t (resolved base t)

abbrev pub wanted_at : (List ℕ → Bool) → List ℕ → List ℕ → List DocumentCause
wanted_at borne base reference = wanted_by borne (cut_at 35 reference).0 base

-- the causes of a member's text, if it is there
abbrev pub of_text : (List ℕ → List DocumentCause) → Option (List ℕ) → List DocumentCause
of_text causes None = []
of_text causes (Some t) = causes t

-- the causes of a place that awaits no meta-schema: its identifier, and what its `$ref` wants
abbrev pub settled_causes : (List ℕ → Bool) → Standing → List DocumentCause
settled_causes borne s =
    of_text unless_reference (identifier_text s.place.dialect s.place.contents)
    ++ of_text (wanted_at borne s.place.base) (text_at (codes "$ref") s.place.contents)

-- those, or why the meta-schema that a place awaits is not known
abbrev pub awaited_from : (List ℕ → Bool) → (List ℕ → DocumentCause) → Standing → Option (List ℕ) → List DocumentCause
awaited_from borne unknown s None = settled_causes borne s
awaited_from borne unknown s (Some uri) = unknown uri ∷ []

abbrev pub awaited_causes : (List ℕ → Bool) → (List ℕ → DocumentCause) → Standing → List DocumentCause
awaited_causes borne unknown s = awaited_from borne unknown s s.place.awaits

-- the causes of a place: its `$schema` where it counts, and then these
abbrev pub causes_at : (List ℕ → Bool) → (List ℕ → DocumentCause) → Standing → List DocumentCause
causes_at borne unknown s =
    of_text unless_reference (schema_in_force s.place.dialect.siblings (is_root s.place.path) s.place.contents)
    ++ awaited_causes borne unknown s
