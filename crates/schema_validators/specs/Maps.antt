-- Validators for the schemas of a document, by their JSON Pointers.
use Rattle.std.specs.Prelude.{◌≡◌, ◌↔◌, ◌⊎◌, ℕ, List, [], ◌∷◌, ◌++◌, map, true, Option, Some, None, is_some, string_bytes}
use Rattle.std.specs.HashMap.{get_by_text}
use Rattle.schema_meaning.specs.Members.{In}
use Rattle.schema_definitions.specs.Bearers.{Document, uri_in}
use Rattle.schema_definitions.specs.Lookup.{Target}
use Rattle.schema_patterns.specs.declared.matcher.PatternMatcher.{Ghosts}
use Rattle.compiled_graphs.specs.declared.schemas.SchemaGraph.{SchemaGraph}
use Rattle.schema_registries.specs.Pointers.{pointers_of, reference_to, IsDocumentAt}
use Rattle.reached_sites.specs.Passed.{AreWithin}
use Rattle.compiled_graphs.specs.Causes.{AreExceeded}
use Rattle.compiled_graphs.specs.Starts.{sites_from}
use Rattle.schema_registries.specs.declared.registry.SchemaRegistry.{SchemaRegistry}
use Rattle.schema_registries.specs.Seen.{documents_in_registry}
use Rattle.schema_registries.specs.Roots.{Root, Patterns, Finds, IsSound, root_on, root_inside}
use Rattle.schema_validators.specs.Refused.{RefusesReference}
use Rattle.schema_validators.specs.Made.{IsMadeBy}
use Rattle.schema_validators.specs.declared.error.BuildError.{BuildError}
use Rattle.schema_validators.specs.declared.error.BuildError.TheVariants as error
use Rattle.schema_validators.specs.declared.validator.Validator.{Validator}
use Rattle.schema_validators.specs.declared.validator_map.ValidatorMap.{ValidatorMap}

-- the pointers, in their order
abbrev pub keys_of : {M : Type 0} {G : Ghosts M} → ValidatorMap M G → List (List ℕ)
keys_of m = map (λ e. string_bytes e.0) m.validators.entries

-- the pointers with their validators, in their order
abbrev pub entries_in : {M : Type 0} {G : Ghosts M} → ValidatorMap M G → List (List ℕ × Validator M G)
entries_in m = map (λ e. (string_bytes e.0, e.1)) m.validators.entries

-- the validator under a pointer
abbrev pub entry_at : {M : Type 0} {G : Ghosts M} → ValidatorMap M G → List ℕ → Option (Validator M G)
entry_at m pointer = get_by_text m.validators pointer

-- a schema place as a root: the pointer is looked up, as a fragment, from its document's URI, with the resource of the document's root entered
abbrev pub place_root : List Document → List ℕ → List ℕ → Root
place_root own document pointer = root_inside own document (reference_to pointer)

-- of some pointers those at which nothing is wrong, in their order
pub data SortsOut (p : Patterns) (own : List Document) (document : List ℕ) : List (List ℕ) → List (List ℕ) → Type 0 where
  none : SortsOut p own document [] []
  taken : {pointers keys : List (List ℕ)} (k : List ℕ) → IsSound p (place_root own document k) → SortsOut p own document pointers keys → SortsOut p own document (k ∷ pointers) (k ∷ keys)
  left : {pointers keys : List (List ℕ)} (k : List ℕ) → (IsSound p (place_root own document k) → ⊥) → SortsOut p own document pointers keys → SortsOut p own document (k ∷ pointers) keys

-- a validator at a schema place, of its draft
pub record ReadsPlace {M : Type 0} {G : Ghosts M} (p : Patterns) (own : List Document) (document pointer : List ℕ) (v : Validator M G) : Type 0 where
  pub made : IsMadeBy p (place_root own document pointer) v
  pub draft : (target : Target) → Finds (place_root own document pointer) target → v.draft ≡ target.dialect.draft

-- the schema places of a document at which nothing is wrong, each with a validator that reads it, and no more compile keys than a limit that are reached from all places together
pub record IsMapOf {M : Type 0} {G : Ghosts M} (p : Patterns) (own : List Document) (d : Document) (limit : ℕ) (m : ValidatorMap M G) : Type 0 where
  pub keys : SortsOut p own d.uri (pointers_of own d) (keys_of m)
  pub exactly : (k : List ℕ) → (is_some (entry_at m k) ≡ true) ↔ (In k (pointers_of own d) × IsSound p (place_root own d.uri k))
  pub reads : (k : List ℕ) (v : Validator M G) → entry_at m k ≡ Some v → ReadsPlace p own d.uri k v
  pub within : AreWithin own p.makes (sites_from own d.uri (map reference_to (pointers_of own d))) limit

-- ---- how it is made

-- a validator at a schema place, over a graph from a node on
pub record StandsAtPlace {M : Type 0} {G : Ghosts M} (own : List Document) (document : List ℕ) (schemas : SchemaGraph M G) (pointer : List ℕ) (start : ℕ) (v : Validator M G) : Type 0 where
  pub schemas_are : v.schemas.value ≡ schemas
  pub start_is : v.start ≡ start
  pub draft : (target : Target) → Finds (place_root own document pointer) target → v.draft ≡ target.dialect.draft

-- a validator was put behind others where there is a start
abbrev pub PutsPlace : {M : Type 0} {G : Ghosts M} → List Document → List ℕ → SchemaGraph M G → List ℕ → Option ℕ → List (List ℕ × Validator M G) → List (List ℕ × Validator M G) → Type 0
PutsPlace own document schemas pointer None old new = new ≡ old
PutsPlace {M = M} {G = G} own document schemas pointer (Some i) old new = (v : Validator M G) × StandsAtPlace own document schemas pointer i v × (new ≡ old ++ (pointer, v) ∷ [])

-- one for each pointer that has a start, in their order
pub data Enters {M : Type 0} {G : Ghosts M} (own : List Document) (document : List ℕ) (schemas : SchemaGraph M G) : List (List ℕ) → List (Option ℕ) → List (List ℕ × Validator M G) → Type 0 where
  none : Enters own document schemas [] [] []
  taken : {pointers : List (List ℕ)} {starts : List (Option ℕ)} {entries : List (List ℕ × Validator M G)} (k : List ℕ) (i : ℕ) (v : Validator M G) → StandsAtPlace own document schemas k i v
      → Enters own document schemas pointers starts entries → Enters own document schemas (k ∷ pointers) (Some i ∷ starts) ((k, v) ∷ entries)
  left : {pointers : List (List ℕ)} {starts : List (Option ℕ)} {entries : List (List ℕ × Validator M G)} (k : List ℕ) → Enters own document schemas pointers starts entries
      → Enters own document schemas (k ∷ pointers) (None ∷ starts) entries

-- ---- of a root

-- a map of the document under whose URI a root lies, an own one before a parent's
pub record IsMapAt {M : Type 0} {G : Ghosts M} (p : Patterns) (r : SchemaRegistry) (reference : List ℕ) (limit : ℕ) (m : ValidatorMap M G) : Type 0 where
  pub target : Target
  pub found : Finds (root_on r reference) target
  pub document : Document
  pub is_at : IsDocumentAt (documents_in_registry r) (uri_in target.document) document
  pub is_map : IsMapOf p (documents_in_registry r) document limit m

-- from the schema places of a document more compile keys are reached than a limit
abbrev pub ArePlacesExceeded : Patterns → List Document → Document → ℕ → BuildError → Type 0
ArePlacesExceeded p own d limit (error.Document e) = ⊥
ArePlacesExceeded p own d limit (error.Registry e) = ⊥
ArePlacesExceeded p own d limit (error.Root e) = ⊥
ArePlacesExceeded p own d limit (error.Schema e) = AreExceeded own p.makes (sites_from own d.uri (map reference_to (pointers_of own d))) limit e
ArePlacesExceeded p own d limit (error.MetaSchema e) = ⊥
ArePlacesExceeded p own d limit error.Memory = Unit {0}

-- the same of the document under whose URI a root lies
pub record AreMore (p : Patterns) (r : SchemaRegistry) (reference : List ℕ) (limit : ℕ) (e : BuildError) : Type 0 where
  pub target : Target
  pub found : Finds (root_on r reference) target
  pub document : Document
  pub is_at : IsDocumentAt (documents_in_registry r) (uri_in target.document) document
  pub exceeded : ArePlacesExceeded p (documents_in_registry r) document limit e

abbrev pub RefusesMapAt : Patterns → SchemaRegistry → List ℕ → ℕ → BuildError → Type 0
RefusesMapAt p r reference limit e = RefusesReference (root_on r reference) e ⊎ AreMore p r reference limit e
