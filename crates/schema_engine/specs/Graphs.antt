-- What a graph means, as a reading whose sites are the numbers of its nodes.
use Rattle.std.specs.Prelude.{◌≡◌, ◌<◌, ℕ, max, List, [], ◌∷◌, map, Bool, length, Option, Some, None, slice_get}
use Rattle.json_values.specs.Parts.{Part}
use Rattle.schema_meaning.specs.Members.{In}
use Rattle.schema_meaning.specs.Places.{SchemaPlace}
use Rattle.schema_meaning.specs.Keywords.{Shape}
use Rattle.schema_meaning.specs.Readings.{Reading}
use Rattle.schema_engine.specs.Leads.{subschemas_of, leads_of}
use Rattle.schema_engine.specs.declared.node.Node.{Node}

abbrev pub keywords_or_none : {K : Type 0} → Option (Node K) → List K
keywords_or_none None = []
keywords_or_none (Some n) = n.keywords.items

abbrev pub rank_or_zero : {K : Type 0} → Option (Node K) → ℕ
rank_or_zero None = 0
rank_or_zero (Some n) = n.rank

abbrev pub path_or_root : {K : Type 0} → Option (Node K) → List Part
path_or_root None = []
path_or_root (Some n) = n.schema_path

abbrev pub keywords_at : {K : Type 0} → List (Node K) → ℕ → List K
keywords_at nodes n = keywords_or_none (slice_get nodes n)

abbrev pub rank_at : {K : Type 0} → List (Node K) → ℕ → ℕ
rank_at nodes n = rank_or_zero (slice_get nodes n)

abbrev pub path_at : {K : Type 0} → List (Node K) → ℕ → List Part
path_at nodes n = path_or_root (slice_get nodes n)

abbrev pub highest : {K : Type 0} → List (Node K) → ℕ
highest [] = 0
highest (n ∷ ns) = max n.rank (highest ns)

-- a node's number as a place of a schema
abbrev pub place_of : ℕ → SchemaPlace
place_of n = record { document = n ∷ []; path = [] }

abbrev pub reading_of : {K : Type 0} → (K → Shape ℕ) → (List ℕ → List ℕ → Bool) → List (Node K) → Reading ℕ
reading_of shape matches nodes = record {
  keywords = λ n. map shape (keywords_at nodes n);
  schema_path = path_at nodes;
  place = place_of;
  matches = matches;
  nesting = highest nodes;
}

-- keywords lead to nodes of the graph, and schemas nest: where no reference is followed, the node that is asked nests less
pub record IsSound {K : Type 0} (shape : K → Shape ℕ) (nodes : List (Node K)) : Type 0 where
  pub below : (n : ℕ) (k : K) (follows : Bool) (m : ℕ) → In k (keywords_at nodes n) → In m (leads_of follows (shape k)) → m < length nodes
  pub falls : (n : ℕ) (k : K) (m : ℕ) → In k (keywords_at nodes n) → In m (subschemas_of (shape k)) → rank_at nodes m < rank_at nodes n

-- each keyword knows its patterns by their numbers
pub record AreKnown {K : Type 0} (knows : K → (ℕ → List ℕ) → Type 0) (pattern : ℕ → List ℕ) (nodes : List (Node K)) : Type 0 where
  pub each : (n : ℕ) (k : K) → In k (keywords_at nodes n) → knows k pattern

-- a reading whose sites are the nodes, whatever the paths and the places of the schemas
pub record IsReadingOf {K : Type 0} (shape : K → Shape ℕ) (reads : List ℕ → List ℕ → Bool) (nodes : List (Node K)) (r : Reading ℕ) : Type 0 where
  pub matches : r.matches ≡ reads
  pub keywords : (n : ℕ) → r.keywords n ≡ map shape (keywords_at nodes n)

-- and whose paths of schemas are theirs
pub record HasPathsOf {K : Type 0} (nodes : List (Node K)) (r : Reading ℕ) : Type 0 where
  pub paths : (n : ℕ) → r.schema_path n ≡ path_at nodes n
