-- Graphs that mean what documents mean: their nodes.
use Rattle.std.specs.Prelude.{◌≡◌, ◌<◌, ◌∷◌, ℕ, List, Bool, Option, Some, length, slice_get}
use Rattle.schema_definitions.specs.Bearers.{Documents}
use Rattle.schema_definitions.specs.Plain.{plain}
use Rattle.schema_definitions.specs.Sites.{Site}
use Rattle.schema_meaning.specs.Keywords.{Shape}
use Rattle.schema_meaning.specs.Readings.{Reading}
use Rattle.schema_engine.specs.Graphs.{reading_of, AreKnown}
use Rattle.schema_engine.specs.declared.node.Node.{Node}
use Rattle.schema_patterns.specs.Tables.{texts_of_table}
use Rattle.schema_patterns.specs.declared.table.PatternTable.{PatternTable}
use Rattle.linked_meanings.specs.Related.{AreRelated}
use Rattle.reading_laws.specs.SiteLaws.{AreAlike}
use Rattle.reading_laws.specs.Spelled.{spelled}
use Rattle.graph_answers.specs.Tables.{table_texts}

-- the plain reading of documents, its schema paths as pointers spell them
abbrev pub as_spelled : Documents → (List ℕ → Bool) → (List ℕ → List ℕ → Bool) → Reading Site
as_spelled docs makes matches = record (plain docs makes matches) { schema_path = λ s. spelled s.schema_path }

-- a site that is alike to the one for which a node stands; a node that stands for none has a cause, or leads to one that has
abbrev pub StandsFor : Documents → List (Option Site) → Site → ℕ → Type 0
StandsFor docs sites s n = (t : Site) × (slice_get sites n ≡ Some (Some t)) × AreAlike docs s t

-- where a node's schema stands, and its draft, as a site has them: its document by its URI, whatever the layer
pub record IsLocatedAt {K : Type 0} (s : Site) (node : Node K) : Type 0 where
  pub layer : ℕ
  pub document : s.document ≡ layer ∷ node.location.document.value
  pub path : s.path ≡ node.location.path
  pub draft : s.dialect.draft ≡ node.draft

-- at each site stands what its node says: the same keywords, over sites with their nodes, under the same schema path; and each node is where its site is
pub record MeansDocuments {K : Type 0} (shape : K → Shape ℕ) (docs : Documents) (makes : List ℕ → Bool) (nodes : List (Node K)) (sites : List (Option Site)) : Type 0 where
  pub related : (matches : List ℕ → List ℕ → Bool) → AreRelated (as_spelled docs makes matches) (reading_of shape matches nodes) (StandsFor docs sites)
  pub located : (n : ℕ) (s : Site) (node : Node K) → slice_get sites n ≡ Some (Some s) → slice_get nodes n ≡ Some node → IsLocatedAt s node

-- a graph that means what documents mean, with the node of a site
pub record IsCompiledAt {K : Type 0} (shape : K → Shape ℕ) (docs : Documents) (makes : List ℕ → Bool) (nodes : List (Node K)) (root : Site) (start : ℕ) : Type 0 where
  pub sites : List (Option Site)
  pub means : MeansDocuments shape docs makes nodes sites
  pub begins : StandsFor docs sites root start
  pub within : start < length nodes

-- the graph's patterns are those of the table, by their numbers
abbrev pub KnowsTable : {K M : Type 0} → (K → (ℕ → List ℕ) → Type 0) → List (Node K) → PatternTable M → Type 0
KnowsTable knows nodes table = AreKnown knows (table_texts (texts_of_table table)) nodes
