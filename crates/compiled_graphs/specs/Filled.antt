-- Keywords compiled from what stands at schemas, and the nodes that they fill.
use Rattle.std.specs.Prelude.{◌≡◌, ◌+◌, ℕ, List, [], ◌∷◌, ◌++◌, Bool, true, false, length, Option, Some, None, slice_get}
use Rattle.std.specs.List.{AllZip}
use Rattle.json_values.specs.Parts.{Part}
use Rattle.schema_meaning.specs.Members.{In}
use Rattle.schema_meaning.specs.Keywords.{never}
use Rattle.schema_meaning.specs.Linked.{Linked}
use Rattle.schema_definitions.specs.Bearers.{Document, Documents}
use Rattle.schema_definitions.specs.Sites.{Site}
use Rattle.schema_definitions.specs.Rows.{Row, reads, rows_at}
use Rattle.linked_meanings.specs.Related.{RelatedShape}
use Rattle.schema_engine.specs.declared.node.Node.{Node}
use Rattle.schema_sites.specs.Read.{row_of, shapes_of}
use Rattle.schema_sites.specs.declared.keyword.Keyword as read
use Rattle.compiled_keywords.specs.declared.keyword.Keyword.{Keyword}
use Rattle.compiled_keywords.specs.declared.keyword.Keyword.TheVariants as code
use Rattle.keyword_compilers.specs.Patterns.{patterns_needed, patterns_in, AreHeld, AreEntries}
use Rattle.keyword_compilers.specs.Shapes.{shapes_in}
use Rattle.reached_sites.specs.Visits.{site_of}
use Rattle.graph_answers.specs.Linking.{IsLocatedAt}
use Rattle.reached_sites.specs.declared.visit.Visit.{Visit}
use Rattle.compiled_graphs.specs.Asked.{asked_by, IsAnswered}
use Rattle.marked_nodes.specs.declared.graph.Edge.{Edge}
use Rattle.compiled_graphs.specs.Graphs.{IsVisited}
use Rattle.compiled_graphs.specs.Linked.{edge}
use Rattle.compiled_graphs.specs.declared.asking.Asking.{Asking}
use Rattle.compiled_graphs.specs.declared.asking.Asking.TheVariants as asking

-- how many numbers what was found has
abbrev pub total : List Asking → ℕ
total [] = 0
total (asking.Never ∷ ys) = total ys
total (asking.Keyword k n ∷ ys) = n + total ys

abbrev pub node_if : Bool → Option ℕ → Option ℕ
node_if true o = o
node_if false o = None

abbrev pub listed : {A : Type 0} → Option A → List A
listed None = []
listed (Some x) = x ∷ []

-- a keyword over the nodes of these numbers
pub record IsOver (k : read.Keyword) (ns : List ℕ) (o : Option Keyword) : Type 0 where
  pub shapes : (docs : Documents) (s : Site) (pairs : List (Site × ℕ)) → IsAnswered k → AllZip (Linked pairs) (asked_by docs s k) ns
      → AllZip (RelatedShape (Linked pairs)) (shapes_of docs s k) (shapes_in o)

-- and its patterns by their numbers among some texts, where it has them
pub record IsCompiled (texts : List (List ℕ)) (k : read.Keyword) (ns : List ℕ) (o : Option Keyword) : Type 0 where
  pub over : IsOver k ns o
  pub entries : AreHeld texts (patterns_needed k) → AreEntries texts (patterns_in o)

abbrev pub PutsCompiled : List (List ℕ) → read.Keyword → List ℕ → List Keyword → List Keyword → Type 0
PutsCompiled texts k ns old new = (o : Option Keyword) × (new ≡ old ++ listed o) × IsCompiled texts k ns o

-- all that was found, compiled
pub data Compiled (texts : List (List ℕ)) : List Asking → List ℕ → List Keyword → Type 0 where
  none : Compiled texts [] [] []
  refuses : {ys : List Asking} {ns : List ℕ} {ks : List Keyword} → Compiled texts ys ns ks → Compiled texts (asking.Never ∷ ys) ns (code.Never ∷ ks)
  asks : {ys : List Asking} {ns : List ℕ} {ks : List Keyword} (k : read.Keyword) (n : ℕ) (mine : List ℕ) (o : Option Keyword) → length mine ≡ n → IsCompiled texts k mine o
      → Compiled texts ys ns ks → Compiled texts (asking.Keyword k n ∷ ys) (mine ++ ns) (listed o ++ ks)

-- how high a place stands: those below it stand lower
abbrev pub IsRank : List Part → ℕ → Type 0
IsRank path rank = rank + length path ≡ 18446744073709551615

-- ---- nodes

-- a site that is visited at the end of an edge from a position
abbrev pub IsReached : ℕ → List Visit → List Edge → Site → ℕ → Type 0
IsReached i vs es s n = IsVisited vs n s × In (edge i n) es

abbrev pub AreReached : ℕ → List Visit → List Edge → List Site → List ℕ → Type 0
AreReached i vs es ss ns = AllZip (IsReached i vs es) ss ns

-- rows without a cause, each with its keyword over the nodes of what it asks
pub data Means (own : List Document) (s : Site) (i : ℕ) (vs : List Visit) (es : List Edge) (texts : List (List ℕ)) : List Row → List Keyword → Type 0 where
  none : Means own s i vs es texts [] []
  refuses : {rows : List Row} {ks : List Keyword} (row : Row) → row ≡ reads [] (never ∷ []) → Means own s i vs es texts rows ks → Means own s i vs es texts (row ∷ rows) (code.Never ∷ ks)
  asks : {rows : List Row} {ks : List Keyword} (row : Row) (k : read.Keyword) (ns : List ℕ) (o : Option Keyword) → row ≡ row_of own s k → IsAnswered k → AreReached i vs es (asked_by own s k) ns
      → IsOver k ns o → AreEntries texts (patterns_in o) → Means own s i vs es texts rows ks → Means own s i vs es texts (row ∷ rows) (listed o ++ ks)

-- the node of a visit: its keywords, unless something is wrong there
pub record IsNodeOf (own : List Document) (makes : List ℕ → Bool) (i : ℕ) (vs : List Visit) (es : List Edge) (texts : List (List ℕ)) (v : Visit) (is_right : Bool) (node : Node Keyword) : Type 0 where
  pub means : is_right ≡ true → Means own (site_of v) i vs es texts (rows_at own makes (site_of v)) node.keywords.items
  pub empty : is_right ≡ false → node.keywords.items ≡ []
  pub path : node.schema_path ≡ v.point.schema_path.steps
  pub located : IsLocatedAt (site_of v) node
  pub rank : IsRank v.point.place.path node.rank

-- the node at a position
pub record HasNode (own : List Document) (makes : List ℕ → Bool) (vs : List Visit) (es : List Edge) (wrong : List ℕ) (texts : List (List ℕ)) (i : ℕ) (node : Node Keyword) : Type 0 where
  pub visit : Visit
  pub there : slice_get vs i ≡ Some visit
  pub is_right : Bool
  pub known : (In i wrong → ⊥) → is_right ≡ true
  pub is : IsNodeOf own makes i vs es texts visit is_right node

pub record HasNodes (own : List Document) (makes : List ℕ → Bool) (vs : List Visit) (es : List Edge) (wrong : List ℕ) (texts : List (List ℕ)) (nodes : List (Node Keyword)) : Type 0 where
  pub each : (i : ℕ) (node : Node Keyword) → slice_get nodes i ≡ Some node → HasNode own makes vs es wrong texts i node
