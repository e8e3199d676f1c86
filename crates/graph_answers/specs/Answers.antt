-- What is answered of a value over a compiled graph, and what documents that the graph means tell of it.
use Rattle.std.specs.Prelude.{◌≡◌, ◌≤◌, ℕ, zero, suc, List, [], ◌∷◌, map, length, Bool, false, Option}
use Rattle.std.specs.List.{flat_map}
use Rattle.serde_json.specs.Data.{Data, depth}
use Rattle.json_values.specs.Parts.{Part}
use Rattle.schema_meaning.specs.Places.{Key, whole}
use Rattle.schema_meaning.specs.Faults.{Fault, Faults, is_none, instance_path, evaluation_path, Told}
use Rattle.schema_meaning.specs.Keywords.{Shape}
use Rattle.schema_meaning.specs.Readings.{Telling, verdicts, bags, IsTold}
use Rattle.schema_meaning.specs.Circular.{IsCircular}
use Rattle.schema_meaning.specs.Cut.{cut}
use Rattle.schema_meaning.specs.Order.{SameFaults}
use Rattle.schema_meaning.specs.Certificates.{Certificate}
use Rattle.schema_definitions.specs.Bearers.{Documents}
use Rattle.schema_definitions.specs.Sites.{Site}
use Rattle.schema_definitions.specs.Plain.{deepest, plain}
use Rattle.schema_definitions.specs.AllKeys.{spots_in}
use Rattle.schema_engine.specs.Graphs.{place_of, reading_of}
use Rattle.schema_engine.specs.Hearing.{HearsMore}
use Rattle.schema_engine.specs.declared.node.Node.{Node}
use Rattle.schema_reports.specs.declared.observer.Observer.{Observer}
use Rattle.schema_patterns.specs.Tables.{AreMadeBy, texts_of_table}
use Rattle.schema_patterns.specs.declared.table.PatternTable.{PatternTable}
use Rattle.linked_meanings.specs.Moved.{moved}
use Rattle.reading_laws.specs.Asked.{AreAmong, AreFinished}
use Rattle.reading_laws.specs.Spelled.{spelled}
use Rattle.graph_answers.specs.Linking.{IsCompiledAt, as_spelled}
use Rattle.graph_answers.specs.Tables.{table_reads}

-- ---- over a graph

abbrev pub numbers_below : ℕ → List ℕ
numbers_below zero = []
numbers_below (suc n) = 0 ∷ map (λ m. suc m) (numbers_below n)

-- every node at every place of the value
abbrev pub keys_below : ℕ → Data → List Key
keys_below n d = flat_map (λ m. map (λ spot. record { target = place_of m; path = spot.0; called = spot.1 }) (spots_in [] d)) (numbers_below n)

module _ {K M : Type 0} (shape : K → Shape ℕ) (finds : M → List ℕ → Option Bool) (nodes : List (Node K)) (table : PatternTable M) (start : ℕ) (d : Data) where
  -- what is told from a node on by the table's matches, a return of references taken as accepted
  unfoldable pub answer_by : {A : Type 0} → Telling ℕ A → A
  answer_by t = cut t (reading_of shape (table_reads finds table) nodes) (keys_below (length nodes) d) [] start (whole d)

  abbrev pub IsAnswer : Bool → Type 0
  IsAnswer b = b ≡ answer_by verdicts

  abbrev pub HearsAnswer : Observer → Observer → Type 0
  HearsAnswer old new = HearsMore (answer_by bags) old new

  -- there are no faults just where the verdict is yes
  abbrev pub Agree : Type 0
  Agree = is_none (answer_by bags) ≡ answer_by verdicts

  -- ---- of documents that the graph means

  -- The graph means the documents from a root on, whose patterns are all in the table; each match that the value asks for is finished by
  -- the table's patterns, as `matches` says; and no references come back to where they were.
  pub record IsDecided (docs : Documents) (makes : List ℕ → Bool) (matches : List ℕ → List ℕ → Bool) (root : Site) : Type 0 where
    pub compiled : IsCompiledAt shape docs makes nodes root start
    pub shallow : depth root.contents ≤ deepest docs
    pub finished : List ℕ → List ℕ → Option Bool
    pub made : AreMadeBy finds finished table
    pub among : AreAmong docs makes root (texts_of_table table)
    pub finish : AreFinished docs makes root finished matches d
    pub straight : IsCircular (plain docs makes matches) root (whole d) → ⊥

  -- then the verdict is theirs
  abbrev pub IsVerdict : Bool → Type 0
  IsVerdict b = (docs : Documents) (makes : List ℕ → Bool) (matches : List ℕ → List ℕ → Bool) (root : Site) → IsDecided docs makes matches root
      → IsTold verdicts (plain docs makes matches) root (whole d) b

  -- and it is no just where some chain of obliged steps leads to a keyword that refuses
  abbrev pub IsCertified : Bool → Type 0
  IsCertified b = (docs : Documents) (makes : List ℕ → Bool) (matches : List ℕ → List ℕ → Bool) (root : Site) → IsDecided docs makes matches root
      → (b ≡ false → (i : List Part) × (e : List Part) × Certificate (plain docs makes matches) root (whole d) i e)
      × ((i e : List Part) → Certificate (plain docs makes matches) root (whole d) i e → b ≡ false)

  -- these faults are those that the documents tell, up to order, with schema paths as pointers spell them
  pub record AreSame (docs : Documents) (makes : List ℕ → Bool) (matches : List ℕ → List ℕ → Bool) (root : Site) (fs : Faults) : Type 0 where
    pub faults : Faults
    pub told : IsTold bags (plain docs makes matches) root (whole d) faults
    pub spelled_told : IsTold bags (as_spelled docs makes matches) root (whole d) (moved spelled faults)
    pub same : SameFaults fs (moved spelled faults)

  abbrev pub AreFaults : Type 0
  AreFaults = (docs : Documents) (makes : List ℕ → Bool) (matches : List ℕ → List ℕ → Bool) (root : Site) → IsDecided docs makes matches root
      → AreSame docs makes matches root (answer_by bags)

  -- the two paths of each are those of a chain of obliged steps to a keyword that refuses
  abbrev pub HaveCertificates : Type 0
  HaveCertificates = (docs : Documents) (makes : List ℕ → Bool) (matches : List ℕ → List ℕ → Bool) (root : Site) → IsDecided docs makes matches root
      → (f : Fault) → Told f (answer_by bags) → Certificate (plain docs makes matches) root (whole d) (instance_path f) (evaluation_path f)
