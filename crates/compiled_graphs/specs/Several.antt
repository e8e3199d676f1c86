-- Which of some roots may be read, and what their graph means.
use Rattle.std.specs.Prelude.{◌≡◌, ℕ, List, Bool, Option, Some, None, IfSome, is_some, slice_get}
use Rattle.std.specs.Bool.{Decides}
use Rattle.std.specs.List.{AllZip}
use Rattle.serde_json.specs.Data.{Data}
use Rattle.schema_definitions.specs.Bearers.{Document}
use Rattle.schema_definitions.specs.Lookup.{Target}
use Rattle.schema_meaning.specs.Members.{In}
use Rattle.reading_laws.specs.Keys.{AreWithin}
use Rattle.schema_engine.specs.declared.node.Node.{Node}
use Rattle.compiled_keywords.specs.declared.keyword.Keyword.{Keyword}
use Rattle.schema_patterns.specs.Tables.{AreMadeBy, texts_of_table}
use Rattle.schema_patterns.specs.declared.table.PatternTable.{PatternTable}
use Rattle.schema_registries.specs.Roots.{Patterns, Finds, IsSound, root_inside}
use Rattle.schema_registries.specs.Matched.{HoldsPatterns}
use Rattle.compiled_keywords.specs.Shapes.{shape_of}
use Rattle.graph_answers.specs.Answers.{IsVerdict}
use Rattle.compiled_graphs.specs.Linking.{IsCompiledAt}
use Rattle.compiled_graphs.specs.Starts.{site_inside, sites_from}

-- a root has a start exactly where it may be read
abbrev pub AreDecided : Patterns → List Document → List ℕ → List (List ℕ) → List (Option ℕ) → Type 0
AreDecided p own base references starts = AllZip (λ r o. Decides (is_some o) (IsSound p (root_inside own base r))) references starts

-- and there stands its node
abbrev pub StartsAtNode : (List ℕ → Bool) → List Document → List ℕ → List (Node Keyword) → List ℕ → Option ℕ → Type 0
StartsAtNode makes own base nodes r o = IfSome o (λ i. (target : Target) → Finds (root_inside own base r) target → IsCompiledAt own makes nodes (site_inside own base target) i)

-- each is decided, no more compile keys are reached from all of them than a limit, and the patterns of those that may be read are in the table
pub record AreBuilt {M : Type 0} (finds : M → List ℕ → Option Bool) (p : Patterns) (own : List Document) (base : List ℕ) (references : List (List ℕ)) (limit : ℕ) (nodes : List (Node Keyword))
    (table : PatternTable M) (starts : List (Option ℕ)) : Type 0 where
  pub decided : AreDecided p own base references starts
  pub within : AreWithin own p.makes (sites_from own base references) limit
  pub patterns : (r : List ℕ) → In r references → IsSound p (root_inside own base r) → HoldsPatterns p (root_inside own base r) (texts_of_table table)
  pub made : AreMadeBy finds p.finished table
  pub compiled : AllZip (StartsAtNode p.makes own base nodes) references starts

-- an answer from the node at which a root starts, where it has one
module _ {M : Type 0} (finds : M → List ℕ → Option Bool) (nodes : List (Node Keyword)) (table : PatternTable M) (d : Data) where
  abbrev AnswersFrom : Option (Option ℕ) → Option Bool → Type 0
  AnswersFrom (Some (Some start)) (Some b) = IsVerdict shape_of finds nodes table start d b
  AnswersFrom (Some (Some start)) None = ⊥
  AnswersFrom (Some None) o = o ≡ None
  AnswersFrom None o = o ≡ None

  abbrev pub AnswersAt : List (Option ℕ) → ℕ → Option Bool → Type 0
  AnswersAt starts position o = AnswersFrom (slice_get starts position) o
