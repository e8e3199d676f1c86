-- The matches that a value asks for, from a node on.
use Rattle.std.specs.Prelude.{◌≡◌, ℕ, List, map, IfSome}
use Rattle.serde_json.specs.Data.{Data}
use Rattle.schema_meaning.specs.Keywords.{Shape, rule}
use Rattle.schema_meaning.specs.Matches.{match_sites}
use Rattle.schema_meaning.specs.Members.{In}
use Rattle.schema_meaning.specs.Places.{value_after}
use Rattle.schema_meaning.specs.Questions.{Question}
use Rattle.schema_meaning.specs.Rules.{asks}
use Rattle.schema_engine.specs.declared.node.Node.{Node}
use Rattle.schema_engine.specs.Graphs.{keywords_at, AreKnown}
use Rattle.schema_engine.specs.Matches.{Answers, Matches, Start, InEach}

-- questions lead from the start to a node at a value
pub data IsLed (reads : Answers) (s : Start) : ℕ → Data → Type 0 where
  begins : IsLed reads s s.node s.value
  goes_on : {n : ℕ} {d : Data} → IsLed reads s n d → (k : Shape ℕ) (q : Question ℕ) → In k (s.keywords n) → In q (asks (rule reads d k))
      → IsLed reads s q.site (value_after d q.step)

-- a keyword of a node to which they lead asks for the match of a pattern with a text
pub record AsksFor (reads : Answers) (s : Start) (pattern text : List ℕ) : Type 0 where
  pub node : ℕ
  pub value : Data
  pub led : IsLed reads s node value
  pub keyword : Shape ℕ
  pub stands : In keyword (s.keywords node)
  pub asked : In (pattern, text) (match_sites value keyword)

-- ---- however what is not known is answered

abbrev pub LedFrom : Matches → ℕ → Data → Start → Type 0
LedFrom m n d s = InEach m (λ reads. IsLed reads s n d)

abbrev pub LedTo : Matches → ℕ → Data → Type 0
LedTo m n d = IfSome m.from (LedFrom m n d)

abbrev pub AskedFrom : Matches → List ℕ → List ℕ → Start → Type 0
AskedFrom m pattern text s = InEach m (λ reads. AsksFor reads s pattern text)

abbrev pub MayMatch : Matches → List ℕ → List ℕ → Type 0
MayMatch m pattern text = IfSome m.from (AskedFrom m pattern text)

-- each match that a keyword asks for at a value may be asked for
pub record MayAskFor (m : Matches) (k : Shape ℕ) (d : Data) : Type 0 where
  pub each : (pattern text : List ℕ) → In (pattern, text) (match_sites d k) → MayMatch m pattern text

-- ---- the nodes of a graph

abbrev pub HasKeywords : {K : Type 0} → (K → Shape ℕ) → List (Node K) → Start → Type 0
HasKeywords shape nodes s = (n : ℕ) (k : _) → In k (keywords_at nodes n) → In (shape k) (s.keywords n)

-- their keywords know their patterns by their numbers, and are those that may ask for matches
pub record AreReady {K : Type 0} (knows : K → (ℕ → List ℕ) → Type 0) (shape : K → Shape ℕ) (m : Matches) (nodes : List (Node K)) : Type 0 where
  pub known : AreKnown knows m.pattern nodes
  pub asks : IfSome m.from (HasKeywords shape nodes)

-- questions begin with a node of the graph and a value
pub record BeginsWith {K : Type 0} (shape : K → Shape ℕ) (nodes : List (Node K)) (n : ℕ) (d : Data) (s : Start) : Type 0 where
  pub keywords : (n : ℕ) → s.keywords n ≡ map shape (keywords_at nodes n)
  pub node : s.node ≡ n
  pub value : s.value ≡ d

abbrev pub BeginAt : {K : Type 0} → (K → Shape ℕ) → Matches → List (Node K) → ℕ → Data → Type 0
BeginAt shape m nodes n d = IfSome m.from (BeginsWith shape nodes n d)
