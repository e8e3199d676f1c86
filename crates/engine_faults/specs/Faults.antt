-- What the engine tells: the faults of the cut reading of the graph.
use Rattle.std.specs.Prelude.{◌≡◌, ◌≤◌, ℕ, List, [], ◌∷◌, map, Bool, true, false}
use Rattle.std.specs.declared.alloc.Global.{Global}
use Rattle.std.specs.declared.vec.Vec.{Vec}
use Rattle.json_values.specs.Parts.{Part}
use Rattle.schema_meaning.specs.Faults.{Faults, none, also, joined, join, is_none, branches_of}
use Rattle.schema_meaning.specs.Keywords.{Shape, rule}
use Rattle.schema_meaning.specs.Questions as told
use Rattle.schema_meaning.specs.Rules.{Rule, asks, faults, each_of_object}
use Rattle.schema_meaning.specs.Readings.{Reading, bags}
use Rattle.schema_meaning.specs.Cut.{cut_asked, cut_within}
use Rattle.schema_reports.specs.Told.{AreBranches}
use Rattle.schema_reports.specs.declared.error.ValidationError.{ValidationError}
use Rattle.schema_reports.specs.declared.observer.Observer.{Observer}
use Rattle.schema_engine.specs.declared.node.Node.{Node}
use Rattle.schema_engine.specs.declared.place.Place.{Place}
use Rattle.schema_engine.specs.declared.place.Question as code
use Rattle.schema_engine.specs.Graphs.{reading_of}
use Rattle.schema_engine.specs.Hearing.{HearsMore}
use Rattle.schema_engine.specs.Matches.{Answers}
use Rattle.schema_engine.specs.Places.{value_at}
use Rattle.schema_engine.specs.Questions.{call_of, question_by}
use Rattle.schema_engine.specs.Refusals.{refused_fault}
use Rattle.schema_engine.specs.Rules.{questions_of}
use Rattle.schema_engine.specs.Verdicts.{Setting, Fits}

-- ---- what is told in a setting

-- of a node
abbrev pub node_faults : Reading ℕ → ℕ → Setting → Faults
node_faults r n x = cut_within bags r x.depth x.keys n x.spot

-- of a question of a node's keyword, and of the keyword
unfoldable pub asked_faults : Reading ℕ → Setting → told.Question ℕ → Faults
asked_faults r x q = cut_asked bags r (cut_within bags r x.depth) x.keys x.spot q

unfoldable pub rule_faults : Reading ℕ → ℕ → Rule ℕ → Setting → Faults
rule_faults r n k x = faults k x.spot (r.schema_path n) (map (asked_faults r x) (asks k))

-- of a keyword that has one fault for all that it asks
abbrev pub one_told : Reading ℕ → ℕ → Rule ℕ → Setting → Faults
one_told r n k x = also (refused_fault k x.spot (r.schema_path n) (map (asked_faults r x) (asks k))) none

-- ---- of the code's questions, whose keyword adds these parts

abbrev pub question_faults : Reading ℕ → (ℕ → List Part) → Setting → code.Question → Faults
question_faults r added x q = asked_faults r x (question_by added q)

abbrev pub faults_if : Bool → Bool → Faults → Faults → Faults
faults_if true true fs gs = joined fs gs
faults_if true false fs gs = gs
faults_if false true fs gs = gs
faults_if false false fs gs = joined fs gs

-- of those beside the answer to a condition
abbrev pub faults_beside : (code.Question → Faults) → Bool → List code.Question → Faults
faults_beside ask answer [] = none
faults_beside ask answer (q ∷ qs) = faults_if q.beside answer (ask q) (faults_beside ask answer qs)

-- of those beside the answer to the first
abbrev pub faults_by_first : (code.Question → Faults) → List code.Question → Faults
faults_by_first ask [] = none
faults_by_first ask (q ∷ qs) = faults_beside ask (is_none (ask q)) qs

-- of the object, for each fault of a name
abbrev pub faults_of_object : (code.Question → Faults) → Setting → List code.Question → Faults
faults_of_object ask x qs = each_of_object x.spot (join (map ask qs))

-- they are the questions of the rule
pub record AreAsked (added : ℕ → List Part) (k : Rule ℕ) (qs : List code.Question) : Type 0 where
  pub calls : map call_of qs ≡ questions_of k
  pub asked : map (question_by added) qs ≡ asks k

-- ---- which settings that is for

-- a place, the references in progress there, its path in the instance, and the road there
pub record Stand : Type 0 where
  pub place : Place
  pub progress : List ℕ
  pub path : List Part
  pub road : List Part

-- of keywords of a node, one after another
abbrev pub keywords_faults : {K : Type 0} → (K → Shape ℕ) → Answers → List (Node K) → ℕ → Stand → List K → Setting → Faults
keywords_faults shape m nodes n s ks x = join (map (λ k. rule_faults (reading_of shape m nodes) n (rule m (value_at s.place) (shape k)) x) ks)

-- the setting is there
pub record IsAt (s : Stand) (x : Setting) : Type 0 where
  pub fits : Fits s.place s.progress x
  pub path : x.spot.path ≡ s.path
  pub road : x.spot.road ≡ s.road

-- the observer hears what is told in each setting that is there, and deep enough
pub record Hearing (s : Stand) (enough : ℕ) (told : Setting → Faults) (old new : Observer) : Type 0 where
  pub hears : (x : Setting) → IsAt s x → enough ≤ x.depth → HearsMore (told x) old new

-- these are the errors of each question in turn
pub record AreErrorsOf (s : Stand) (enough : ℕ) (ask : Setting → code.Question → Faults) (qs : List code.Question) (context : List (Vec ValidationError Global)) : Type 0 where
  pub branches : (x : Setting) → IsAt s x → enough ≤ x.depth → AreBranches context (branches_of (map (ask x) qs))
