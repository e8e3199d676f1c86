-- What a step of a walk comes to.
use Rattle.std.specs.Prelude.{◌≡◌, ◌++◌, ◌<◌, ◌≤◌, ℕ, List, map, [], ◌∷◌, Option, None, length, Bool, true, false}
use Rattle.std.specs.Borrow.{Bor}
use Rattle.serde_json.specs.Data.{Data, boolean, string}
use Rattle.serde_json.specs.View.{view}
use Rattle.json_values.specs.Parts.{Part}
use Rattle.schema_meaning.specs.Members.{In}
use Rattle.schema_meaning.specs.Places.{whole, value_after, called_after}
use Rattle.schema_meaning.specs.Questions.{at, names_of}
use Rattle.schema_meaning.specs.Circular.{IsCircular}
use Rattle.schema_meaning.specs.Keywords.{rule}
use Rattle.schema_definitions.specs.Scopes.{entered_scope}
use Rattle.schema_definitions.specs.Sites.{Site, below}
use Rattle.applicators.specs.Questions.{step_of}
use Rattle.fault_paths.specs.declared.ahead.Ahead.{Ahead}
use Rattle.schema_definitions.specs.Rows.{Row}
use Rattle.fault_checks.specs.Passed.{row_of, documents_at, Stands, base_of, scope_of}
use Rattle.fault_checks.specs.Passed.{Keyword}
use Rattle.certificate_laws.specs.Spelled.{AreSpelled, AreSpelledBy}
use Rattle.fault_checks.specs.Names.{bears}
use Rattle.fault_checks.specs.declared.walk.Walk.{Walk}
use Rattle.fault_checks.specs.declared.walk.AtNames.{AtNames}
use Rattle.fault_checks.specs.declared.walk.Step.{Step}
use Rattle.fault_checks.specs.declared.walk.Step.TheVariants.{Answered, On, Named}
use Rattle.fault_paths.specs.Texts.{text_left}
use Rattle.fault_checks.specs.Scenes.{Scene, reading_of, IsRight, Meets, IsStraight, Stage}
use Rattle.fault_checks.specs.Verdicts.{IsDecided, rules_by}

-- what is left of a walk's paths is spelled from a site
abbrev pub IsLeft : Scene → Walk → Site → Type 0
IsLeft x w s = AreSpelled (reading_of x) s (view w.value.now) (text_left w.instance) (text_left w.evaluation)

-- the walk goes on at a site, from which what is left is spelled exactly where P holds
pub record GoesOn (x : Scene) (s : Site) (d : Data) (P : Type 0) (w : Walk) : Type 0 where
  pub site : Site
  pub meets : Meets w.site x site
  pub back : IsCircular (reading_of x) site (whole (view w.value.now)) → IsCircular (reading_of x) s (whole d)
  pub to : P → IsLeft x w site
  pub from : IsLeft x w site → P

-- the site of the schema of names
abbrev pub names_site : Scene → AtNames → Site → Site
names_site x n s = below x.documents s (at n.keyword.now) (view n.schema.now)

-- what is left is spelled from there at a name; at some name of the object
abbrev pub IsLeftAt : Scene → AtNames → Site → List ℕ → Type 0
IsLeftAt x n s k = AreSpelled (reading_of x) (names_site x n s) (string k) (text_left n.walk.instance) (text_left n.evaluation)

abbrev pub SomeLeft : Scene → AtNames → Site → Type 0
SomeLeft x n s = (k : List ℕ) × In k (names_of (view n.walk.value.now)) × IsLeftAt x n s k

-- the walk goes on at names: at one of them what is left is spelled exactly where P holds
pub record GoesOnAt (x : Scene) (s : Site) (d : Data) (P : Type 0) (n : AtNames) : Type 0 where
  pub site : Site
  pub meets : Meets n.walk.site x site
  pub right : IsRight x (names_site x n site)
  pub back : (k : List ℕ) → In k (names_of (view n.walk.value.now)) → IsCircular (reading_of x) (names_site x n site) (whole (string k)) → IsCircular (reading_of x) s (whole d)
  pub to : P → SomeLeft x n site
  pub from : SomeLeft x n site → P

abbrev pub Outcome : Scene → Site → Data → Type 0 → Step → Type 0
Outcome x s d P (Answered b) = IsDecided b P
Outcome x s d P (On w) = GoesOn x s d P w
Outcome x s d P (Named n) = GoesOnAt x s d P n

-- the step of a walk
pub record Passes (w : Walk) (step : Step) : Type 0 where
  pub outcome : (x : Scene) (s : Site) → Meets w.site x s → IsStraight x s (view w.value.now) → Outcome x s (view w.value.now) (IsLeft x w s) step

-- the step by a keyword under a name, `after` being what is left of the evaluation path behind it
pub record PassesBy (w : Walk) (k : Keyword) (name : List ℕ) (after : Option (Bor (List ℕ))) (step : Step) : Type 0 where
  pub outcome : (x : Scene) (s : Site) → Stage w.site (view w.value.now) name (row_of x.documents s k) x s
      → Outcome x s (view w.value.now) (AreSpelledBy (reading_of x) (view w.value.now) (rules_by x s (view w.value.now) k) (text_left w.instance) (47 ∷ (name ++ text_left after))) step

-- the same by the keyword of a member under a name
pub record PassesAs (w : Walk) (k : Keyword) (n member : List ℕ) (after : Option (Bor (List ℕ))) (step : Step) : Type 0 where
  pub same : bears k member n ≡ true → PassesBy w k n after step
  pub other : bears k member n ≡ false → step ≡ Answered false

-- the same by its row, for the keywords that ask
pub record PassesThrough (w : Walk) (row : Scene → Site → Row) (after : Option (Bor (List ℕ))) (step : Step) : Type 0 where
  pub outcome : (x : Scene) (s : Site) (name : List ℕ) → Stage w.site (view w.value.now) name (row x s) x s
      → Outcome x s (view w.value.now) (AreSpelledBy (reading_of x) (view w.value.now) (map (rule x.matches (view w.value.now)) (row x s).shapes) (text_left w.instance) (47 ∷ (name ++ text_left after))) step

-- the walk goes on at a question's subschema and at what it asks of, which is no name
pub record GoesInto (w : Walk) (a : Ahead) (v : Walk) : Type 0 where
  pub contents : view v.site.contents.now ≡ view a.question.subschema.schema.now
  pub documents : documents_at v.site ≡ documents_at w.site
  pub scope : scope_of v.site.resolver ≡ entered_scope (base_of v.site.resolver) (base_of w.site.resolver) (scope_of w.site.resolver)
  pub stands : (s : Site) (added : List Part) → Stands w.site s → Stands v.site (below (documents_at w.site) s added (view a.question.subschema.schema.now))
  pub matches : v.site.matches ≡ w.site.matches
  pub value : called_after None (step_of a.question.asked) ≡ None → view v.value.now ≡ value_after (view w.value.now) (step_of a.question.asked)
  pub instance : v.instance ≡ a.instance
  pub evaluation : v.evaluation ≡ a.evaluation

abbrev pub LeadsInto : Walk → Ahead → Step → Type 0
LeadsInto w a (Answered b) = ⊥
LeadsInto w a (On v) = GoesInto w a v
LeadsInto w a (Named n) = ⊥

-- no more than this is left of the evaluation path
abbrev pub IsNotLonger : Option (Bor (List ℕ)) → Step → Type 0
IsNotLonger after (Answered b) = Unit {0}
IsNotLonger after (On w) = length (text_left w.evaluation) ≤ length (text_left after)
IsNotLonger after (Named n) = length (text_left n.evaluation) ≤ length (text_left after)

-- less is left of the evaluation path
abbrev pub IsShorter : List ℕ → Step → Type 0
IsShorter evaluation (Answered b) = Unit {0}
IsShorter evaluation (On w) = length (text_left w.evaluation) < length evaluation
IsShorter evaluation (Named n) = length (text_left n.evaluation) < length evaluation

-- something is left of one of the paths
pub record IsMore (instance after : Option (Bor (List ℕ))) : Type 0 where
  pub more : text_left instance ≡ [] → text_left after ≡ [] → ⊥

pub record IsDone (instance after : Option (Bor (List ℕ))) : Type 0 where
  pub no_instance : text_left instance ≡ []
  pub no_after : text_left after ≡ []

-- whether a schema is `false` where nothing is left of the instance's path
pub record Ends (d : Data) (instance : Option (Bor (List ℕ))) (b : Bool) : Type 0 where
  pub ends : b ≡ true → (d ≡ boolean false) × (text_left instance ≡ [])
  pub only : d ≡ boolean false → text_left instance ≡ [] → b ≡ true
