-- What is said of a schema, of a keyword and of questions, where no references come back.
use Rattle.std.specs.Prelude.{◌≡◌, ℕ, List, map, length, Bool, true, false, Option}
use Rattle.std.specs.Borrow.{Bor}
use Rattle.serde_json.specs.Data.{Data}
use Rattle.serde_json.specs.declared.value.Value.{Value}
use Rattle.schema_meaning.specs.Members.{In, count_true}
use Rattle.schema_meaning.specs.Places.{whole, value_after}
use Rattle.schema_meaning.specs.Questions.{Question, at}
use Rattle.schema_meaning.specs.Rules.{Rule, accepts, asks, refuses_at}
use Rattle.schema_meaning.specs.Keywords.{rule}
use Rattle.schema_meaning.specs.Readings.{Reading, verdicts, IsTold}
use Rattle.schema_meaning.specs.Certificates.{AreAnswers}
use Rattle.schema_definitions.specs.Sites.{Site, below}
use Rattle.schema_definitions.specs.Rows.{Row}
use Rattle.plain_reader.specs.Passed.{shapes_of, row_of, site_at, FindsTarget}
use Rattle.plain_reader.specs.Passed as code
use Rattle.plain_reader.specs.Passed.{Keyword}
use Rattle.plain_reader.specs.Passed.{Nothing, Assertion, Pattern, If, Consequent, Applicator, Reference}
use Rattle.plain_reader.specs.Applied.{EachInside}
use Rattle.plain_reader.specs.Choices.{IsInside, AreInside}
use Rattle.applicators.specs.Shapes.{shape_of, place_of}
use Rattle.applicators.specs.Combined.{is_by_answers}
use Rattle.applicators.specs.Questions.{step_of, question_of}
use Rattle.applicators.specs.Applied as applied
use Rattle.applicators.specs.declared.question.Question as asking
use Rattle.fault_checks.specs.Rows.{applied_row}
use Rattle.fault_checks.specs.Scenes.{Scene, reading_of, IsRight, Meets, IsStraight, Stage}

abbrev pub IsDecided : Bool → Type 0 → Type 0
IsDecided true P = P
IsDecided false P = P → ⊥

-- the schema's verdict
pub record IsVerdict (c : code.Site) (d : Data) (b : Bool) : Type 0 where
  pub told : (x : Scene) (s : Site) → Meets c x s → IsStraight x s d → IsTold verdicts (reading_of x) s (whole d) b

-- one of these rules refuses
abbrev pub SomeRefuses : Reading Site → Data → List (Rule Site) → Type 0
SomeRefuses r d ks = (k : Rule Site) × (bs : List Bool) × In k ks × AreAnswers r (whole d) k bs × (accepts k bs ≡ false)

-- one of these questions is refused; all are accepted
abbrev pub SomeRefused : Reading Site → Data → List (Question Site) → Type 0
SomeRefused r d qs = (q : Question Site) × In q qs × IsTold verdicts r q.site (whole (value_after d q.step)) false

abbrev pub AllAccepted : Reading Site → Data → List (Question Site) → Type 0
AllAccepted r d qs = (q : Question Site) → In q qs → IsTold verdicts r q.site (whole (value_after d q.step)) true

abbrev pub Answers : Bool → Reading Site → Data → List (Question Site) → Type 0
Answers true r d qs = SomeRefused r d qs
Answers false r d qs = AllAccepted r d qs

-- whether questions are refused that a keyword asks
pub record AreRefused (c : code.Site) (d : Data) (row : Scene → Site → Row) (questions : Scene → Site → List (Question Site)) (b : Bool) : Type 0 where
  pub answers : (x : Scene) (s : Site) (name : List ℕ) → Stage c d name (row x s) x s → Answers b (reading_of x) d (questions x s)

-- the rules of a keyword at a value
abbrev pub rules_by : Scene → Site → Data → Keyword → List (Rule Site)
rules_by x s d k = map (rule x.matches d) (shapes_of x.documents s k)

-- one of these rules refuses under a name
abbrev pub SomeRefusesAt : List ℕ → Reading Site → Data → List (Rule Site) → Type 0
SomeRefusesAt n r d ks = (k : Rule Site) × (bs : List Bool) × In k ks × AreAnswers r (whole d) k bs × (accepts k bs ≡ false) × (refuses_at k bs ≡ at n)

-- whether the keyword refuses
pub record IsRefusal (c : code.Site) (d : Data) (k : Keyword) (b : Bool) : Type 0 where
  pub decides : (x : Scene) (s : Site) (name : List ℕ) → Stage c d name (row_of x.documents s k) x s → IsDecided b (SomeRefuses (reading_of x) d (rules_by x s d k))

-- whether it refuses under a name
pub record IsRefusalAt (c : code.Site) (d : Data) (k : Keyword) (name : List ℕ) (b : Bool) : Type 0 where
  pub decides : (x : Scene) (s : Site) → Stage c d name (row_of x.documents s k) x s → IsDecided b (SomeRefusesAt name (reading_of x) d (rules_by x s d k))

-- what the verdict of `if` chooses of two
abbrev pub chosen_of : {A : Type 0} → Bool → A → A → A
chosen_of true then_one else_one = then_one
chosen_of false then_one else_one = else_one

-- the verdict of a schema at a keyword of the one at a site
pub record IsInnerVerdict (c : code.Site) (d : Data) (k : List ℕ) (schema : Data) (b : Bool) : Type 0 where
  pub told : (x : Scene) (s : Site) → Meets c x s → IsRight x (site_at x.documents s k schema) → IsStraight x (site_at x.documents s k schema) d
      → IsTold verdicts (reading_of x) (site_at x.documents s k schema) (whole d) b

-- the schemas of `if`, and of `then` and `else` beside, lie in the schema
pub record ChoosesIn (c : code.Site) (schema : Bor Value) (then_schema else_schema : Option (Bor Value)) : Type 0 where
  pub inside : IsInside c schema
  pub beside : AreInside c then_schema else_schema

-- its verdict is by the number of answers that are yes, and the schemas that it asks lie in the schema
pub record AppliesIn (c : code.Site) (a : applied.Applicator) : Type 0 where
  pub by_answers : is_by_answers a ≡ true
  pub inside : EachInside c a

-- the keyword's schemas lie in the schema, and its target is found
abbrev pub LiesIn : code.Site → Keyword → Type 0
LiesIn c Nothing = Unit {0}
LiesIn c (Assertion a) = Unit {0}
LiesIn c (Pattern p) = Unit {0}
LiesIn c (If schema then_schema else_schema) = ChoosesIn c schema then_schema else_schema
LiesIn c (Consequent k schema) = Unit {0}
LiesIn c (Applicator a) = AppliesIn c a
LiesIn c (Reference keyword text target) = FindsTarget c keyword text.now target

-- the answer to a question, where an applicator asks it
pub record IsAnswered (c : code.Site) (d : Data) (q : asking.Question) (b : Bool) : Type 0 where
  pub told : (a : applied.Applicator) → is_by_answers a ≡ true → (x : Scene) (s : Site) (k : List ℕ)
      → In (question_of (below x.documents s) q) (asks (rule x.matches d (shape_of (below x.documents s) a))) → Stage c d k (applied_row a x s) x s
      → IsTold verdicts (reading_of x) (place_of (below x.documents s) q.subschema) (whole (value_after d (step_of q.asked))) b

-- an applicator's questions have answers, so many, and so many of them are yes
pub record AreCounted (c : code.Site) (d : Data) (a : applied.Applicator) (asked accepted : ℕ) : Type 0 where
  pub answers : (x : Scene) (s : Site) (k : List ℕ) → Stage c d k (applied_row a x s) x s
      → (bs : List Bool) × AreAnswers (reading_of x) (whole d) (rule x.matches d (shape_of (below x.documents s) a)) bs × (length bs ≡ asked) × (count_true bs ≡ accepted)
