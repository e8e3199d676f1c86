-- What the code answers of a value where a reading stands, and what it is asked there.
use Rattle.std.specs.Prelude.{ℕ, List, Option, Some, None, Bool}
use Rattle.std.specs.Borrow.{Bor}
use Rattle.serde_json.specs.Data.{Data, Members, string}
use Rattle.serde_json.specs.View.{view}
use Rattle.serde_json.specs.declared.value.Value.{Value}
use Rattle.json_values.specs.Parts.{Part}
use Rattle.schema_meaning.specs.Members.{In}
use Rattle.schema_meaning.specs.Places.{value_after, path_after, called_after}
use Rattle.schema_meaning.specs.Questions as told
use Rattle.schema_meaning.specs.Keywords.{Shape}
use Rattle.schema_definitions.specs.Sites.{Site}
use Rattle.schema_patterns.specs.Read.{reads}
use Rattle.applicators.specs.Questions.{step_of}
use Rattle.applicators.specs.Applied.{Applicator}
use Rattle.applicators.specs.declared.question.Asked.{Asked}
use Rattle.applicators.specs.declared.question.Question.{Question}
use Rattle.schema_sites.specs.Passed.{Resolved, target_in}
use Rattle.schema_sites.specs.References.{name_of}
use Rattle.schema_sites.specs.declared.keyword.Keyword.{Keyword}
use Rattle.schema_sites.specs.declared.reference_keyword.ReferenceKeyword.{ReferenceKeyword}
use Rattle.location_texts.specs.Locations.{location_of}
use Rattle.plain_reader.specs.declared.standing.Reading.{Reading}
use Rattle.plain_reader.specs.Spots.{spots_of}
use Rattle.plain_reader.specs.Keys.{keys_in}
use Rattle.plain_reader.specs.Settings.{Setting}
use Rattle.plain_reader.specs.Verdicts.{Accepts, AcceptsCalled, ShapesAccept, AreYes}
use Rattle.plain_reader.specs.Choices.{beside_leads, beside_questions, choice_leads, choice_shapes}
use Rattle.plain_reader.specs.Shapes.{no_leads, shapes_among, shapes_at, keyword_leads, keyword_shapes}
use Rattle.plain_reader.specs.Applied.{AreAsked, applied_leads, applied_shapes, applied_questions, question_leads, one_question}
use Rattle.plain_reader.specs.Combined.{Counts}
use Rattle.plain_reader.specs.Targets.{reference_leads, reference_questions}

-- where the value is
abbrev pub path_in : Reading → List Part
path_in r = location_of r.at.now

-- ---- what keywords and questions come to there

abbrev pub ShapesAcceptIn : Reading → (Setting → List Site) → (Setting → List (Shape Site)) → Bool → Type 0
ShapesAcceptIn r leads shapes b = ShapesAccept r.site.now (spots_of r.whole) (view r.value.now) (path_in r) (keys_in r.progress.now) leads shapes b

abbrev pub AreYesIn : Reading → (Setting → List Site) → (Setting → List (told.Question Site)) → Bool → Type 0
AreYesIn r leads questions b = AreYes r.site.now (spots_of r.whole) (view r.value.now) (path_in r) (keys_in r.progress.now) leads questions b

-- ---- whether the schema accepts, its members, and one of them

abbrev pub SchemaAccepts : Reading → Bool → Type 0
SchemaAccepts r b = Accepts r.site.now (spots_of r.whole) (view r.value.now) (path_in r) (keys_in r.progress.now) b

abbrev pub MembersAccept : Reading → Members → Bool → Type 0
MembersAccept r ms b = ShapesAcceptIn r no_leads (shapes_among ms ms) b

abbrev pub MemberAccepts : Reading → Members → List ℕ → Data → Bool → Type 0
MemberAccepts r ms k d b = ShapesAcceptIn r no_leads (shapes_at ms k d) b

-- ---- whether keywords accept

abbrev pub KeywordAccepts : Reading → Keyword → Bool → Type 0
KeywordAccepts r k b = ShapesAcceptIn r (keyword_leads k) (keyword_shapes k) b

abbrev pub ConditionAccepts : Reading → Bor Value → Option (Bor Value) → Option (Bor Value) → Bool → Type 0
ConditionAccepts r condition then_schema else_schema b = ShapesAcceptIn r (choice_leads condition then_schema else_schema) (choice_shapes condition then_schema else_schema) b

abbrev pub BesideAccepts : Reading → List ℕ → Option (Bor Value) → Bool → Type 0
BesideAccepts r k schema b = AreYesIn r (beside_leads k schema) (beside_questions k schema) b

abbrev pub ApplicatorAccepts : Reading → Applicator → Bool → Type 0
ApplicatorAccepts r a b = ShapesAcceptIn r (applied_leads a) (applied_shapes a) b

abbrev pub TargetAccepts : Reading → ReferenceKeyword → List ℕ → Resolved → Bool → Type 0
TargetAccepts r by text t b = AreYesIn r (reference_leads text (target_in t)) (reference_questions (name_of by) text (target_in t)) b

-- ---- the questions of an applicator, whether all are answered by yes, and how many

abbrev pub AreItsQuestions : Reading → Applicator → List Question → Type 0
AreItsQuestions r a qs = AreAsked (reads r.site.now.matches.now) a (view r.value.now) qs

abbrev pub EachAccepts : Reading → Applicator → Bool → Type 0
EachAccepts r a b = AreYesIn r (applied_leads a) (applied_questions a (view r.value.now)) b

abbrev pub CountsAccepted : Reading → Applicator → ℕ → ℕ → Type 0
CountsAccepted r a asked n = Counts r.site.now (spots_of r.whole) (view r.value.now) (path_in r) (keys_in r.progress.now) a asked n

-- ---- the answer to a question, and whether the schema accepts what is asked of

abbrev pub QuestionAccepts : Reading → Question → Bool → Type 0
QuestionAccepts r q b = AreYesIn r (question_leads q) (one_question q) b

abbrev pub PartAccepts : Reading → Asked → Bool → Type 0
PartAccepts r asked b =
    let step = step_of asked in
    AcceptsCalled r.site.now (spots_of r.whole) (value_after (view r.value.now) step) (path_after (path_in r) step) (keys_in r.progress.now) (called_after None step) b

-- ---- a name of the object, and whether the schema accepts it

abbrev pub HasPlaceOf : Reading → List ℕ → Type 0
HasPlaceOf r k = ∥ In (path_in r, Some k) (spots_of r.whole) ∥₁

abbrev pub NameAccepts : Reading → List ℕ → Bool → Type 0
NameAccepts r k b = AcceptsCalled r.site.now (spots_of r.whole) (string k) (path_in r) (keys_in r.progress.now) (Some k) b
