-- Where references come back below a schema that the code reads.
use Rattle.std.specs.Prelude.{ℕ, List, Option, Some, None}
use Rattle.std.specs.Borrow.{Bor}
use Rattle.serde_json.specs.Data.{Data, Members, string}
use Rattle.serde_json.specs.View.{view}
use Rattle.serde_json.specs.declared.value.Value.{Value}
use Rattle.schema_meaning.specs.Places.{value_after, path_after, called_after}
use Rattle.schema_meaning.specs.Questions as told
use Rattle.schema_meaning.specs.Keywords.{Shape}
use Rattle.schema_definitions.specs.Sites.{Site}
use Rattle.applicators.specs.Questions.{step_of}
use Rattle.applicators.specs.Applied.{Applicator}
use Rattle.applicators.specs.declared.question.Asked.{Asked}
use Rattle.applicators.specs.declared.question.Question.{Question}
use Rattle.schema_sites.specs.Passed.{Resolved, target_in}
use Rattle.schema_sites.specs.References.{name_of}
use Rattle.schema_sites.specs.declared.keyword.Keyword.{Keyword}
use Rattle.schema_sites.specs.declared.reference_keyword.ReferenceKeyword.{ReferenceKeyword}
use Rattle.plain_reader.specs.declared.standing.Reading.{Reading}
use Rattle.plain_reader.specs.Keys.{keys_in}
use Rattle.plain_reader.specs.Settings.{Setting}
use Rattle.plain_reader.specs.Readings.{path_in}
use Rattle.plain_reader.specs.Returns.{Returns, ReturnsCalled, ShapesReturn, AskedReturn}
use Rattle.plain_reader.specs.Choices.{beside_questions, choice_shapes}
use Rattle.plain_reader.specs.Shapes.{shapes_among, shapes_at, keyword_shapes}
use Rattle.plain_reader.specs.Applied.{applied_questions, one_question}
use Rattle.plain_reader.specs.Targets.{reference_questions}

abbrev pub ShapesReturnIn : Reading → (Setting → List (Shape Site)) → Type 0
ShapesReturnIn r shapes = ShapesReturn r.site.now (view r.value.now) (path_in r) (keys_in r.progress.now) shapes

abbrev pub AskedReturnIn : Reading → (Setting → List (told.Question Site)) → Type 0
AskedReturnIn r questions = AskedReturn r.site.now (view r.value.now) (path_in r) (keys_in r.progress.now) questions

-- ---- below the schema, its members, and one of them

abbrev pub SchemaReturns : Reading → Type 0
SchemaReturns r = Returns r.site.now (view r.value.now) (path_in r) (keys_in r.progress.now)

abbrev pub MembersReturn : Reading → Members → Type 0
MembersReturn r ms = ShapesReturnIn r (shapes_among ms ms)

abbrev pub MemberReturns : Reading → Members → List ℕ → Data → Type 0
MemberReturns r ms k d = ShapesReturnIn r (shapes_at ms k d)

-- ---- below keywords

abbrev pub KeywordReturns : Reading → Keyword → Type 0
KeywordReturns r k = ShapesReturnIn r (keyword_shapes k)

abbrev pub ConditionReturns : Reading → Bor Value → Option (Bor Value) → Option (Bor Value) → Type 0
ConditionReturns r condition then_schema else_schema = ShapesReturnIn r (choice_shapes condition then_schema else_schema)

abbrev pub BesideReturns : Reading → List ℕ → Option (Bor Value) → Type 0
BesideReturns r k schema = AskedReturnIn r (beside_questions k schema)

abbrev pub ApplicatorReturns : Reading → Applicator → Type 0
ApplicatorReturns r a = AskedReturnIn r (applied_questions a (view r.value.now))

abbrev pub TargetReturns : Reading → ReferenceKeyword → List ℕ → Resolved → Type 0
TargetReturns r by text t = AskedReturnIn r (reference_questions (name_of by) text (target_in t))

-- ---- below a question, the schema at what it asks of, and the schema at a name

abbrev pub QuestionReturns : Reading → Question → Type 0
QuestionReturns r q = AskedReturnIn r (one_question q)

abbrev pub PartReturns : Reading → Asked → Type 0
PartReturns r asked =
    let step = step_of asked in
    ReturnsCalled r.site.now (value_after (view r.value.now) step) (path_after (path_in r) step) (keys_in r.progress.now) (called_after None step)

abbrev pub NameReturns : Reading → List ℕ → Type 0
NameReturns r k = ReturnsCalled r.site.now (string k) (path_in r) (keys_in r.progress.now) (Some k)
