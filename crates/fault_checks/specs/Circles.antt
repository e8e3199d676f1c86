-- Where a check stops because references come back: wherever nothing is wrong with the schemas, they do.
use Rattle.std.specs.Prelude.{◌≡◌, ℕ, List, Bool, true}
use Rattle.serde_json.specs.Data.{Data, string}
use Rattle.serde_json.specs.View.{view}
use Rattle.schema_meaning.specs.Members.{In}
use Rattle.schema_meaning.specs.Places.{value_after}
use Rattle.schema_meaning.specs.Questions.{names_of}
use Rattle.schema_meaning.specs.Rules.{asks}
use Rattle.schema_meaning.specs.Keywords.{rule}
use Rattle.schema_definitions.specs.Bearers.{Documents}
use Rattle.schema_definitions.specs.Lookup.{Target}
use Rattle.schema_definitions.specs.Sites.{Site, below, root_site}
use Rattle.schema_definitions.specs.Rows.{Row}
use Rattle.schema_patterns.specs.Read.{reads}
use Rattle.schema_patterns.specs.declared.matches.Matches.{Matches}
use Rattle.applicators.specs.Shapes.{shape_of}
use Rattle.applicators.specs.Combined.{is_by_answers}
use Rattle.applicators.specs.Questions.{step_of, question_of}
use Rattle.applicators.specs.Applied as applied
use Rattle.applicators.specs.declared.question.Asked.{Asked}
use Rattle.applicators.specs.declared.question.Question.{Question}
use Rattle.plain_reader.specs.Passed.{Keyword, ReferenceKeyword, row_of, site_at}
use Rattle.plain_reader.specs.Passed as code
use Rattle.fault_checks.specs.Passed.{Resolved, documents_in, target_in}
use Rattle.fault_checks.specs.Names.{bears}
use Rattle.fault_checks.specs.Rows.{applied_row, reference_row}
use Rattle.fault_checks.specs.Scenes.{Scene, IsRight, Meets, IsStraight, Stage}
use Rattle.fault_checks.specs.Steps.{names_site}
use Rattle.fault_checks.specs.declared.trial.Trial.{Trial}
use Rattle.fault_checks.specs.declared.walk.Walk.{Walk}
use Rattle.fault_checks.specs.declared.walk.AtNames.{AtNames}

-- ---- below a schema, at a value

pub record ComesBack (c : code.Site) (d : Data) : Type 0 where
  pub back : (x : Scene) (s : Site) → Meets c x s → IsStraight x s d → ⊥

-- a trial's, another value, and what is asked of
abbrev pub TrialComesBack : Trial → Type 0
TrialComesBack t = ComesBack t.site.now (view t.value.now)

abbrev pub OtherComesBack : Trial → Data → Type 0
OtherComesBack t d = ComesBack t.site.now d

abbrev pub AskedComesBack : Trial → Asked → Type 0
AskedComesBack t asked = ComesBack t.site.now (value_after (view t.value.now) (step_of asked))

-- a walk's
abbrev pub WalkComesBack : Walk → Type 0
WalkComesBack w = ComesBack w.site (view w.value.now)

-- ---- below a keyword of it, by its row

pub record ComesBackBy (c : code.Site) (d : Data) (row : Scene → Site → Row) : Type 0 where
  pub back : (x : Scene) (s : Site) (name : List ℕ) → Stage c d name (row x s) x s → ⊥

abbrev pub keyword_row : Keyword → Scene → Site → Row
keyword_row k x s = row_of x.documents s k

abbrev pub KeywordComesBack : Trial → Keyword → Type 0
KeywordComesBack t k = ComesBackBy t.site.now (view t.value.now) (keyword_row k)

abbrev pub AppliedComesBack : Trial → applied.Applicator → Type 0
AppliedComesBack t a = ComesBackBy t.site.now (view t.value.now) (applied_row a)

abbrev pub TargetComesBack : Trial → ReferenceKeyword → List ℕ → Resolved → Type 0
TargetComesBack t by text target = ComesBackBy t.site.now (view t.value.now) (reference_row by text (target_in target))

-- by the keyword of a walk; that of a member, which may refuse under the name
abbrev pub StepComesBack : Walk → Keyword → Type 0
StepComesBack w k = ComesBackBy w.site (view w.value.now) (keyword_row k)

abbrev pub MemberComesBack : Walk → Keyword → List ℕ → List ℕ → Type 0
MemberComesBack w k n member = (bears k member n ≡ true) × StepComesBack w k

-- ---- below a schema at a keyword, and below a question that an applicator asks

pub record InnerComesBack (t : Trial) (k : List ℕ) (schema : Data) : Type 0 where
  pub back : (x : Scene) (s : Site) → Meets t.site.now x s → IsRight x (site_at x.documents s k schema) → IsStraight x (site_at x.documents s k schema) (view t.value.now) → ⊥

pub record QuestionComesBack (t : Trial) (q : Question) : Type 0 where
  pub back : (a : applied.Applicator) → is_by_answers a ≡ true → (x : Scene) (s : Site) (k : List ℕ)
      → In (question_of (below x.documents s) q) (asks (rule x.matches (view t.value.now) (shape_of (below x.documents s) a)))
      → Stage t.site.now (view t.value.now) k (applied_row a x s) x s → ⊥

-- ---- below the schema of names, at one, and at some name of the object

pub record NameComesBack (n : AtNames) (k : List ℕ) : Type 0 where
  pub back : (x : Scene) (s : Site) → Meets n.walk.site x s → IsRight x (names_site x n s) → IsStraight x (names_site x n s) (string k) → ⊥

pub record SomeComesBack (n : AtNames) : Type 0 where
  pub back : (x : Scene) (s : Site) → Meets n.walk.site x s → IsRight x (names_site x n s)
      → ((k : List ℕ) → In k (names_of (view n.walk.value.now)) → IsStraight x (names_site x n s) (string k)) → ⊥

-- ---- below a root

pub record RootComesBack (t : Target) (docs : Documents) (m : Matches) (d : Data) : Type 0 where
  pub back : (makes : List ℕ → Bool)
      → let x : Scene = record { documents = docs; makes = makes; matches = reads m } in
      IsRight x (root_site t) → IsStraight x (root_site t) d → ⊥

abbrev pub ComesBackFrom : Resolved → Matches → Data → Type 0
ComesBackFrom root m d = RootComesBack (target_in root) (documents_in root.resolver) m d
