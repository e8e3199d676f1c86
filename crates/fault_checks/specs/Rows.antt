-- The rows and the questions of keywords that ask.
use Rattle.std.specs.Prelude.{ℕ, List, [], ◌∷◌, true}
use Rattle.serde_json.specs.Data.{Data}
use Rattle.schema_meaning.specs.Places.{stay}
use Rattle.schema_meaning.specs.Questions.{Question, at}
use Rattle.schema_meaning.specs.Rules.{asks}
use Rattle.schema_meaning.specs.Keywords.{reference, rule}
use Rattle.applicators.specs.Shapes.{shape_of, leads_of}
use Rattle.applicators.specs.Applied.{Applicator}
use Rattle.schema_definitions.specs.Lookup.{Target}
use Rattle.schema_definitions.specs.Sites.{Site, below, target_site}
use Rattle.schema_definitions.specs.Rows.{Row, reads}
use Rattle.plain_reader.specs.Passed.{kind_of, name_of}
use Rattle.plain_reader.specs.Passed.{ReferenceKeyword}
use Rattle.fault_checks.specs.Scenes.{Scene}

abbrev pub reference_row : ReferenceKeyword → List ℕ → Target → Scene → Site → Row
reference_row w text t x s = reads (target_site s text t ∷ []) (reference (kind_of w) (target_site s text t) ∷ [])

abbrev pub reference_questions : ReferenceKeyword → List ℕ → Target → Scene → Site → List (Question Site)
reference_questions w text t x s = record { site = target_site s text t; step = stay; added = at (name_of w); follows = true } ∷ []

abbrev pub applied_row : Applicator → Scene → Site → Row
applied_row a x s = reads (leads_of (below x.documents s) a) (shape_of (below x.documents s) a ∷ [])

abbrev pub applied_questions : Applicator → Data → Scene → Site → List (Question Site)
applied_questions a d x s = asks (rule x.matches d (shape_of (below x.documents s) a))
