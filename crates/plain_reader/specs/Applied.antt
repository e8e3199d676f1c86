-- What keywords with subschemas ask, and where.
use Rattle.std.specs.Prelude.{◌≡◌, ◌<◌, ℕ, List, [], ◌∷◌, Bool, Option, Some}
use Rattle.serde_json.specs.Data.{Data, depth}
use Rattle.serde_json.specs.View.{view}
use Rattle.json_values.specs.Parts.{Part}
use Rattle.schema_meaning.specs.Members.{In}
use Rattle.schema_meaning.specs.Places.{to_name, value_after, path_after}
use Rattle.schema_meaning.specs.Questions as told
use Rattle.schema_meaning.specs.Rules.{asks}
use Rattle.schema_meaning.specs.Keywords.{Shape, rule}
use Rattle.schema_definitions.specs.Sites.{Site, below}
use Rattle.schema_definitions.specs.AllKeys.{spots_in}
use Rattle.applicators.specs.Shapes.{shape_of, leads_of, place_of}
use Rattle.applicators.specs.Questions.{step_of, question_of, questions_of}
use Rattle.applicators.specs.Applied.{Applicator}
use Rattle.applicators.specs.declared.question.Asked.{Asked}
use Rattle.applicators.specs.declared.question.Question.{Question}
use Rattle.schema_sites.specs.Passed.{scope_of}
use Rattle.schema_sites.specs.Seen.{documents_at, Stands}
use Rattle.schema_sites.specs.declared.keyword.Keyword.{Keyword}
use Rattle.schema_sites.specs.declared.keyword.Keyword.TheVariants as keyword
use Rattle.schema_sites.specs.declared.site.Site as code
use Rattle.plain_reader.specs.Settings.{Setting}
use Rattle.plain_reader.specs.Choices.{AreInside}

abbrev pub applied_leads : Applicator → Setting → List Site
applied_leads a x = leads_of (below x.documents x.site) a

abbrev pub applied_shapes : Applicator → Setting → List (Shape Site)
applied_shapes a x = shape_of (below x.documents x.site) a ∷ []

abbrev pub applied_questions : Applicator → Data → Setting → List (told.Question Site)
applied_questions a d x = asks (rule x.matches d (shape_of (below x.documents x.site) a))

-- the code's questions are those that an applicator asks of a value by these matches
abbrev pub AreAsked : (List ℕ → List ℕ → Bool) → Applicator → Data → List Question → Type 0
AreAsked matches a d qs = (site : List Part → Data → Site) → questions_of site qs ≡ asks (rule matches d (shape_of site a))

-- of one of these questions
abbrev pub question_leads : Question → Setting → List Site
question_leads q x = place_of (below x.documents x.site) q.subschema ∷ []

abbrev pub one_question : Question → Setting → List (told.Question Site)
one_question q x = question_of (below x.documents x.site) q ∷ []

-- each schema that an applicator asks is less deep than the one at the site
pub record EachInside (c : code.Site) (a : Applicator) : Type 0 where
  pub each : (s : Site) → Stands c s → s.scope ≡ scope_of c.resolver → (matches : List ℕ → List ℕ → Bool) (d : Data) (q : told.Question Site)
      → In q (asks (rule matches d (shape_of (below (documents_at c) s) a))) → depth q.site.contents < depth (view c.contents.now)

abbrev pub AsksInside : code.Site → Keyword → Type 0
AsksInside c keyword.Nothing = Unit {0}
AsksInside c (keyword.Assertion a) = Unit {0}
AsksInside c (keyword.Pattern p) = Unit {0}
AsksInside c (keyword.If schema then_schema else_schema) = AreInside c then_schema else_schema
AsksInside c (keyword.Consequent k schema) = Unit {0}
AsksInside c (keyword.Applicator a) = EachInside c a
AsksInside c (keyword.Reference by text target) = Unit {0}

-- the places of what is asked of, and of a name, are the value's
pub record IsPart (d : Data) (a : Asked) : Type 0 where
  pub spots : (path : List Part) (w : List Part × Option (List ℕ)) → In w (spots_in (path_after path (step_of a)) (value_after d (step_of a))) → In w (spots_in path d)
  pub named : (k : List ℕ) → step_of a ≡ to_name k → (path : List Part) → In (path, Some k) (spots_in path d)
