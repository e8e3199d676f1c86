-- The question that a reference asks.
use Rattle.std.specs.Prelude.{ℕ, List, [], ◌∷◌, true}
use Rattle.schema_meaning.specs.Places.{stay}
use Rattle.schema_meaning.specs.Questions.{Question, at}
use Rattle.schema_definitions.specs.Lookup.{Target}
use Rattle.schema_definitions.specs.Sites.{Site, target_site}
use Rattle.plain_reader.specs.Settings.{Setting}

abbrev pub reference_leads : List ℕ → Target → Setting → List Site
reference_leads text t x = target_site x.site text t ∷ []

-- under its keyword's name
abbrev pub reference_questions : List ℕ → List ℕ → Target → Setting → List (Question Site)
reference_questions k text t x = record { site = target_site x.site text t; step = stay; added = at k; follows = true } ∷ []
