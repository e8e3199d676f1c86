-- What a question of a keyword with subschemas asks, and where its subschema stands.
use Rattle.std.specs.Prelude.{◌≡◌, ℕ, List, Bool, true, false, Option, Some}
use Rattle.serde_json.specs.Data.{Data}
use Rattle.json_values.specs.Parts.{Part}
use Rattle.schema_meaning.specs.Members.{In}
use Rattle.schema_meaning.specs.Places.{to_name, value_after, path_after}
use Rattle.schema_meaning.specs.Questions.{Question}
use Rattle.schema_meaning.specs.Rules.{asks}
use Rattle.schema_meaning.specs.Keywords.{rule}
use Rattle.schema_definitions.specs.Sites.{Site}
use Rattle.schema_definitions.specs.AllKeys.{spots_in}
use Rattle.applicators.specs.Shapes.{shape_of, leads_of}
use Rattle.applicators.specs.Combined.{is_by_answers}
use Rattle.applicators.specs.Applied.{Applicator}

-- its site is one that the keyword leads to; it follows no reference; the places of what it asks of, and of a name, are the value's
pub record IsSound (site : List Part → Data → Site) (a : Applicator) (d : Data) (q : Question Site) : Type 0 where
  pub led : In q.site (leads_of site a)
  pub within : q.follows ≡ false
  pub spots : (path : List Part) (w : List Part × Option (List ℕ)) → In w (spots_in (path_after path q.step) (value_after d q.step)) → In w (spots_in path d)
  pub named : (k : List ℕ) → q.step ≡ to_name k → (path : List Part) → In (path, Some k) (spots_in path d)

abbrev pub QuestionsAreSound : Type 0
QuestionsAreSound = (site : List Part → Data → Site) (matches : List ℕ → List ℕ → Bool) (d : Data) (a : Applicator) → is_by_answers a ≡ true
    → (q : Question Site) → In q (asks (rule matches d (shape_of site a))) → IsSound site a d q
