-- The questions that those of the code stand for.
use Rattle.std.specs.Prelude.{List, map}
use Rattle.serde_json.specs.Data.{Data}
use Rattle.serde_json.specs.View.{view}
use Rattle.json_values.specs.Parts.{Part}
use Rattle.schema_definitions.specs.Sites.{Site}
use Rattle.schema_meaning.specs.Places.{Step, stay, to_item, to_member, to_name}
use Rattle.schema_meaning.specs.Questions as told
pub use Rattle.schema_meaning.specs.Keywords.{each_dependency}
use Rattle.applicators.specs.Sites.{added_at, place_of}
use Rattle.applicators.specs.declared.question.Asked.{Asked}
use Rattle.applicators.specs.declared.question.Asked.TheVariants as asked
use Rattle.applicators.specs.declared.question.Question.{Question}

abbrev pub step_of : Asked → Step
step_of asked.Value = stay
step_of (asked.Item i e) = to_item i (view e.now)
step_of (asked.Member k e) = to_member k.now (view e.now)
step_of (asked.Name k) = to_name k.now

-- what is asked for, at the site of its subschema
abbrev pub question_of : (List Part → Data → Site) → Question → told.Question Site
question_of site q = told.question (place_of site q.subschema) (step_of q.asked) (added_at q.subschema.keyword.now q.subschema.entry)

abbrev pub questions_of : (List Part → Data → Site) → List Question → List (told.Question Site)
questions_of site qs = map (question_of site) qs
