-- Where the verdict is yes, there are no faults.
use Rattle.std.proofs.Common.{◌≡◌, ◌∙◌, ℕ, [], length, true, Option, Some, None, option_map, refl}
use Rattle.serde_json.specs.Data.{Data}
use Rattle.schema_meaning.specs.Faults.{Faults, none, also, is_none}
use Rattle.schema_meaning.specs.Order.{same_none}
use Rattle.schema_meaning.specs.Places.{whole}
use Rattle.schema_meaning.specs.Readings.{verdicts}
use Rattle.schema_definitions.specs.Plain.{plain}
use Rattle.meaning_laws.proofs.Verdicts.{told_agrees, cut_agrees}
use Rattle.compiled_keywords.specs.Shapes.{shape_of}
use Rattle.schema_engine.specs.Graphs.{reading_of}
use Rattle.graph_answers.specs.Answers.{answer_by, keys_below}
use Rattle.graph_answers.specs.Tables.{table_reads}
use Rattle.schema_patterns.specs.declared.matcher.PatternMatcher.{Ghosts}
use Rattle.schema_registries.specs.Answers.{IsAnswer}
use Rattle.schema_registries.specs.Roots.{Root, Patterns, site_of_root}
use Rattle.schema_validators.specs.Answered.{AreFaults}
use Rattle.schema_validators.specs.Seen.{nodes_in, table_in}
use Rattle.schema_validators.specs.Told.{verdict_by, faults_by}
use Rattle.schema_validators.specs.declared.validator.Validator.{Validator}

none_there : (fs : Faults) → is_none fs ≡ true → fs ≡ none
none_there none h = refl
none_there (also f fs) h = absurd (cc h)

some_none : (o : Option Faults) → option_map is_none o ≡ Some true → o ≡ Some none
some_none None h = absurd (cc h)
some_none (Some none) h = refl
some_none (Some (also f fs)) h = absurd (cc h)

-- there are no faults just where the verdict is yes
pub agree_by : {M : Type 0} {G : Ghosts M} (v : Validator M G) (d : Data) → is_none (faults_by v d) ≡ verdict_by v d
unfolding answer_by
agree_by {G = G} v d = cut_agrees ℕ (reading_of shape_of (table_reads G.finds (table_in v)) (nodes_in v)) (keys_below (length (nodes_in v)) d) [] v.start (whole d)

pub accepts_none : {M : Type 0} {G : Ghosts M} (v : Validator M G) (d : Data) → verdict_by v d ≡ true → faults_by v d ≡ none
accepts_none v d h = none_there (faults_by v d) (agree_by v d ∙ h)

pub accepted_none : (p : Patterns) (r : Root) (d : Data) → IsAnswer verdicts p r d true → AreFaults p r d none
accepted_none p r d answer matches target found finish straight =
    let told = answer matches target found finish straight in
    record {
      faults = none;
      told = record { unfoldings = told.unfoldings; is = some_none _ (told_agrees (plain r.documents p.makes matches) told.unfoldings (site_of_root r target) (whole d) ∙ told.is) };
      same = same_none;
    }
