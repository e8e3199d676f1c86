-- What a validator tells of a value: the cut reading of its nodes, which accepts the return where references come back to where they were.
use Rattle.std.specs.Prelude.{Bool}
use Rattle.serde_json.specs.Data.{Data}
use Rattle.schema_meaning.specs.Faults.{Faults}
use Rattle.schema_meaning.specs.Readings.{verdicts, bags}
use Rattle.compiled_keywords.specs.Shapes.{shape_of}
use Rattle.graph_answers.specs.Answers.{answer_by}
use Rattle.schema_patterns.specs.declared.matcher.PatternMatcher.{Ghosts}
use Rattle.schema_validators.specs.Seen.{nodes_in, table_in}
use Rattle.schema_validators.specs.declared.validator.Validator.{Validator}

abbrev pub verdict_by : {M : Type 0} {G : Ghosts M} → Validator M G → Data → Bool
verdict_by {G = G} v d = answer_by shape_of G.finds (nodes_in v) (table_in v) v.start d verdicts

abbrev pub faults_by : {M : Type 0} {G : Ghosts M} → Validator M G → Data → Faults
faults_by {G = G} v d = answer_by shape_of G.finds (nodes_in v) (table_in v) v.start d bags
