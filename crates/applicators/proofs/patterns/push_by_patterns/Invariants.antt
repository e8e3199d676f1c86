use Rattle.std.proofs.Common.{◌≡◌, ◌++◌, List}
use Rattle.serde_json.specs.Data.{Data}
use Rattle.serde_json.specs.View.{members_view}
use Rattle.json_values.specs.Parts.{Part}
use Rattle.schema_definitions.specs.Sites.{Site}
use Rattle.schema_meaning.specs.Questions.{listed_members}
use Rattle.applicators.specs.Shapes.{sites_of_map}
use Rattle.applicators.specs.Questions.{questions_of}
use Rattle.schema_patterns.specs.Read.{reads}
use Rattle.applicators.specs.Matching.{by_patterns}
use Rattle.applicators.proofs.patterns.push_by_patterns.Given as goal

abbrev pub invariant-loop-pattern : goal.invariant-loop-pattern
invariant-loop-pattern l = (site : List Part → Data → Site) →
    questions_of site l.fn.questions.items ++ by_patterns (reads l.matches) l.keyword (listed_members (members_view l.value.entries)) (sites_of_map site l.keyword (members_view l.schemas.entries))
    ≡ questions_of site l.questions.items ++ by_patterns (reads l.matches) l.keyword (listed_members (members_view l.value.entries)) (sites_of_map site l.keyword (members_view l.pattern-iterator))
