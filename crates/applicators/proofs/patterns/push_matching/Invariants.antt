use Rattle.std.proofs.Common.{◌≡◌, ◌++◌, List}
use Rattle.serde_json.specs.Data.{Data}
use Rattle.serde_json.specs.View.{view, members_view}
use Rattle.json_values.specs.Parts.{Part}
use Rattle.schema_definitions.specs.Sites.{Site}
use Rattle.schema_meaning.specs.Questions.{at_name, listed_members}
use Rattle.applicators.specs.Questions.{questions_of}
use Rattle.schema_patterns.specs.Read.{reads}
use Rattle.applicators.specs.Matching.{matching_members}
use Rattle.applicators.proofs.patterns.push_matching.Given as goal

abbrev pub invariant-loop-name : goal.invariant-loop-name
invariant-loop-name l = (site : List Part → Data → Site) →
    questions_of site l.fn.questions.items ++ matching_members (reads l.matches) l.keyword (site (at_name l.keyword l.pattern) (view l.schema)) l.pattern (listed_members (members_view l.members.entries))
    ≡ questions_of site l.questions.items ++ matching_members (reads l.matches) l.keyword (site (at_name l.keyword l.pattern) (view l.schema)) l.pattern (listed_members (members_view l.name-iterator))
