use Rattle.std.proofs.Common.{◌≡◌, ◌++◌, List}
use Rattle.serde_json.specs.Data.{Data}
use Rattle.serde_json.specs.View.{view, members_view}
use Rattle.json_values.specs.Parts.{Part}
use Rattle.schema_definitions.specs.Sites.{Site}
use Rattle.schema_meaning.specs.Questions.{listed_members, each_member}
use Rattle.schema_patterns.specs.Read.{reads}
use Rattle.applicators.specs.Shapes.{site_of, declared_by, others_among}
use Rattle.applicators.specs.Questions.{questions_of}
use Rattle.applicators.proofs.questions.push_others_of_object.Given as goal

abbrev pub invariant-loop-name : goal.invariant-loop-name
invariant-loop-name l = (site : List Part → Data → Site) →
    questions_of site l.fn.questions.items ++ each_member l.keyword (site_of site l.keyword (view l.schema)) (others_among (reads l.matches) (declared_by l.declared) (listed_members (members_view l.members.entries)))
    ≡ questions_of site l.questions.items ++ each_member l.keyword (site_of site l.keyword (view l.schema)) (others_among (reads l.matches) (declared_by l.declared) (listed_members (members_view l.name-iterator)))
