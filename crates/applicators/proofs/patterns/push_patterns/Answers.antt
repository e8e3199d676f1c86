use Rattle.std.proofs.Common.{◌++◌, ◌∙◌, sym, ap, append-nil}
use Rattle.serde_json.specs.View.{view, members_view}
use Rattle.applicators.specs.Shapes.{sites_of_map}
use Rattle.applicators.specs.Questions.{questions_of}
use Rattle.schema_patterns.specs.Read.{reads}
use Rattle.applicators.specs.Matching.{by_patterns}
use Rattle.applicators.proofs.MatchingLemmas.{none_matching, members_none}
use Rattle.applicators.proofs.patterns.push_patterns.Goals as goal

pub returns-in-None : goal.returns-in-None
returns-in-None c = λ site.
    let ps = sites_of_map site c.args.keyword.now (members_view c.args.schemas.now.entries) in
    sym (append-nil (questions_of site c.args.questions.now.items))
    ∙ ap (λ qs. questions_of site c.args.questions.now.items ++ qs) (sym (ap (λ ms. by_patterns (reads c.args.matches.now) c.args.keyword.now ms ps) (members_none (view c.args.value.now) c.in-None.ensures) ∙ none_matching (reads c.args.matches.now) c.args.keyword.now ps))
