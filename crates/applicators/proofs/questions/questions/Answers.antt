use Rattle.std.proofs.Common.{◌∙◌, ◌++◌, sym, ap, ap₂}
use Rattle.serde_json.specs.View.{view}
use Rattle.schema_patterns.specs.Read.{reads}
use Rattle.applicators.specs.Asks.{asked_by}
use Rattle.applicators.specs.Questions.{questions_of}
use Rattle.applicators.proofs.CombinedLemmas.{follows}
use Rattle.applicators.proofs.questions.questions.Goals as goal

pub returns : goal.returns
returns c = λ site.
    let a = c.args.applicator.now in
    let d = view c.args.value.now in
    let m = reads c.args.matches.now in
    c.in_ok-push_asked.ensures site ∙ ap (λ qs. questions_of site qs ++ asked_by site m c.name.result.now d c.asks.result) c.new-questions.ensures.items
    ∙ ap₂ (λ k f. asked_by site m k d f) c.name.ensures c.asks.ensures ∙ sym (follows site m d a).asked
