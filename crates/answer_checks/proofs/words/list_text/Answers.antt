use Rattle.std.proofs.Common.{◌∙◌, ap}
use Rattle.std.proofs.lemmas.Result.{IfOk-weaker}
use Rattle.serde_json.specs.Written.{compact_text, has_float}
use Rattle.answer_checks.specs.Words.{word_of}
use Rattle.answer_checks.proofs.Lists.{words_no_float}
use Rattle.answer_checks.proofs.words.list_text.Goals as goal

pub returns : goal.returns
returns c =
    let list = c.in_ok-words_value.ensures in
    IfOk-weaker c.to_string.result _ _ (λ s h. h (ap has_float list ∙ words_no_float word_of c.args.answers.now) ∙ ap compact_text list) c.to_string.ensures.text
