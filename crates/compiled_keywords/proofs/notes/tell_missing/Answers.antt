use Rattle.std.proofs.Common.{◌∙◌, map, string_bytes, sym}
use Rattle.std.proofs.lemmas.Result.{on_ok_weaker}
use Rattle.serde_json.specs.View.{view}
use Rattle.compiled_keywords.proofs.TellLemmas.{tells_none, tells_same, missing_some, missing_none}
use Rattle.compiled_keywords.proofs.notes.tell_missing.Goals as goal

pub returns-then-is_object : goal.returns-then-is_object
returns-then-is_object c =
    let s = c.args.situation.now in
    on_ok_weaker c.tell_each_lacking.result
    (λ tells. tells_same s c.args.keyword.now _ _ _ _ (missing_some (view s.value.now) (map string_bytes c.args.names.now) (sym c.is_object.ensures ∙ c.if-is_object.true)) tells)
    c.tell_each_lacking.ensures

pub returns-else-is_object : goal.returns-else-is_object
returns-else-is_object c =
    let s = c.args.situation.now in
    tells_same s c.args.keyword.now _ _ _ _ (sym (missing_none (view s.value.now) (map string_bytes c.args.names.now) (sym c.is_object.ensures ∙ c.if-is_object.false))) (tells_none s c.args.keyword.now c.args.observer.now)
