use Rattle.std.proofs.Common.{◌∙◌, map, string_bytes, sym}
use Rattle.std.proofs.lemmas.Result.{on_ok_weaker}
use Rattle.serde_json.specs.Find.{get}
use Rattle.serde_json.specs.View.{view}
use Rattle.schema_meaning.specs.Keywords.{missing}
use Rattle.compiled_keywords.proofs.TellLemmas.{tells_none, tells_same, absent, present}
use Rattle.compiled_keywords.proofs.notes.tell_missing_where.Goals as goal

pub returns-then-lacks : goal.returns-then-lacks
returns-then-lacks c =
    let s = c.args.situation.now in
    let d = view s.value.now in
    tells_same s c.args.keyword.now _ _ _ _ (sym (absent (get c.args.name.now d) (λ e. missing (map string_bytes c.args.names.now) d) (sym c.lacks.ensures ∙ c.if-lacks.true))) (tells_none s c.args.keyword.now c.args.observer.now)

pub returns-else-lacks : goal.returns-else-lacks
returns-else-lacks c =
    let s = c.args.situation.now in
    let d = view s.value.now in
    on_ok_weaker c.tell_missing.result
    (λ tells. tells_same s c.args.keyword.now _ _ _ _ (present (get c.args.name.now d) (missing (map string_bytes c.args.names.now) d) (sym c.lacks.ensures ∙ c.if-lacks.false)) tells)
    c.tell_missing.ensures
