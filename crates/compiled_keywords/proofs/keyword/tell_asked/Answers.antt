use Rattle.std.proofs.Common.{sym}
use Rattle.serde_json.specs.View.{view}
use Rattle.compiled_keywords.proofs.RuleLemmas.{nothing_noted}
use Rattle.compiled_keywords.proofs.TellLemmas.{tells_none, tells_same}
use Rattle.compiled_keywords.proofs.keyword.tell_asked.Goals as goal

pub returns-in_default : goal.returns-in_default
returns-in_default c =
    let s = c.args.situation.now in
    tells_same s c.args.keyword.now _ _ _ _ (sym (nothing_noted c.args.asks.now (view s.value.now) c.in_default.not-Dependencies)) (tells_none s c.args.keyword.now c.args.observer.now)
