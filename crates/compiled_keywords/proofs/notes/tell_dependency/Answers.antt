use Rattle.std.proofs.Common.{◌∙◌, sym, ap, string_bytes}
use Rattle.serde_json.specs.Find.{get}
use Rattle.serde_json.specs.View.{view}
use Rattle.schema_meaning.specs.Keywords.{needed}
use Rattle.schema_meaning.specs.Questions.{if_member}
use Rattle.compiled_keywords.specs.Owned.{dependency_of}
use Rattle.compiled_keywords.proofs.TellLemmas.{tells_none, tells_same, never_needed}
use Rattle.compiled_keywords.proofs.notes.tell_dependency.Goals as goal

pub returns-in-Applies : goal.returns-in-Applies
returns-in-Applies c =
    let s = c.args.situation.now in
    let d = view s.value.now in
    let there = get (string_bytes c.args.entry.now.name) d in
    tells_same s c.args.keyword.now _ _ _ _ (sym (ap (λ n. if_member there (λ e. needed d (dependency_of n))) c.in-Applies.is ∙ never_needed there d c.in-Applies.field-0)) (tells_none s c.args.keyword.now c.args.observer.now)
