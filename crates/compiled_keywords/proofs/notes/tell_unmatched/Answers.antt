use Rattle.std.proofs.Common.{refl, ap}
use Rattle.std.proofs.lemmas.Result.{on_ok_weaker}
use Rattle.serde_json.specs.View.{view}
use Rattle.schema_meaning.specs.Faults as told
use Rattle.schema_engine.proofs.HearsLemmas.{hears_after, hears_later}
use Rattle.compiled_keywords.specs.Owned.{text_of}
use Rattle.compiled_keywords.proofs.notes.tell_unmatched.Goals as goal

pub returns-then-branch : goal.returns-then-branch
returns-then-branch c =
    c.in_ok-tell_paths.ensures.told c.if-branch.true (record { kind = told.Pattern (text_of c.args.pattern.now); value = view c.args.situation.now.value.now })

pub returns : goal.returns
returns c =
    on_ok_weaker c.tell.result
    (λ tells. hears_after _ c.args.observer.now c.tell_paths.new.observer c.tell.new.observer (c.in_ok-tell_paths.ensures.untold c.if-branch.false)
    (hears_later _ c.tell_paths.new.observer c.hear.new.self c.tell.new.observer (λ k fs h. c.hear.ensures.unheard c.if-not-hear.false k fs h)
    (tells.told (told.Pattern (text_of c.args.pattern.now)) (record { kind = ap told.Pattern c.in_ok-clone.ensures.cases; proper = refl }))))
    c.tell.ensures
