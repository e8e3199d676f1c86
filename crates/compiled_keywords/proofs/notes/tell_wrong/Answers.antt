use Rattle.std.proofs.lemmas.Result.{on_ok_weaker}
use Rattle.serde_json.specs.View.{view}
use Rattle.assertions.specs.Wrong.{kind_of, note_of}
use Rattle.schema_engine.proofs.HearsLemmas.{hears_after, hears_later}
use Rattle.compiled_keywords.proofs.notes.tell_wrong.Goals as goal

pub returns-then-branch : goal.returns-then-branch
returns-then-branch c = c.in_ok-tell_paths.ensures.told c.if-branch.true (note_of (view c.args.situation.now.value.now) c.args.wrong)

pub returns : goal.returns
returns c =
    on_ok_weaker c.tell.result
    (λ tells. hears_after _ c.args.observer.now c.tell_paths.new.observer c.tell.new.observer (c.in_ok-tell_paths.ensures.untold c.if-branch.false)
    (hears_later _ c.tell_paths.new.observer c.hear.new.self c.tell.new.observer (λ k fs h. c.hear.ensures.unheard c.if-not-hear.false k fs h)
    (tells.told (kind_of c.args.wrong) c.in_ok-kind.ensures)))
    c.tell.ensures
