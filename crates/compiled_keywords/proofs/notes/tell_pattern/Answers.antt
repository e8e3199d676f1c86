use Rattle.std.proofs.Common.{◌∙◌, sym}
use Rattle.std.proofs.lemmas.Result.{on_ok_weaker}
use Rattle.compiled_keywords.proofs.TellLemmas.{tells_right, tells_wrong}
use Rattle.compiled_keywords.proofs.notes.tell_pattern.Goals as goal

pub returns-then-branch-clause-told : goal.returns-then-branch-clause-told
returns-then-branch-clause-told g c rest = tells_right c.args.situation.now _ _ _ _ c.args.observer.now (sym (c.in_ok-is_matched.ensures.read rest) ∙ c.if-branch.true)

pub returns-else-branch-clause-told : goal.returns-else-branch-clause-told
returns-else-branch-clause-told g c =
    on_ok_weaker c.tell_unmatched.result
    (λ told rest. tells_wrong c.args.situation.now _ _ _ _ c.args.observer.now c.tell_unmatched.new.observer (sym (c.in_ok-is_matched.ensures.read rest) ∙ c.if-branch.false) told)
    c.tell_unmatched.ensures
