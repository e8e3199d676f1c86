use Rattle.std.proofs.Common.{◌≡◌, ◌∙◌, ◌++◌, ◌∷◌, ◌+◌, [], inl, take, drop, sym, ap, take-append-drop}
use Rattle.std.proofs.lemmas.List.{take_more}
use Rattle.document_retrieval.specs.Known.{want_of}
use Rattle.document_retrieval.proofs.StageLemmas.{in-front, memory-or, kept}
use Rattle.document_retrieval.proofs.round.push_round.Goals as goal

pub returns-in_err-push_answer-clause-refused : goal.returns-in_err-push_answer-clause-refused
returns-in_err-push_answer-clause-refused g c =
    let i = c.loop-want.want-index in
    let ws = c.args.wants.now in
    let w = c.want-item.result in
    let e = c.in_err-push_answer.field-0.0 in
    let begins : take i ws ++ w ∷ [] ≡ take (i + 1) ws = sym (take_more ws i w c.loop-want-test.true ∙ ap (λ x. take i ws ++ x ∷ []) (sym c.want-item.is)) in
    kept c.from_residual.result e _ c.from_residual.ensures.1
    (memory-or e (λ r. inl (want_of w, in-front want_of w ws (take i ws) (take (i + 1) ws) begins (drop (i + 1) ws) (take-append-drop (i + 1) ws), r)) c.in_err-push_answer.ensures.refused)
