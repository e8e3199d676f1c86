use Rattle.std.proofs.Common.{◌∙◌, ap, option_map, option_and_then}
use Rattle.std.specs.BTreeMap.{get_by_text}
use Rattle.document_index.specs.Indexes.{bearer_of, named, dynamically_anchored_in}
use Rattle.document_index.proofs.NamedLemmas.{lent}
use Rattle.document_index.proofs.index.Index.dynamically_anchored.Goals as goal

pub returns-in_err-get : goal.returns-in_err-get
unfolding dynamically_anchored_in
returns-in_err-get c =
    ap (option_map (λ b. bearer_of b.now)) c.from_residual.ensures
    ∙ ap (option_and_then (λ ns. named ns c.args.name.now)) c.in_err-get.ensures.value

pub returns : goal.returns
unfolding dynamically_anchored_in
returns c =
    lent bearer_of c.get-2.result (get_by_text c.in_ok-get.field-0.now c.args.name.now) c.get-2.ensures.value
    ∙ ap (option_and_then (λ ns. named ns c.args.name.now)) c.in_ok-get.ensures.value
