use Rattle.std.proofs.Common.{◌≡◌, ◌∙◌, ◌≤◌, sym, subst, length, get_or}
use Rattle.document_index.specs.Seen.{standing_of}
use Rattle.document_sources.specs.Causes.{RefusesLookup}
use Rattle.referencing.specs.Seen.{documents_of, told_by}
use Rattle.referencing.proofs.KeptLemmas.{if-ok}
use Rattle.referencing.proofs.RefusedLemmas.{by-name, if-err}
use Rattle.referencing.proofs.resolving.by_fragment.Goals as goal

pub returns-clause-ok : goal.returns-clause-ok
returns-clause-ok c =
    let registry = c.args.registry.now in
    let docs = documents_of registry in
    let s = standing_of c.args.standing in
    let f = c.args.fragment.now in
    let some : 1 ≤ length f = subst (λ bs. 1 ≤ length bs) c.as_bytes.ensures.value c.in-len1-up.len_at_least in
    let other = subst (λ bs. get_or bs 0 0 ≡ 47 → ⊥) c.as_bytes.ensures.value c.if-first-eq47.false in
    if-ok _ _ c.by_anchor.result (λ x e. sym (by-name (told_by registry) docs s f some other) ∙ e) c.by_anchor.ensures.ok

pub returns-clause-refused : goal.returns-clause-refused
returns-clause-refused c =
    let registry = c.args.registry.now in
    let docs = documents_of registry in
    let s = standing_of c.args.standing in
    let f = c.args.fragment.now in
    let some : 1 ≤ length f = subst (λ bs. 1 ≤ length bs) c.as_bytes.ensures.value c.in-len1-up.len_at_least in
    let other = subst (λ bs. get_or bs 0 0 ≡ 47 → ⊥) c.as_bytes.ensures.value c.if-first-eq47.false in
    if-err _ _ c.by_anchor.result (λ e r. subst (λ a. RefusesLookup a e) (by-name (told_by registry) docs s f some other) r) c.by_anchor.ensures.refused
