use Rattle.std.proofs.Common.{◌≡◌, ◌∙◌, sym, ap, subst, [], Ok}
use Rattle.uri_grammar.specs.Texts.{cut_at}
use Rattle.schema_definitions.specs.Words.{or, and_then}
use Rattle.schema_definitions.specs.Bearers.{Standing}
use Rattle.schema_definitions.specs.Lookup.{by_fragment}
use Rattle.document_index.specs.Seen.{standing_of}
use Rattle.document_sources.specs.Causes.{RefusesLookup}
use Rattle.referencing.specs.Found.{bearer_wanted}
use Rattle.referencing.specs.Seen.{documents_of, told_by}
use Rattle.referencing.proofs.KeptLemmas.{if-ok}
use Rattle.document_index.proofs.CauseNames.{kept}
use Rattle.referencing.proofs.RefusedLemmas.{refused-through, looked-up, if-err}
use Rattle.referencing.proofs.resolving.look_up.Goals as goal

pub returns-in_err-bearer-clause-refused : goal.returns-in_err-bearer-clause-refused
returns-in_err-bearer-clause-refused c =
    let documents = documents_of c.args.registry.now in
    let base = c.args.base.now in
    let reference = c.args.reference.now in
    let e = c.in_err-bearer.field-0.0 in
    let then = λ (s : Standing). by_fragment (told_by c.args.registry.now) documents s (or [] (cut_at 35 reference).1) in
    let refused = subst (λ t. RefusesLookup (bearer_wanted documents base t) e) c.split_fragment.ensures.before c.in_err-bearer.ensures.refused in
    kept c.from_residual.result e _ c.from_residual.ensures.1
    (subst (λ a. RefusesLookup a e) (sym (looked-up documents base reference)) (refused-through (bearer_wanted documents base (cut_at 35 reference).0) then e refused))

pub returns-clause-ok : goal.returns-clause-ok
returns-clause-ok c =
    let documents = documents_of c.args.registry.now in
    let base = c.args.base.now in
    let reference = c.args.reference.now in
    let s = standing_of c.in_ok-bearer.bearer in
    let then = λ (s : Standing). by_fragment (told_by c.args.registry.now) documents s (or [] (cut_at 35 reference).1) in
    let found = subst (λ t. bearer_wanted documents base t ≡ Ok s) c.split_fragment.ensures.before c.in_ok-bearer.ensures.ok in
    let fragment = c.fragment_or_empty.ensures ∙ ap (or []) c.split_fragment.ensures.after in
    let same = looked-up documents base reference ∙ ap (λ r. and_then r then) found ∙ ap (by_fragment (told_by c.args.registry.now) documents s) (sym fragment) in
    if-ok _ _ c.by_fragment.result (λ f e. same ∙ e) c.by_fragment.ensures.ok

pub returns-clause-refused : goal.returns-clause-refused
returns-clause-refused c =
    let documents = documents_of c.args.registry.now in
    let base = c.args.base.now in
    let reference = c.args.reference.now in
    let s = standing_of c.in_ok-bearer.bearer in
    let then = λ (s : Standing). by_fragment (told_by c.args.registry.now) documents s (or [] (cut_at 35 reference).1) in
    let found = subst (λ t. bearer_wanted documents base t ≡ Ok s) c.split_fragment.ensures.before c.in_ok-bearer.ensures.ok in
    let fragment = c.fragment_or_empty.ensures ∙ ap (or []) c.split_fragment.ensures.after in
    let same = looked-up documents base reference ∙ ap (λ r. and_then r then) found ∙ ap (by_fragment (told_by c.args.registry.now) documents s) (sym fragment) in
    if-err _ _ c.by_fragment.result (λ e r. subst (λ a. RefusesLookup a e) (sym same) r) c.by_fragment.ensures.refused
