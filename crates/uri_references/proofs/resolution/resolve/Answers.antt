use Rattle.std.proofs.Common.{◌≡◌, ◌∙◌, subst, IfOk, true, false, string_bytes, option_map}
use Rattle.uri_grammar.specs.Parts.{recompose}
use Rattle.uri_grammar.specs.Lent.{parts_of}
use Rattle.uri_references.proofs.Resolved.{some_kept, by_scheme, by_authority, by_path}
use Rattle.uri_references.proofs.resolution.resolve.Goals as goal

pub returns-then-is_some : goal.returns-then-is_some
returns-then-is_some c =
    let base = parts_of c.args.base.now in
    let r = parts_of c.args.reference.now in
    let s = some_kept c.args.reference.now.scheme true c.if-is_some.ensures in
    subst (λ x. IfOk c.write_guarded.result (λ u. string_bytes u ≡ recompose x)) (by_scheme base r c.as_str.result.now s (c.as_str.ensures.value ∙ c.in_ok-path.ensures)) c.write_guarded.ensures

pub returns-then-is_some-2 : goal.returns-then-is_some-2
returns-then-is_some-2 c =
    let base = parts_of c.args.base.now in
    let r = parts_of c.args.reference.now in
    let s = some_kept c.args.reference.now.scheme false c.if-is_some.ensures in
    let a = some_kept c.args.reference.now.authority true c.if-is_some-2.ensures in
    subst (λ x. IfOk c.write_guarded-then-is_some-2.result (λ u. string_bytes u ≡ recompose x)) (by_authority base r c.as_str-then-is_some-2.result.now s a (c.as_str-then-is_some-2.ensures.value ∙ c.in_ok-path-2.ensures)) c.write_guarded-then-is_some-2.ensures

pub returns : goal.returns
returns c =
    let base = parts_of c.args.base.now in
    let r = parts_of c.args.reference.now in
    let s = some_kept c.args.reference.now.scheme false c.if-is_some.ensures in
    let a = some_kept c.args.reference.now.authority false c.if-is_some-2.ensures in
    subst (λ x. IfOk c.write_guarded-2.result (λ u. string_bytes u ≡ recompose x))
    (by_path base r c.as_str-2.result.now (option_map (λ t. t.now) c.query_of.result) s a (c.as_str-2.ensures.value ∙ c.in_ok-path-3.ensures) c.query_of.ensures) c.write_guarded-2.ensures
