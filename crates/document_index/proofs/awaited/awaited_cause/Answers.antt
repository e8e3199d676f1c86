use Rattle.std.proofs.Common.{◌≡◌, ◌∙◌, ◌-◌, ℕ, suc, List, Some, None, map, ap, sym, arith}
use Rattle.schema_definitions.specs.DocumentCauses.{awaited_cause}
use Rattle.schema_definitions.specs.Bearers.{Standing}
use Rattle.document_index.specs.Awaited.{awaited_among}
use Rattle.document_index.specs.Seen.{standing_of}
use Rattle.document_index.proofs.AwaitedLemmas.{counted, at_end, one_up}
use Rattle.document_index.proofs.awaited.awaited_cause.Goals as goal

pub loop-awaited-init : goal.loop-awaited-init
loop-awaited-init c =
    let ss : List Standing = map standing_of c.args.standings.now in
    λ docs there. ap (λ (n : ℕ). awaited_cause docs (suc n) c.args.uri) (c.how_many_await-left.ensures ∙ sym (counted docs ss there))

pub returns-then-left-eq0 : goal.returns-then-left-eq0
returns-then-left-eq0 c =
    let ss : List Standing = map standing_of c.args.standings.now in
    let uri : List ℕ = c.loop-awaited.awaited in
    let next : List ℕ = c.in-Some.next in
    let left : ℕ = c.loop-awaited.left in
    let led : awaited_among ss uri ≡ Some next = sym (c.in_ok-next.ensures ∙ ap (awaited_among ss) c.as_str.ensures.value) ∙ c.in-Some.is in
    λ docs there.
    sym (one_up docs ss there left uri next led ∙ ap (λ (n : ℕ). awaited_cause docs n next) c.if-left-eq0.true) ∙ c.loop-awaited.invariant docs there

pub loop-awaited-preserved : goal.loop-awaited-preserved
loop-awaited-preserved c =
    let ss : List Standing = map standing_of c.args.standings.now in
    let uri : List ℕ = c.loop-awaited.awaited in
    let next : List ℕ = c.in-Some.next in
    let left : ℕ = c.loop-awaited.left in
    let led : awaited_among ss uri ≡ Some next = sym (c.in_ok-next.ensures ∙ ap (awaited_among ss) c.as_str.ensures.value) ∙ c.in-Some.is in
    let less : suc (left - 1) ≡ left = omega (arith, c.if-left-eq0.false) in
    λ docs there.
    ap (λ (n : ℕ). awaited_cause docs n next) less ∙ sym (one_up docs ss there left uri next led) ∙ c.loop-awaited.invariant docs there

pub returns : goal.returns
returns c =
    let ss : List Standing = map standing_of c.args.standings.now in
    let uri : List ℕ = c.loop-awaited.awaited in
    let ends : awaited_among ss uri ≡ None = sym (c.in_ok-next.ensures ∙ ap (awaited_among ss) c.as_str.ensures.value) ∙ c.in_default.is in
    λ docs there. sym (at_end docs ss there c.loop-awaited.left uri ends) ∙ c.loop-awaited.invariant docs there
