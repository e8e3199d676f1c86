use Rattle.std.proofs.Common.{◌≡◌, ◌∙◌, ◌||◌, Some, true, false, ap, string_bytes, sym}
use Rattle.std.specs.List.{list_any}
use Rattle.std.specs.Option.{option_eq}
use mathlib.Core.Bool.{beq}
use Rattle.serde_json.specs.Find.{as_bool}
use Rattle.serde_json.specs.View.{view, members_view}
use Rattle.schema_drafts.specs.Vocabularies.{vocabulary_named}
use Rattle.schema_definitions.specs.Bearers.{required_in}
use Rattle.schema_dialects.specs.Sets.{required}
use Rattle.schema_dialects.proofs.Required.{told_true, one_required, none_required}
use Rattle.schema_dialects.proofs.Dialects.{required_as}
use Rattle.schema_dialects.proofs.dialect.required_among.Goals as goal

pub loop-name-preserved-then-eq : goal.loop-name-preserved-then-eq
loop-name-preserved-then-eq c = λ test never.
    let old = list_any test (required c.loop-name.required) in
    let name = string_bytes c.in-Some.name.now in
    let rest = members_view c.next.new.self in
    let is : as_bool (view c.in-Some.is_required.now) ≡ Some true = sym c.as_bool.ensures ∙ told_true c.as_bool.result (sym c.eq.ensures ∙ c.if-eq.true) in
    ap (λ b. b || list_any test (required_in rest)) (c.mark_named.ensures test never ∙ ap (λ k. test (vocabulary_named k) || old) c.as_str.ensures.value)
    ∙ one_required test old name (view c.in-Some.is_required.now) rest is
    ∙ ap (λ es. old || list_any test (required_in (members_view es))) (sym c.in-Some.ensures.steps)
    ∙ c.loop-name.invariant test never

pub loop-name-preserved : goal.loop-name-preserved
loop-name-preserved c = λ test never.
    let old = list_any test (required c.loop-name.required) in
    let d = view c.in-Some.is_required.now in
    let other : option_eq beq (as_bool d) (Some true) ≡ false = ap (λ o. option_eq beq o (Some true)) (sym c.as_bool.ensures) ∙ sym c.eq.ensures ∙ c.if-eq.false in
    none_required test old (string_bytes c.in-Some.name.now) d (members_view c.next.new.self) other
    ∙ ap (λ es. old || list_any test (required_in (members_view es))) (sym c.in-Some.ensures.steps)
    ∙ c.loop-name.invariant test never

pub returns : goal.returns
returns c =
    required_as c.loop-name.required (required_in (members_view c.args.members.now.entries)) (λ test never.
    ap (λ es. list_any test (required c.loop-name.required) || list_any test (required_in (members_view es))) (sym c.in-None.ensures.steps.0) ∙ c.loop-name.invariant test never)
