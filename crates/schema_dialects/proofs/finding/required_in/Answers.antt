use Rattle.std.proofs.Common.{◌≡◌, ◌∙◌, ◌||◌, Some, true, false, ap, string_bytes, sym}
use Rattle.std.specs.List.{list_any}
use Rattle.std.specs.Option.{option_eq}
use mathlib.Core.Bool.{beq}
use Rattle.serde_json.specs.Find.{as_bool}
use Rattle.serde_json.specs.View.{view, members_view}
use Rattle.schema_drafts.specs.Vocabularies.{vocabulary_named}
use Rattle.schema_definitions.specs.Bearers.{required_in}
use Rattle.schema_dialects.specs.Named.{vocabulary_of}
use Rattle.schema_dialects.specs.Sets.{listed}
use Rattle.schema_dialects.proofs.Required.{told_true, one_required, none_required}
use Rattle.schema_dialects.proofs.finding.required_in.Goals as goal

pub loop-name-preserved-in_ok-add : goal.loop-name-preserved-in_ok-add
loop-name-preserved-in_ok-add c = record {
  part = c.in_ok-add.ensures.whole ∙ c.loop-name.invariant.part;
  told = λ test.
      let old = list_any test (listed c.loop-name.vocabularies) in
      let name = string_bytes c.in-Some.name.now in
      let rest = members_view c.next.new.self in
      let is : as_bool (view c.in-Some.is_required.now) ≡ Some true = sym c.as_bool.ensures ∙ told_true c.as_bool.result (sym c.eq.ensures ∙ c.if-eq.true) in
      let named : vocabulary_of c.in_ok-named.field-0 ≡ vocabulary_named name = c.in_ok-named.ensures ∙ ap (λ k. vocabulary_named k) c.as_str.ensures.value in
      ap (λ b. b || list_any test (required_in rest)) (c.in_ok-add.ensures.ok test ∙ ap (λ v. test v || old) named)
      ∙ one_required test old name (view c.in-Some.is_required.now) rest is
      ∙ ap (λ es. old || list_any test (required_in (members_view es))) (sym c.in-Some.ensures.steps)
      ∙ c.loop-name.invariant.told test;
}

pub loop-name-preserved : goal.loop-name-preserved
loop-name-preserved c = record {
  part = c.loop-name.invariant.part;
  told = λ test.
      let old = list_any test (listed c.loop-name.vocabularies) in
      let d = view c.in-Some.is_required.now in
      let other : option_eq beq (as_bool d) (Some true) ≡ false = ap (λ o. option_eq beq o (Some true)) (sym c.as_bool.ensures) ∙ sym c.eq.ensures ∙ c.if-eq.false in
      none_required test old (string_bytes c.in-Some.name.now) d (members_view c.next.new.self) other
      ∙ ap (λ es. old || list_any test (required_in (members_view es))) (sym c.in-Some.ensures.steps)
      ∙ c.loop-name.invariant.told test;
}
