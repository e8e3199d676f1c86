use Rattle.std.proofs.Common.{◌≡◌, ◌||◌, ◌+◌, ◌∙◌, Bool, drop, sym, ap, is_eq}
use Rattle.std.specs.BTreeSet.{contains_by}
use Rattle.std.specs.List.{list_any}
use Rattle.serde_json.specs.Data.{string}
use Rattle.serde_json.specs.View.{view, items_view}
use Rattle.json_values.specs.Equality.{equal, is_among}
use Rattle.compiled_keywords.specs.Options.{beside}
use Rattle.compiled_keywords.proofs.AcceptLemmas.{next_of}
use Rattle.compiled_keywords.proofs.Collected.{moved_on, found_with, told_beside, is_text, is_other}
use Rattle.compiled_keywords.proofs.options.texts_of.Goals as goal
use Rattle.compiled_keywords.proofs.options.texts_of.Goals.{in-Some+in_ok-from_str+in_ok-insert, in_default}

pub loop-value-preserved : goal.loop-value-preserved
loop-value-preserved c text =
    let i = c.loop-value.value-index in
    let vs = c.args.list.now in
    let v = c.value-item.result in
    let rest : Bool = is_among (string text) (items_view (drop (i + 1) vs)) in
    let next = next_of i vs v c.loop-value-test.true c.value-item.is in
    let before : (contains_by (beside text) c.loop-value.texts || (equal (string text) (view v) || rest)) ≡ is_among (string text) (items_view vs) =
    ap (λ ws. contains_by (beside text) c.loop-value.texts || is_among (string text) (items_view ws)) (sym next) ∙ c.loop-value.invariant text in
    elim c.match-as_str.branch [
      | in-Some+in_ok-from_str+in_ok-insert w ↦ (
          let k = w.in_ok-from_str.field-0 in
          let more : contains_by (beside text) c.match-as_str.texts ≡ (is_eq (beside text k) || contains_by (beside text) c.loop-value.texts) =
          ap (contains_by (beside text)) w.texts-is ∙ ap (λ ks. list_any (λ x. is_eq (beside text x)) ks) w.in_ok-insert.ensures.keys ∙ found_with text c.loop-value.texts.keys k in
          let same : is_eq (beside text k) ≡ equal (string text) (view v) = told_beside text k ∙ ap (λ s. equal (string text) (string s)) w.in_ok-from_str.ensures.ok
          ∙ ap (λ d. equal (string text) d) (is_text (view v) w.in-Some.text.now w.in-Some.ensures) in
          ap (λ b. b || rest) more ∙ moved_on (is_eq (beside text k)) (contains_by (beside text) c.loop-value.texts) rest
          ∙ ap (λ b. contains_by (beside text) c.loop-value.texts || (b || rest)) same ∙ before)
      | in_default w ↦ (
          ap (λ s. contains_by (beside text) s || rest) w.texts-is
          ∙ ap (λ b. contains_by (beside text) c.loop-value.texts || (b || rest)) (sym (is_other text (view v) w.in_default.ensures)) ∙ before)
    ]
