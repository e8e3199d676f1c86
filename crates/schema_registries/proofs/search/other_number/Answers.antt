use Rattle.std.proofs.Common.{◌∙◌, ap, subst, sym}
use Rattle.serde_json.proofs.Views.{view-Array, view-Object}
use Rattle.serde_json.specs.Data.{array}
use Rattle.serde_json.specs.View.{view, items_view}
use Rattle.schema_registries.specs.Whole.{IsNearer}
use Rattle.schema_registries.proofs.Nearer.{step_leads, step_shallow}
use Rattle.schema_registries.proofs.search.other_number.Goals as goal
use Rattle.schema_registries.proofs.search.other_number.Goals.{Joined-path-3, in-Array+in_ok-other_item-in-Array, in-Object+in_ok-nearer-in-Object}

near : (c : Joined-path-3) → IsNearer (view c.loop-value.value.now) c.loop-value.path c.match-value.nearer.0 (view c.match-value.nearer.1.now)
near c =
    let value = c.loop-value.value.now in
    let path = c.loop-value.path in
    elim c.match-value.branch [
      | in-Array+in_ok-other_item-in-Array w ↦
          let step = w.in_ok-other_item-in-Array in
          subst (λ n. IsNearer (view value) path n.0 (view n.1.now)) (sym w.nearer-is)
          (subst (λ d. IsNearer d path step.nearer (view step.inner.now)) (ap (λ vs. array (items_view vs)) w.deref.ensures.value ∙ sym (view-Array w.in-Array.items) ∙ sym (ap view w.in-Array.is)) step.ensures)
      | in-Object+in_ok-nearer-in-Object w ↦
          let step = w.in_ok-nearer-in-Object in
          subst (λ n. IsNearer (view value) path n.0 (view n.1.now)) (sym w.nearer-is)
          (subst (λ d. IsNearer d path step.nearer (view step.inner.now)) (sym (view-Object w.in-Object.members) ∙ sym (ap view w.in-Object.is)) step.ensures)
    ]

pub loop-value-preserved : goal.loop-value-preserved
loop-value-preserved c = record {
  leads = step_leads _ (view c.loop-value.value.now) c.loop-value.path _ _ c.loop-value.invariant.leads (near c);
  not_whole = (near c).not_whole;
}

pub loop-value-smaller : goal.loop-value-smaller
loop-value-smaller c = step_shallow (view c.loop-value.value.now) c.loop-value.path _ _ (near c)
