use Rattle.std.proofs.Common.{ap, sym, ◌∙◌, None, Some, Bor, option_map}
use Rattle.serde_json.specs.Find.{get}
use Rattle.serde_json.specs.View.{view}
use Rattle.serde_json.specs.declared.value.Value.{Value}
use Rattle.json_values.specs.Pointers.{value_in}
use Rattle.json_pointers.specs.Lent.{part_of}
use Rattle.json_pointers.proofs.NodeLemmas.{value_step}
use Rattle.json_pointers.proofs.path.JsonPointerNode.+find_in.Goals as goal

pub returns-in_err-value : goal.returns-in_err-value
returns-in_err-value t c =
    ap (option_map (λ (v : Bor Value). view v.now)) c.from_residual.ensures
    ∙ value_step c.args.self.now c.in-Some.parent (view c.args.document.now) None c.in-Some.is c.in_err-value.ensures

pub returns-in-Key : goal.returns-in-Key
returns-in-Key t c =
    c.get.ensures ∙ ap (λ k. get k (view c.in_ok-value.value.now)) c.as_str.ensures.value
    ∙ ap (λ s. value_in (part_of s) (view c.in_ok-value.value.now)) (sym c.in-Key.is)
    ∙ value_step c.args.self.now c.in-Some.parent (view c.args.document.now) (Some (view c.in_ok-value.value.now)) c.in-Some.is c.in_ok-value.ensures

pub returns-in-Index : goal.returns-in-Index
returns-in-Index t c =
    c.get-in-Index.ensures
    ∙ ap (λ s. value_in (part_of s) (view c.in_ok-value.value.now)) (sym c.in-Index.is)
    ∙ value_step c.args.self.now c.in-Some.parent (view c.args.document.now) (Some (view c.in_ok-value.value.now)) c.in-Some.is c.in_ok-value.ensures
