use Rattle.std.proofs.Common.{[], ℕ, List, sym, ap, ◌∙◌}
use Rattle.std.proofs.lemmas.Result.{IfOk-weaker}
use Rattle.json_pointers.proofs.PointerLemmas.{parts_some, parts_none}
use Rattle.schema_definitions.specs.Sites.{pushed, behind_first}
use Rattle.schema_reports.proofs.pointer_path.path_behind.Goals as goal

pub returns-in-Some : goal.returns-in-Some
returns-in-Some c =
    let same = ap (λ (parts : List (List ℕ)). pushed (behind_first parts) []) (parts_some c.args.pointer.now c.in-Some.field-0-0 c.in-Some.parts c.in-Some.ensures.cases) in
    IfOk-weaker c.path_of_parts.result _ _ (λ path is. is ∙ sym same) c.path_of_parts.ensures

pub returns-in-None : goal.returns-in-None
returns-in-None c =
    c.root.ensures ∙ sym (ap (λ (parts : List (List ℕ)). pushed (behind_first parts) []) (parts_none c.args.pointer.now c.in-None.ensures.cases))
