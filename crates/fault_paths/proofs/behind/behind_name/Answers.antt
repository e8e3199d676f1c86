use Rattle.std.proofs.Common.{◌∙◌, [], ◌∷◌, ℕ, List, ap, sym, subst, true≢false}
use Rattle.json_values.specs.Parts.{name}
use Rattle.fault_paths.specs.Texts.{text_left}
use Rattle.fault_paths.specs.Behind.{BeginsOtherwise}
use Rattle.fault_paths.proofs.BehindFacts.{leaves_name, name_otherwise}
use Rattle.fault_paths.proofs.behind.behind_name.Goals as goal

pub returns-then-branch : goal.returns-then-branch
returns-then-branch c =
    ap text_left c.in-Some.is
    ∙ leaves_name c.in-Some.text.now c.first_part.result.0.now c.first_part.result.1 c.first_part.ensures c.args.name.now (c.in_ok-is_written.ensures.yes c.if-branch.true)

pub returns-else-branch : goal.returns-else-branch
returns-else-branch c =
    subst (λ (t : List ℕ). BeginsOtherwise (name c.args.name.now ∷ []) t) (sym (ap text_left c.in-Some.is))
    (name_otherwise c.in-Some.text.now c.first_part.result.0.now c.first_part.result.1 c.first_part.ensures c.args.name.now (λ same. true≢false (sym (c.in_ok-is_written.ensures.no same) ∙ c.if-branch.false)))
