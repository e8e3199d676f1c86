use Rattle.std.proofs.Common.{◌∙◌, [], ◌∷◌, ℕ, List, Some, ap, sym, subst}
use Rattle.json_values.specs.Parts.{index}
use Rattle.fault_paths.specs.Texts.{text_left}
use Rattle.fault_paths.specs.Behind.{BeginsOtherwise}
use Rattle.fault_paths.proofs.BehindFacts.{leaves_index, no_index, index_otherwise}
use Rattle.fault_paths.proofs.behind.behind_index.Goals as goal

pub returns-in_default-parse_index : goal.returns-in_default-parse_index
returns-in_default-parse_index c =
    subst (λ (t : List ℕ). BeginsOtherwise (index c.args.index ∷ []) t) (sym (ap text_left c.in-Some.is))
    (no_index c.in-Some.text.now c.first_part.result.0.now c.first_part.result.1 c.first_part.ensures c.args.index c.ranges.index.fits (sym c.parse_index.ensures ∙ c.in_default-parse_index.is))

pub returns-then-written-index : goal.returns-then-written-index
returns-then-written-index c =
    ap text_left c.in-Some.is
    ∙ leaves_index c.in-Some.text.now c.first_part.result.0.now c.first_part.result.1 c.first_part.ensures c.args.index c.ranges.index.fits
    (sym c.parse_index.ensures ∙ c.in-Some-parse_index.is ∙ ap (λ (n : ℕ). Some n) c.if-written-index.true)

pub returns-else-written-index : goal.returns-else-written-index
returns-else-written-index c =
    subst (λ (t : List ℕ). BeginsOtherwise (index c.args.index ∷ []) t) (sym (ap text_left c.in-Some.is))
    (index_otherwise c.in-Some.text.now c.first_part.result.0.now c.first_part.result.1 c.first_part.ensures c.args.index c.in-Some-parse_index.written c.ranges.index.fits
    (sym c.parse_index.ensures ∙ c.in-Some-parse_index.is) c.if-written-index.false)
