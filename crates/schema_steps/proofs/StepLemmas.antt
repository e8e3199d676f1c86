-- A path from the root on, one step at a time.
use Rattle.std.proofs.Common.{◌≡◌, List, [], ◌∷◌, ◌++◌, map, reverse, Option, Some, None, option_and_then, refl, sym, ap, ◌∙◌, append_assoc, append-nil, subst}
use Rattle.std.proofs.lemmas.List.{reverse-append}
use Rattle.serde_json.specs.Data.{Data}
use Rattle.json_values.specs.Parts.{Part}
use Rattle.json_values.specs.Pointers.{part_text, pointer_text, value_in, value_at, PartFits, PathFits}
use Rattle.schema_steps.specs.Steps.{step_part}
use Rattle.schema_steps.specs.declared.step.Step.{Step}

whole : (o : Option Data) → option_and_then (λ d. Some d) o ≡ o
whole None = refl
whole (Some d) = refl

value_at-push : (path : List Part) (part : Part) (d : Data) → value_at (path ++ part ∷ []) d ≡ option_and_then (value_in part) (value_at path d)
value_at-push [] part d = whole (value_in part d)
value_at-push (first ∷ path) part d =
    elim (value_in first d) as (λ o. option_and_then (value_at (path ++ part ∷ [])) o ≡ option_and_then (value_in part) (option_and_then (value_at path) o))
    [ None ↦ refl | Some e ↦ value_at-push path part e ]

pointer_text-push : (path : List Part) (part : Part) → pointer_text (path ++ part ∷ []) ≡ pointer_text path ++ 47 ∷ part_text part
pointer_text-push [] part = ap (λ l. 47 ∷ l) (append-nil (part_text part))
pointer_text-push (first ∷ path) part =
    ap (λ l. 47 ∷ (part_text first ++ l)) (pointer_text-push path part) ∙ ap (λ l. 47 ∷ l) (sym (append_assoc (part_text first) (pointer_text path) (47 ∷ part_text part)))

PathFits-push : (path : List Part) (part : Part) → PathFits path → PartFits part → PathFits (path ++ part ∷ [])
PathFits-push [] part fits last = (last, tt)
PathFits-push (first ∷ path) part fits last = (fits.0, PathFits-push path part fits.1 last)

-- of steps of which the last comes first
module _ (all rest : List Step) (step : Step) (e : all ≡ step ∷ rest) where
  from_root : reverse (map step_part all) ≡ reverse (map step_part rest) ++ step_part step ∷ []
  from_root = ap (λ l. reverse (map step_part l)) e ∙ reverse-append (step_part step ∷ []) (map step_part rest)

  pub value_step : (d : Data) (o : Option Data) → o ≡ value_at (reverse (map step_part rest)) d → option_and_then (value_in (step_part step)) o ≡ value_at (reverse (map step_part all)) d
  value_step d o is =
      ap (option_and_then (value_in (step_part step))) is
      ∙ sym (ap (λ p. value_at p d) from_root ∙ value_at-push (reverse (map step_part rest)) (step_part step) d)

  pub text_step : pointer_text (reverse (map step_part all)) ≡ pointer_text (reverse (map step_part rest)) ++ 47 ∷ part_text (step_part step)
  text_step = ap pointer_text from_root ∙ pointer_text-push (reverse (map step_part rest)) (step_part step)

  pub fits_step : PathFits (reverse (map step_part rest)) → PartFits (step_part step) → PathFits (reverse (map step_part all))
  fits_step fits last = subst PathFits (sym from_root) (PathFits-push (reverse (map step_part rest)) (step_part step) fits last)
