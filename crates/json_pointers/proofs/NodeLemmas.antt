-- A node's path, one step at a time.
use Rattle.std.proofs.Common.{◌≡◌, List, [], ◌∷◌, ◌++◌, Option, Some, None, option_and_then, Bor, refl, sym, ap, ◌∙◌, rules, append_assoc, append-nil, subst}
use Rattle.serde_json.specs.Data.{Data}
use Rattle.json_values.specs.Parts.{Part}
use Rattle.json_values.specs.Pointers.{part_text, pointer_text, value_in, value_at, PartFits, PathFits}
use Rattle.json_pointers.specs.Lent.{part_of, path_of}
use Rattle.json_pointers.specs.declared.path.JsonPointerNode.{JsonPointerNode, out-JsonPointerNode, the_lemmas}

pub path_step : (node : JsonPointerNode) (above : Bor JsonPointerNode) → (out-JsonPointerNode node).parent ≡ Some above → path_of node ≡ path_of above.now ++ part_of (out-JsonPointerNode node).segment ∷ []
path_step node above e = search (rules, the_lemmas)

whole : (o : Option Data) → option_and_then (λ d. Some d) o ≡ o
whole None = refl
whole (Some d) = refl

value_at-push : (path : List Part) (part : Part) (d : Data) → value_at (path ++ part ∷ []) d ≡ option_and_then (value_in part) (value_at path d)
value_at-push [] part d = whole (value_in part d)
value_at-push (first ∷ path) part d =
    elim (value_in first d) as (λ o. option_and_then (value_at (path ++ part ∷ [])) o ≡ option_and_then (value_in part) (option_and_then (value_at path) o))
    [ None ↦ refl | Some e ↦ value_at-push path part e ]

pub pointer_text-push : (path : List Part) (part : Part) → pointer_text (path ++ part ∷ []) ≡ pointer_text path ++ 47 ∷ part_text part
pointer_text-push [] part = ap (λ l. 47 ∷ l) (append-nil (part_text part))
pointer_text-push (first ∷ path) part =
    ap (λ l. 47 ∷ (part_text first ++ l)) (pointer_text-push path part) ∙ ap (λ l. 47 ∷ l) (sym (append_assoc (part_text first) (pointer_text path) (47 ∷ part_text part)))

PathFits-push : (path : List Part) (part : Part) → PathFits path → PartFits part → PathFits (path ++ part ∷ [])
PathFits-push [] part fits last = (last, tt)
PathFits-push (first ∷ path) part fits last = (fits.0, PathFits-push path part fits.1 last)

pub value_step : (node : JsonPointerNode) (above : Bor JsonPointerNode) (d : Data) (o : Option Data) → (out-JsonPointerNode node).parent ≡ Some above → o ≡ value_at (path_of above.now) d → option_and_then (value_in (part_of (out-JsonPointerNode node).segment)) o ≡ value_at (path_of node) d
value_step node above d o e is =
    ap (option_and_then (value_in (part_of (out-JsonPointerNode node).segment))) is
    ∙ sym (ap (λ p. value_at p d) (path_step node above e) ∙ value_at-push (path_of above.now) (part_of (out-JsonPointerNode node).segment) d)

pub text_step : (node : JsonPointerNode) (above : Bor JsonPointerNode) → (out-JsonPointerNode node).parent ≡ Some above → pointer_text (path_of node) ≡ pointer_text (path_of above.now) ++ 47 ∷ part_text (part_of (out-JsonPointerNode node).segment)
text_step node above e =
    ap pointer_text (path_step node above e) ∙ pointer_text-push (path_of above.now) (part_of (out-JsonPointerNode node).segment)

pub fits_step : (node : JsonPointerNode) (above : Bor JsonPointerNode) → (out-JsonPointerNode node).parent ≡ Some above → PathFits (path_of above.now) → PartFits (part_of (out-JsonPointerNode node).segment) → PathFits (path_of node)
fits_step node above e fits last =
    subst PathFits (sym (path_step node above e)) (PathFits-push (path_of above.now) (part_of (out-JsonPointerNode node).segment) fits last)
