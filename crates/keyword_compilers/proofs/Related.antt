-- A keyword that asks related places, and combines alike: the same keyword over these.
use Rattle.std.proofs.Common.{ℕ, List}
use Rattle.linked_meanings.specs.Related.{RelatedForm, related_each_from, related_of_names, related_of_value, related_of_condition, RelatedShape, related_never, related_every, related_together, related_names, related_some, related_one, related_no, related_contains, related_condition}
use Rattle.applicators.specs.Forms.{Form, shape_by}
use Rattle.applicators.specs.declared.combining.Combining.{Combining}
use Rattle.applicators.specs.declared.combining.Combining.TheVariants as code

module _ {S T : Type 0} (like : S → T → Type 0) where
  -- a keyword of one name that combines alike
  pub shape_related : (k : List ℕ) (c : Combining) (f : Form S) (g : Form T) → RelatedForm like f g → RelatedShape like (shape_by k c f) (shape_by k c g)
  shape_related k code.Every f g l = related_every l
  shape_related k code.Together f g l = related_together l
  shape_related k code.EachNamed _ _ (related_of_names l) = related_names l
  shape_related k code.SomeBranch f g l = related_some l
  shape_related k code.OneBranch f g l = related_one l
  shape_related k code.Refusal _ _ (related_of_value l) = related_no l
  shape_related k (code.Counted least most) _ _ (related_each_from l) = related_contains l
  shape_related k code.Conditional _ _ (related_of_condition l x y) = related_condition l x y
  shape_related k c f g l = related_never
