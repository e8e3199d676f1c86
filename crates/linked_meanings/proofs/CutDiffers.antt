-- The cut reading of related sites differs where their places do.
use Rattle.std.proofs.Common.{◌≡◌, ℕ, zero, suc, refl, subst}
use Rattle.schema_meaning.specs.Members.{nothing_left, kept}
use Rattle.schema_meaning.specs.Readings.{unfolded}
use Rattle.schema_meaning.specs.Cut.{cut, cut_within}
use Rattle.linked_meanings.specs.Related.{RelatedKeywords, related_never, related_reference, AreRelated}
use Rattle.linked_meanings.specs.CutDiffers.{chain, together_placed, apart_placed, CutIsNotPromised}

same_keywords : (s : ℕ) → RelatedKeywords (λ s t. s ≡ t) (chain s) (chain s)
same_keywords zero = record { order = chain 0; reordered = kept nothing_left; same = (related_reference refl, tt) }
same_keywords (suc zero) = record { order = chain 1; reordered = kept nothing_left; same = (related_reference refl, tt) }
same_keywords (suc (suc n)) = record { order = chain (suc (suc n)); reordered = kept nothing_left; same = (related_never, tt) }

are_related : AreRelated together_placed apart_placed (λ s t. s ≡ t)
are_related = record {
  matches = refl;
  keywords = λ s t e. subst (λ x. RelatedKeywords (λ s t. s ≡ t) (chain s) (chain x)) e (same_keywords s);
  paths = λ s t e. refl;
}

pub cut_is_not_promised : CutIsNotPromised
unfolding unfolded cut cut_within
cut_is_not_promised = (are_related, refl, refl, λ n. refl, λ n. refl, refl, refl)
