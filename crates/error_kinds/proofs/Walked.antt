-- Lists and objects walked side by side.
use Rattle.std.proofs.Common.{◌≡◌, suc, Bool, true, false, ◌&&◌, refl, ap}
use Rattle.serde_json.specs.Data.{Items, no_items, item}
use Rattle.serde_json.specs.Events.{items_len}
use Rattle.error_kinds.specs.Values.{same_data, same_items}

-- lists of other lengths
pub other_lengths : (ds es : Items) → (items_len ds ≡ items_len es → ⊥) → same_items ds es ≡ false
other_lengths no_items no_items h = absurd (h refl)
other_lengths no_items (item e es) h = refl
other_lengths (item d ds) no_items h = refl
other_lengths (item d ds) (item e es) h = after (same_data d e) (other_lengths ds es (λ s. h (ap suc s)))
  where
    after : (b : Bool) → same_items ds es ≡ false → (b && same_items ds es) ≡ false
    after true e = e
    after false e = refl
