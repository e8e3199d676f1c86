-- Copies of values.
use Rattle.std.proofs.Common.{◌≡◌, List, [], ◌∷◌, refl}
use Rattle.std.specs.List.{AllZip}
use Rattle.serde_json.specs.View.{view, items_view}
use Rattle.serde_json.specs.Data.{item}
use Rattle.serde_json.specs.declared.value.Value.{Value}

pub copied : (vs ws : List Value) → AllZip (λ v w. view w ≡ view v) vs ws → items_view ws ≡ items_view vs
copied [] [] h = refl
copied [] (w ∷ ws) h = absurd h
copied (v ∷ vs) [] h = absurd h
copied (v ∷ vs) (w ∷ ws) h = λ i. item (h.0 i) (copied vs ws h.1 i)
