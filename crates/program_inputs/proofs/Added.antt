-- What a map holds behind a file that was added.
use Rattle.std.proofs.Common.{◌≡◌, ℕ, List, Bool, true, false, Option, Some, refl, if◌then◌else◌, bytes_eq}
use Rattle.std.specs.Option.{option_map_or}
use Rattle.std.specs.Map.{update}
use Rattle.program_inputs.specs.Held.{Missing, Holds}

pub held_after : {V : Type 0} (items : V → List ℕ) (f : List ℕ → Option V) (name other : List ℕ) (v : V)
    → option_map_or (λ w. Holds (items w)) (update bytes_eq f name (Some v) other) Missing
    ≡ (if bytes_eq name other then Holds (items v) else option_map_or (λ w. Holds (items w)) (f other) Missing)
held_after items f name other v = by_test (bytes_eq name other)
  where
    by_test : (b : Bool) → option_map_or (λ w. Holds (items w)) (if b then Some v else f other) Missing
        ≡ (if b then Holds (items v) else option_map_or (λ w. Holds (items w)) (f other) Missing)
    by_test true = refl
    by_test false = refl
