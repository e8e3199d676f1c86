-- The texts behind a slice that may be missing.
use Rattle.std.proofs.Common.{◌≡◌, ℕ, List, [], Option, Some, None, refl}
use Rattle.std.specs.Option.{option_map, unwrap_or}
use Rattle.std.specs.Borrow.{Bor}
use Rattle.clap.specs.Walk.{texts}

pub texts_or_none : (o : Option (Bor (List (Bor (List ℕ))))) (d : Bor (List (Bor (List ℕ)))) → d.now ≡ []
    → texts (unwrap_or o d).now ≡ unwrap_or (option_map (λ s. texts s.now) o) []
texts_or_none None d e = rw e refl
texts_or_none (Some s) d e = refl
