-- The place of the outermost of several resources that bear a name.
use Rattle.std.proofs.Common.{◌≡◌, if◌then◌else◌, Option, Some, None, option_and_then, is_some, ap}
use Rattle.schema_definitions.specs.Words.{or_else}

pub by_outer : {U X : Type 0} (f : U → Option X) (i u : U) (o : Option U) → Some u ≡ o → f u ≡ option_and_then f (or_else o (if is_some (f i) then Some i else None))
by_outer f i u o e = ap (λ p. option_and_then f (or_else p (if is_some (f i) then Some i else None))) e
