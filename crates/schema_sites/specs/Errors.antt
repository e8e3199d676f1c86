-- The refusal that an error of a lookup is.
use Rattle.std.specs.Prelude.{◌≡◌}
use Rattle.document_sources.specs.Causes.{IsMemory}
use Rattle.document_sources.specs.declared.error.Error.{Error}
use Rattle.schema_sites.specs.declared.keyword.Refusal.{Refusal}
use Rattle.schema_sites.specs.declared.keyword.Refusal.TheVariants.{Memory, Reference}

pub record IsRefusalOf (e : Error) (r : Refusal) : Type 0 where
  pub memory : IsMemory e → r ≡ Memory
  pub other : (IsMemory e → ⊥) → r ≡ Reference e
