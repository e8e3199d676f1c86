-- What the errors of the code stand for.
use Rattle.std.specs.Prelude.{◌≡◌, Option, Some, None, Result, Err, IfSome, string_bytes}
use Rattle.schema_definitions.specs.Lookup.{LookupCause, pointer_to_nowhere, invalid_percent_encoding, invalid_array_index}
use Rattle.schema_places.specs.declared.error.WalkError.{WalkError}
use Rattle.schema_places.specs.declared.error.WalkError.TheVariants.{Nowhere, PercentEncoding, ArrayIndex, Memory}

-- want of memory has no cause in the documents
abbrev pub cause_of : WalkError → Option LookupCause
cause_of (Nowhere pointer) = Some (pointer_to_nowhere (string_bytes pointer))
cause_of (PercentEncoding pointer) = Some (invalid_percent_encoding (string_bytes pointer))
cause_of (ArrayIndex index pointer) = Some (invalid_array_index (string_bytes index) (string_bytes pointer))
cause_of Memory = None

-- an error with a cause comes where the answer is that cause
abbrev pub Refuses : {X : Type 0} → Result X LookupCause → WalkError → Type 0
Refuses answer e = IfSome (cause_of e) (λ cause. answer ≡ Err cause)
