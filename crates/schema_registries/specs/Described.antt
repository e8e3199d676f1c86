-- Why a document is refused, as a sentence.
use Rattle.std.specs.Prelude.{ℕ, List, [], ◌∷◌, reverse, map, decimal, codes, string_bytes}
use Rattle.std.specs.Borrow.{Bor}
use Rattle.std.specs.List.{concat}
use Rattle.json_values.specs.Pointers.{pointer_text}
use Rattle.uri_references.specs.declared.error.UriError.{UriError}
use Rattle.uri_references.specs.declared.error.UriError.TheVariants.{Parse, Resolve}
use Rattle.schema_registries.specs.declared.error.DocumentError.{DocumentError}
use Rattle.schema_registries.specs.declared.error.DocumentError.TheVariants.{InvalidUri, JsonText, OtherNumber, Memory}

abbrev pub refused_text : UriError → List ℕ
refused_text (Parse uri) = string_bytes uri
refused_text (Resolve uri base) = string_bytes uri

-- it names the text, or the document, the place and the number that stands there
abbrev pub description_of : DocumentError → List ℕ
description_of (InvalidUri e) = concat (codes "The text '" ∷ refused_text e ∷ codes "' is no URI of a document" ∷ [])
description_of (JsonText uri line column) =
    concat (codes "The document '" ∷ string_bytes uri ∷ codes "' is no JSON text, from line " ∷ decimal line ∷ codes ", column " ∷ decimal column ∷ codes " on" ∷ [])
description_of (OtherNumber document path found) =
    concat (codes "The number " ∷ string_bytes found ∷ codes " at '" ∷ string_bytes document ∷ codes "#" ∷ pointer_text (reverse path) ∷ codes "' is no whole number from -2^63 to 2^64-1" ∷ [])
description_of Memory = codes "No memory"

abbrev pub joined : List (Bor (List ℕ)) → List ℕ
joined parts = concat (map (λ s. s.now) parts)
