-- Which error comes when.
use Rattle.std.specs.Prelude.{◌≡◌, ℕ, List, Bool, false, string_bytes}
use Rattle.uri_references.specs.declared.error.UriError.{UriError}
use Rattle.uri_references.specs.declared.error.UriError.TheVariants.{Parse, Resolve}
use Rattle.uri_references.specs.declared.error.Error.{Error}
use Rattle.uri_references.specs.declared.error.Error.TheVariants.{InvalidUri, Memory}

-- a text that is not in order is named
abbrev pub Names : List ℕ → UriError → Type 0
Names text (Parse uri) = string_bytes uri ≡ text
Names text (Resolve uri base) = ⊥

-- a text is refused only where it is not in order; else it is want of memory
abbrev pub Refuses : Bool → List ℕ → Error → Type 0
Refuses is_valid text (InvalidUri refusal) = (is_valid ≡ false) × Names text refusal
Refuses is_valid text Memory = Unit {0}
