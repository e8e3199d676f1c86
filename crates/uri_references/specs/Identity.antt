-- The URIs by which documents are known: in normal form, where an empty fragment equals none.
use Rattle.std.specs.Prelude.{ℕ, List, [], ◌∷◌, Option, Some, None, if◌then◌else◌, codes}
use Rattle.uri_references.specs.Passed.{is_none}
use Rattle.uri_references.specs.Passed.{Parts, split, recompose}
use Rattle.uri_references.specs.Resolution.{resolve}
use Rattle.uri_references.specs.NormalForm.{normal}

abbrev pub without_empty : Option (List ℕ) → Option (List ℕ)
without_empty None = None
without_empty (Some []) = None
without_empty (Some (b ∷ text)) = Some (b ∷ text)

abbrev pub identity : Parts → Parts
identity p = normal (record p { fragment = without_empty p.fragment })

-- the base of a text without a scheme
abbrev pub default_base : List ℕ
default_base = codes "json-schema:///"

abbrev pub absolute : Parts → Parts
absolute p = if is_none p.scheme then resolve (split default_base) p else p

abbrev pub identity_of : List ℕ → List ℕ
identity_of text = recompose (identity (absolute (split text)))

-- the same of a reference against a base
abbrev pub identity_against : List ℕ → List ℕ → List ℕ
identity_against base reference = recompose (identity (resolve (split base) (split reference)))
