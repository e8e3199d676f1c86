-- Why a document is refused. Each error but want of memory names what is refused.
use Rattle.std.specs.Prelude.{◌≡◌, ◌⊎◌, ℕ, List, false, IsTrue, if◌then◌else◌, Option, Some, None, string_bytes}
use Rattle.std.specs.Str.{is_utf8}
use Rattle.serde_json.specs.Data.{Data}
use Rattle.serde_json.specs.Read.{read}
use Rattle.uri_references.specs.Identity.{identity_of}
use Rattle.uri_references.specs.declared.error.UriError.{UriError}
use Rattle.uri_references.specs.declared.error.UriError.TheVariants.{Parse, Resolve}
use Rattle.document_sources.specs.Uris.{is_document_uri}
use Rattle.schema_registries.specs.Whole.{IsOtherNumber}
use Rattle.schema_registries.specs.declared.error.DocumentError.{DocumentError}
use Rattle.schema_registries.specs.declared.error.DocumentError.TheVariants.{InvalidUri, JsonText, OtherNumber, Memory}

-- the value of a JSON text (RFC 8259)
abbrev pub text_value : List ℕ → Option Data
text_value text = if is_utf8 text then read text else None

abbrev pub IsNamed : List ℕ → UriError → Type 0
IsNamed text (Parse uri) = string_bytes uri ≡ text
IsNamed text (Resolve uri base) = ⊥

-- a text that is no URI of a document is named
abbrev pub NamesUri : List ℕ → DocumentError → Type 0
NamesUri text (InvalidUri e) = (is_document_uri text ≡ false) × IsNamed text e
NamesUri text (JsonText document line column) = ⊥
NamesUri text (OtherNumber document path found) = ⊥
NamesUri text Memory = Unit {0}

-- a document is named of which the text has no value
abbrev pub NamesText : List ℕ → List ℕ → DocumentError → Type 0
NamesText uri text (InvalidUri e) = ⊥
NamesText uri text (JsonText document line column) = (string_bytes document ≡ uri) × (text_value text ≡ None)
NamesText uri text (OtherNumber document path found) = ⊥
NamesText uri text Memory = Unit {0}

-- the place is named of a number that is not whole
abbrev pub NamesNumber : List ℕ → Data → DocumentError → Type 0
NamesNumber uri d (InvalidUri e) = ⊥
NamesNumber uri d (JsonText document line column) = ⊥
NamesNumber uri d (OtherNumber document path found) = (string_bytes document ≡ uri) × IsOtherNumber d path
NamesNumber uri d Memory = Unit {0}

-- the error of a value added under a text
abbrev pub RefusesValue : List ℕ → Data → DocumentError → Type 0
RefusesValue uri d e = NamesUri uri e ⊎ (IsTrue (is_document_uri uri) × NamesNumber (identity_of uri) d e)

abbrev pub RefusesRead : List ℕ → List ℕ → DocumentError → Type 0
RefusesRead uri text e = NamesText uri text e ⊎ ((d : Data) × (text_value text ≡ Some d) × NamesNumber uri d e)

-- the error of a JSON text added under a text
abbrev pub RefusesText : List ℕ → List ℕ → DocumentError → Type 0
RefusesText uri text e = NamesUri uri e ⊎ (IsTrue (is_document_uri uri) × RefusesRead (identity_of uri) text e)
