-- Objects that are written for lines.
use Rattle.std.specs.Prelude.{◌≡◌, ℕ, List, [], ◌∷◌, ◌++◌, Bool, true, Option, not, bytes_eq}
use Rattle.serde_json.specs.Written.{compact_text}
use Rattle.schema_meaning.specs.Faults.{Faults, none, also}
use Rattle.schema_reports.specs.Told.{faults_of, are_proper}
use Rattle.schema_reports.specs.declared.error.ValidationError.{ValidationError}
use Rattle.error_texts.specs.Objects.{HasObjects, accepted_text}
use Rattle.error_texts.specs.Unread.{unread_data}
use Rattle.error_texts.specs.declared.unread.TextPlace.{TextPlace}

-- it is not valid, and there is an object for each of these faults, in order, which carries such values as its keyword has
pub record IsRefusedText (fs : Faults) (text : List ℕ) : Type 0 where
  pub errors : List ValidationError
  pub told : faults_of errors ≡ fs
  pub proper : are_proper errors ≡ true
  pub has : HasObjects errors text

-- it is valid exactly where there are no faults
abbrev pub IsObjectText : Faults → List ℕ → Type 0
IsObjectText none text = text ≡ accepted_text
IsObjectText (also f fs) text = IsRefusedText (also f fs) text

-- a reason where there is no value, and maybe a place in the text
abbrev pub IsUnreadText : List ℕ → Type 0
IsUnreadText text = (reason : List ℕ) × (place : Option TextPlace) × (text ≡ compact_text (unread_data reason place))

-- it tells of a refusal, or that there is no value, where it does not say that the value is accepted
abbrev pub is_refused_object : List ℕ → Bool
is_refused_object written = not (bytes_eq written (accepted_text ++ 10 ∷ []))
