-- The texts of documents for which they are refused.
use Rattle.std.specs.Prelude.{◌≡◌, ◌⊎◌, ℕ, List, Option, Some, None, Box, box_value, string_bytes}
use Rattle.std.specs.List.{All, Contains}
use Rattle.std.specs.declared.alloc.Global.{Global}
use Rattle.schema_definitions.specs.Bearers.{Layer}
use Rattle.schema_definitions.specs.DocumentCauses.{DocumentCause}
use Rattle.schema_definitions.specs.Rows.{Place}
use Rattle.document_sources.specs.Causes.{NamesDocument}
use Rattle.document_sources.specs.Given.{Given}
use Rattle.document_sources.specs.declared.error.Error.{Error}
use Rattle.reached_sites.specs.Places.{place_in}
use Rattle.reached_sites.specs.declared.cause.BuildCause.{BuildCause}
use Rattle.reached_sites.specs.declared.cause.BuildCause.TheVariants as cause
use Rattle.schema_validators.specs.Absent.{Absent, absent_given}
use Rattle.schema_validators.specs.Misnamed.{Misnamed, misnamed_given}
use Rattle.schema_validators.specs.declared.error.RefusedText.{RefusedText}

-- ---- of causes that were told

-- what documents have by the cause is what the error names, or is not
abbrev pub IsOf : Error → BuildCause → Type 0
IsOf e (cause.Reference place reference own) = (c : DocumentCause) → NamesDocument c own → NamesDocument c e
IsOf e _ = ⊥

abbrev pub IsNotOf : Error → BuildCause → Type 0
IsNotOf e (cause.Reference place reference own) = (c : DocumentCause) → NamesDocument c own → NamesDocument c e → ⊥
IsNotOf e _ = Unit {0}

-- a text with its place is that of a cause
abbrev pub IsTextOf : BuildCause → RefusedText → Type 0
IsTextOf (cause.Reference place reference error) t = (place_in t.place ≡ place_in place) × (string_bytes t.reference ≡ string_bytes reference)
IsTextOf _ t = ⊥

-- it is, where the cause has one
abbrev pub IsTextIn : BuildCause → Option (Box RefusedText Global) → Type 0
IsTextIn c (Some t) = IsTextOf c (box_value t)
IsTextIn (cause.Reference place reference error) None = ⊥
IsTextIn _ None = Unit {0}

-- a text is that of one of some causes, which the error names
pub record IsOneOf (e : Error) (causes : List BuildCause) (t : RefusedText) : Type 0 where
  pub cause : BuildCause
  pub among : Contains causes cause
  pub named : IsOf e cause
  pub text : IsTextOf cause t

abbrev pub IsFoundIn : Error → List BuildCause → Option (Box RefusedText Global) → Type 0
IsFoundIn e causes (Some t) = IsOneOf e causes (box_value t)
IsFoundIn e causes None = All (IsNotOf e) causes

-- ---- of documents

-- a text with its place, where a cause stands that the error names
abbrev pub IsTextWith : Place → List ℕ → DocumentCause → Error → RefusedText → Type 0
IsTextWith place reference cause e t = (place_in t.place ≡ place) × (string_bytes t.reference ≡ reference) × NamesDocument cause e

-- of a text that names nothing, or of none where the error names the cause of none
pub record IsOfMisnamed (ms : List Misnamed) (e : Error) (t : RefusedText) : Type 0 where
  pub misnamed : Misnamed
  pub among : Contains ms misnamed
  pub text : IsTextWith misnamed.place misnamed.reference misnamed.cause e t

abbrev pub IsMisnamedText : List Misnamed → Error → Option (Box RefusedText Global) → Type 0
IsMisnamedText ms e (Some t) = IsOfMisnamed ms e (box_value t)
IsMisnamedText ms e None = All (λ m. NamesDocument m.cause e → ⊥) ms

-- so of one that refers to what is not at hand
pub record IsOfAbsent (xs : List Absent) (e : Error) (t : RefusedText) : Type 0 where
  pub absent : Absent
  pub among : Contains xs absent
  pub text : IsTextWith absent.place absent.reference absent.want.cause e t

abbrev pub IsAbsentText : List Absent → Error → Option (Box RefusedText Global) → Type 0
IsAbsentText xs e (Some t) = IsOfAbsent xs e (box_value t)
IsAbsentText xs e None = All (λ a. NamesDocument a.want.cause e → ⊥) xs

-- of one or the other
abbrev pub IsTextAmong : List Misnamed → List Absent → Error → Option (Box RefusedText Global) → Type 0
IsTextAmong ms xs e (Some t) = IsOfMisnamed ms e (box_value t) ⊎ IsOfAbsent xs e (box_value t)
IsTextAmong ms xs e None = IsMisnamedText ms e None × IsAbsentText xs e None

-- the text of the documents at hand for which an error refuses them, where there is one
abbrev pub IsAt : Option (List Given) → Layer → List Given → Error → Option (Box RefusedText Global) → Type 0
IsAt metas first given e at = IsTextAmong (misnamed_given metas first given) (absent_given metas first given) e at
