-- Which refusal names which cause.
use Rattle.std.specs.Prelude.{◌≡◌, ◌⊎◌, ℕ, List, [], ◌∷◌, Bool, Option, Some, string_bytes}
use Rattle.serde_json.specs.Data.{Data, string}
use Rattle.serde_json.specs.Find.{at, get}
use Rattle.serde_json.specs.View.{view}
use Rattle.schema_definitions.specs.Bearers.{Documents}
use Rattle.schema_definitions.specs.Lookup.{LookupCause}
use Rattle.document_sources.specs.Causes.{NamesLookup}
use Rattle.schema_meaning.specs.Members.{In}
use Rattle.schema_definitions.specs.BuildCauses.{IsCauseOf}
use Rattle.schema_definitions.specs.Sites.{Site}
use Rattle.schema_definitions.specs.Rows as rows
use Rattle.schema_definitions.specs.Rows.{keyword_value, bad_pattern, left_out, bad_reference}
use Rattle.reading_laws.specs.Keys.{Exceeds}
use Rattle.schema_reports.specs.Phrases.{IsSpelled, value}
use Rattle.schema_sites.specs.declared.keyword.Refusal.{Refusal}
use Rattle.schema_sites.specs.declared.keyword.Refusal.TheVariants as refusal
use Rattle.reached_sites.specs.Places.{place_in}
use Rattle.reached_sites.specs.declared.cause.BuildCause.{BuildCause}
use Rattle.reached_sites.specs.declared.cause.BuildCause.TheVariants.{KeywordValue, BadPattern, Unevaluated, Reference, NodeLimit, Memory}

-- what a refusal names
abbrev pub NamesCause : rows.BuildCause → BuildCause → Type 0
NamesCause cause (KeywordValue place expected found) = cause ≡ keyword_value (place_in place) expected.now
NamesCause cause (BadPattern place pattern) = cause ≡ bad_pattern (place_in place)
NamesCause cause (Unevaluated place) = cause ≡ left_out (place_in place)
NamesCause cause (Reference place reference error) = (why : LookupCause) × NamesLookup why error × (cause ≡ bad_reference (place_in place) why)
NamesCause cause (NodeLimit limit) = ⊥
NamesCause cause Memory = ⊥

-- what a cause tells beside that: a value as it is shown, a pattern, the text of a reference
abbrev pub told_in : BuildCause → List ℕ
told_in (KeywordValue place expected found) = string_bytes found
told_in (BadPattern place pattern) = string_bytes pattern
told_in (Unevaluated place) = []
told_in (Reference place reference error) = string_bytes reference
told_in (NodeLimit limit) = []
told_in Memory = []

-- what is told of a member's value: itself, the member or the item of it that is refused, what a reference leads to, or a reference's text
abbrev pub Tells : Data → Refusal → List ℕ → Type 0
Tells d (refusal.Value expected) text = IsSpelled (value d) text
Tells d (refusal.Entry n expected) text = (part : Data) → get n.now d ≡ Some part → IsSpelled (value part) text
Tells d (refusal.Element i expected) text = (part : Data) → at i d ≡ Some part → IsSpelled (value part) text
Tells d (refusal.Target target) text = IsSpelled (value (view target.contents.now)) text
Tells d (refusal.Reference error) text = (reference : List ℕ) → d ≡ string reference → text ≡ reference
Tells d refusal.LeftOut text = Unit {0}
Tells d refusal.Memory text = Unit {0}

-- a refusal of an identifier: want of memory, or what is wrong with it
abbrev pub RefusesIdentifier : Site → BuildCause → Type 0
RefusesIdentifier s e = (e ≡ Memory) ⊎ ((cause : rows.BuildCause) × NamesCause cause e × In cause (rows.identifier_causes s))

-- its text is told
abbrev pub TellsIdentifier : Option (List ℕ) → BuildCause → Type 0
TellsIdentifier identifier e = (e ≡ Memory) ⊎ (identifier ≡ Some (told_in e))

-- a refusal of a root under a way to make patterns: want of memory, or a cause that stands there
abbrev pub RefusesRoot : Documents → (List ℕ → Bool) → Site → BuildCause → Type 0
RefusesRoot docs makes root e = (e ≡ Memory) ⊎ ((cause : rows.BuildCause) × NamesCause cause e × IsCauseOf docs makes root cause)

-- more compile keys than a limit are reached from a root
pub record IsExceeded (docs : Documents) (makes : List ℕ → Bool) (root : Site) (limit : ℕ) (e : BuildCause) : Type 0 where
  pub named : e ≡ NodeLimit limit
  pub exceeds : Exceeds docs makes (root ∷ []) limit

abbrev pub RefusesWithin : Documents → (List ℕ → Bool) → Site → ℕ → BuildCause → Type 0
RefusesWithin docs makes root limit e = IsExceeded docs makes root limit e ⊎ RefusesRoot docs makes root e
