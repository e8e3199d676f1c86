-- The patterns of schemas, as they are met and as they are put into a table.
use Rattle.std.specs.Prelude.{if◌then◌else◌, ◌≡◌, ◌⊎◌, ℕ, List, [], ◌++◌, map, Bool, true, false, bytes_eq, codes, Option, Some}
use Rattle.serde_json.specs.Data.{Data, null, boolean, number, string, array, object, Members, no_members, member}
use Rattle.serde_json.specs.Find.{as_str}
use Rattle.json_values.specs.Parts.{Part}
use Rattle.schema_drafts.specs.Counts.{counts}
use Rattle.schema_definitions.specs.Places.{Dialect}
use Rattle.schema_definitions.specs.Words.{listed}
use Rattle.schema_meaning.specs.Members.{In, is_listed}
use Rattle.schema_definitions.specs.Sites.{Site}
use Rattle.schema_definitions.specs.Rows.{Place, bad_pattern, names_of_object, has_reference}
use Rattle.applicators.specs.Made.{is_made_by, AreMade}
use Rattle.schema_patterns.specs.Tables.{texts_of_table, AreMadeBy}
use Rattle.schema_patterns.specs.declared.table.PatternTable.{PatternTable}
use Rattle.reached_sites.specs.Causes.{told_in, NamesCause}
use Rattle.reached_sites.specs.Places.{place_in}
use Rattle.reached_sites.specs.declared.cause.BuildCause.{BuildCause}
use Rattle.reached_sites.specs.declared.cause.BuildCause.TheVariants.{Memory}
use Rattle.reached_sites.specs.declared.pattern.Pattern.{Pattern}

abbrev pub text_of : Pattern → List ℕ
text_of q = q.text.now

abbrev pub texts_of : List Pattern → List (List ℕ)
texts_of qs = map text_of qs

-- the patterns that a member writes where it counts: the text of `pattern`, the names of `patternProperties`
abbrev pub written_by : List ℕ → Data → List (List ℕ)
written_by k d = if bytes_eq k (codes "pattern") then listed (as_str d) else (if bytes_eq k (codes "patternProperties") then names_of_object (Some d) else [])

abbrev pub written_members : Dialect → Members → Members → List (List ℕ)
written_members y all no_members = []
written_members y all (member k d ms) = (if counts y (has_reference all) k then written_by k d else []) ++ written_members y all ms

abbrev pub written_in : Dialect → Data → List (List ℕ)
written_in y null = []
written_in y (boolean b) = []
written_in y (number n) = []
written_in y (string t) = []
written_in y (array ds) = []
written_in y (object ms) = written_members y ms ms

-- those that a schema writes
abbrev pub written : Site → List (List ℕ)
written s = written_in s.dialect s.contents

abbrev pub place_with : Place → List Part → Place
place_with at parts = record { document = at.document; path = parts ++ at.path }

-- patterns of these texts were put behind others, each with the place where it stands
pub record Puts (at : Place) (parts : List ℕ → List Part) (texts : List (List ℕ)) (old new : List Pattern) : Type 0 where
  pub added : List Pattern
  pub grown : new ≡ old ++ added
  pub are : texts_of added ≡ texts
  pub places : (q : Pattern) → In q added → place_in q.place ≡ place_with at (parts (text_of q))

-- each pattern of a table finds what is known of its text, and is a literal form or one that the maker makes
pub record IsFilled {M : Type 0} (finds : M → List ℕ → Option Bool) (finished : List ℕ → List ℕ → Option Bool) (makes : List ℕ → Bool) (table : PatternTable M) : Type 0 where
  pub made : AreMadeBy finds finished table
  pub each : AreMade makes (texts_of_table table)

-- a list with more behind it
pub record IsFront {A : Type 0} (front whole : List A) : Type 0 where
  pub behind : List A
  pub is : whole ≡ front ++ behind

-- each of these texts is in a table
abbrev pub Holds : {M : Type 0} → PatternTable M → List (List ℕ) → Type 0
Holds table texts = (p : List ℕ) → In p texts → is_listed p (texts_of_table table) ≡ true

-- want of memory, or one of some patterns that is not made
abbrev pub RefusesPattern : (List ℕ → Bool) → List Pattern → BuildCause → Type 0
RefusesPattern makes qs e = (e ≡ Memory) ⊎ ((q : Pattern) × In q qs × (is_made_by makes (text_of q) ≡ false) × NamesCause (bad_pattern (place_in q.place)) e)

-- its text is told, and where it stands
abbrev pub TellsPattern : List Pattern → BuildCause → Type 0
TellsPattern qs e = (e ≡ Memory) ⊎ ((q : Pattern) × In q qs × NamesCause (bad_pattern (place_in q.place)) e × (told_in e ≡ text_of q))
