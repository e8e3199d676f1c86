-- What a reading says of a member of a schema.
use Rattle.std.specs.Prelude.{◌≡◌, ℕ, List, [], ◌∷◌, Option, codes, Some, None, true, false, option_and_then, Result, Ok, Err}
use Rattle.serde_json.specs.Data.{Data, Items}
use Rattle.json_values.specs.Parts.{name}
use Rattle.schema_drafts.specs.declared.draft.Draft.{Draft}
use Rattle.schema_meaning.specs.Members.{In}
use Rattle.schema_definitions.specs.Rows.{Row, BuildCause, keyword_value, Context, place_at, at, beside, reads, assertion, asserted, unless_empty}
use Rattle.schema_definitions.specs.Values.{names_in, none_twice, if_none_twice}
use Rattle.assertions.specs.Texts.{texts_of}
use Rattle.assertions.specs.declared.names.NameList.{NameList}
use Rattle.assertions.specs.declared.names.NameList.TheVariants as list
use Rattle.assertions.specs.Shapes.{assertion_of}
use Rattle.assertions.specs.declared.assertion.Assertion.{Assertion}
use Rattle.assertions.specs.declared.reading.Reading.{Reading}
use Rattle.assertions.specs.declared.reading.Reading.TheVariants as reading

-- a cause of a row that has no shapes
pub record IsCause (cause : BuildCause) (row : Row) : Type 0 where
  pub stands : In cause row.causes
  pub alone : row.shapes ≡ []

-- what a reading says of the row of a keyword
abbrev pub ReadsAs : Context → List ℕ → Row → Reading → Type 0
ReadsAs c k row (reading.Read a) = row ≡ reads [] (assertion (assertion_of a))
ReadsAs c k row reading.Nothing = row ≡ reads [] []
ReadsAs c k row (reading.Value expected) = IsCause (keyword_value (place_at c (at k)) expected.now) row
ReadsAs c k row (reading.Entry n expected) = IsCause (keyword_value (place_at c (name n.now ∷ name k ∷ [])) expected.now) row

-- where it is read: in a draft, and for a limit with the strict one beside where that counts
pub record Surrounds (d : Draft) (strict : Option Data) (k : List ℕ) (c : Context) : Type 0 where
  pub draft : c.site.dialect.draft ≡ d
  pub maximum : k ≡ codes "maximum" → beside c (codes "exclusiveMaximum") ≡ strict
  pub minimum : k ≡ codes "minimum" → beside c (codes "exclusiveMinimum") ≡ strict

-- what an assertion that may have been read makes
abbrev pub Makes : Option Assertion → List ℕ → Reading → Type 0
Makes (Some a) word r = r ≡ reading.Read a
Makes None word (reading.Read a) = ⊥
Makes None word reading.Nothing = ⊥
Makes None word (reading.Value expected) = expected.now ≡ word
Makes None word (reading.Entry n expected) = ⊥

-- what is said of a list of names
abbrev pub IsNameList : Items → NameList → Type 0
IsNameList ds list.Unique = (names_in ds ≡ Some (texts_of ds)) × (none_twice (texts_of ds) ≡ true)
IsNameList ds list.Repeated = (names_in ds ≡ Some (texts_of ds)) × (none_twice (texts_of ds) ≡ false)
IsNameList ds list.Other = names_in ds ≡ None

-- the row of `required` at a list
abbrev pub required_names_row : Context → Items → Row
required_names_row c ds = asserted c (codes "required") (codes "unique names") unless_empty (option_and_then if_none_twice (names_in ds))

-- the cause that a reading names
abbrev pub cause_of : Context → List ℕ → Reading → Option BuildCause
cause_of c k (reading.Read a) = None
cause_of c k reading.Nothing = None
cause_of c k (reading.Value expected) = Some (keyword_value (place_at c (at k)) expected.now)
cause_of c k (reading.Entry n expected) = Some (keyword_value (place_at c (name n.now ∷ name k ∷ [])) expected.now)

-- entries refused for that cause among others
abbrev pub IsRefusedFor : {A : Type 0} → Option BuildCause → Result A (List BuildCause) → Type 0
IsRefusedFor None r = ⊥
IsRefusedFor (Some cause) (Ok x) = ⊥
IsRefusedFor (Some cause) (Err causes) = In cause causes

-- what a list makes of its entry: nothing where it is right
abbrev pub EntryMakes : NameList → List ℕ → Option Reading → Type 0
EntryMakes list.Unique n o = o ≡ None
EntryMakes list.Repeated n None = ⊥
EntryMakes list.Repeated n (Some (reading.Read a)) = ⊥
EntryMakes list.Repeated n (Some reading.Nothing) = ⊥
EntryMakes list.Repeated n (Some (reading.Value expected)) = ⊥
EntryMakes list.Repeated n (Some (reading.Entry m expected)) = (m.now ≡ n) × (expected.now ≡ codes "unique names")
EntryMakes list.Other n None = ⊥
EntryMakes list.Other n (Some (reading.Read a)) = ⊥
EntryMakes list.Other n (Some reading.Nothing) = ⊥
EntryMakes list.Other n (Some (reading.Value expected)) = expected.now ≡ codes "unique names"
EntryMakes list.Other n (Some (reading.Entry m expected)) = ⊥
