-- How an applicator combines the answers to its questions.
use Rattle.std.specs.Prelude.{◌≡◌, ℕ, List, Bool, true, false, not, ◌&&◌, length}
use Rattle.serde_json.specs.Data.{Data}
use Rattle.json_values.specs.Parts.{Part}
use Rattle.schema_definitions.specs.Sites.{Site}
use Rattle.schema_meaning.specs.Members.{count_true}
use Rattle.schema_meaning.specs.Questions.{at}
use Rattle.schema_meaning.specs.Rules.{every, asks, accepts, Note}
use Rattle.schema_meaning.specs.Keywords.{rule}
use Rattle.applicators.specs.Shapes.{shape_of}
pub use Rattle.applicators.specs.Applied.{name_of, combining_of, asks_of}
use Rattle.applicators.specs.declared.applicator.ApplicatorOf.{ApplicatorOf}
use Rattle.applicators.specs.Combining.{tells_each, tells_names, counts_answers, decided_by, refused_under, Named, Combines}
use Rattle.applicators.specs.Asks.{asked_by, may_note, noted_by, are_names, kind_asked, value_asked}
use Rattle.applicators.specs.Applied.{Applicator}

-- the name under which it refuses, where so many answers are yes
abbrev pub refused_name : {S L N P E V : Type 0} → ApplicatorOf S L N P E V → ℕ → List ℕ
refused_name a n = refused_under (name_of a) (combining_of a) n

-- whether its rule is `every`: nothing is noted of the value itself, and every answer is yes
abbrev pub is_every : {S L N P E V : Type 0} → ApplicatorOf S L N P E V → Bool
is_every a = tells_each (combining_of a)

-- whether it may note something of the value itself beside what it asks
abbrev pub has_notes : {S L N P E V : Type 0} → ApplicatorOf S L N P E V → Bool
has_notes a = tells_each (combining_of a) && may_note (asks_of a)

-- what it notes of the value itself: the names that are missing beside
abbrev pub notes_by : Applicator → Data → List Note
notes_by a d = noted_by (asks_of a) d

-- its rule, wherever its subschemas stand and whatever the value
abbrev pub IsEvery : Applicator → Type 0
IsEvery a = (site : List Part → Data → Site) (matches : List ℕ → List ℕ → Bool) (d : Data) → rule matches d (shape_of site a) ≡ every (at (name_of a)) (notes_by a d) (asks (rule matches d (shape_of site a)))

-- whether its verdict is by the number of answers that are yes and by what it notes of the value itself
abbrev pub is_by_answers : {S L N P E V : Type 0} → ApplicatorOf S L N P E V → Bool
is_by_answers a = counts_answers (combining_of a)

-- whether its questions ask the names of members
abbrev pub asks_names : {S L N P E V : Type 0} → ApplicatorOf S L N P E V → Bool
asks_names a = are_names (asks_of a)

-- whether its rule is `each_named`: every answer of a name is yes, and a name's faults are told of the object
abbrev pub is_each_named : {S L N P E V : Type 0} → ApplicatorOf S L N P E V → Bool
is_each_named a = tells_names (combining_of a)

-- whether its verdict is by the number of answers that are yes and by what it notes of the value itself, and its questions ask the
-- value, its items or its members
abbrev pub asks_values : {S L N P E V : Type 0} → ApplicatorOf S L N P E V → Bool
asks_values a = is_by_answers a && not (asks_names a)

-- whether a value is accepted of which so many questions are asked, so many of them answered yes; `contains` counts in lists alone
abbrev pub decided : {S L N P E V : Type 0} → ApplicatorOf S L N P E V → Data → ℕ → ℕ → Bool
decided a d n m = decided_by (combining_of a) d n m

-- the verdict, where so many questions are asked and so many of them are answered yes
pub record Decides (a : Applicator) (d : Data) (asked accepted : ℕ) (b : Bool) : Type 0 where
  pub is : is_by_answers a ≡ true → has_notes a ≡ false → (site : List Part → Data → Site) (matches : List ℕ → List ℕ → Bool) (bs : List Bool) → length bs ≡ asked → count_true bs ≡ accepted
      → accepts (rule matches d (shape_of site a)) bs ≡ b

-- what its rule at a value is made of beside its questions
abbrev pub named_of : (List ℕ → List ℕ → Bool) → Applicator → Data → Named
named_of matches a d = record { name = name_of a; notes = notes_by a d; note = record { kind = kind_asked matches (asks_of a) d; value = value_asked (asks_of a) d } }

-- it follows this rule, and asks so, wherever its subschemas stand and whatever the value
pub record Follows (a : Applicator) (site : List Part → Data → Site) (matches : List ℕ → List ℕ → Bool) (d : Data) : Type 0 where
  pub combined : Combines (named_of matches a d) d (combining_of a) (rule matches d (shape_of site a))
  pub asked : asks (rule matches d (shape_of site a)) ≡ asked_by site matches (name_of a) d (asks_of a)
