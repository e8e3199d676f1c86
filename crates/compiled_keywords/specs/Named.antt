-- The members' names that questions ask of.
use Rattle.std.specs.Prelude.{◌≡◌, ℕ, List, [], ◌∷◌, map, Bool, true, not, ◌||◌}
use Rattle.std.specs.Borrow.{Bor}
use Rattle.std.specs.BTreeSet.{BTreeSet, contains_by}
use Rattle.std.specs.Cmp.Lexicographic.{slice_cmp}
use Rattle.std.specs.List.{filter, flat_map, list_any}
use Rattle.std.specs.Ordering.{nat_cmp}
use Rattle.std.specs.declared.cmp.Ordering.{Ordering}
use Rattle.serde_json.specs.Data.{Data}
use Rattle.json_values.specs.Patterns.{matched}
use Rattle.schema_meaning.specs.Members.{is_listed}
use Rattle.schema_meaning.specs.Places.{Step, stay, to_item, to_member, to_name}
use Rattle.schema_meaning.specs.Questions.{Declared, names_of, other_members}
use Rattle.schema_engine.specs.Matches.{Answers}
use Rattle.schema_engine.specs.Questions.{Call, call_of}
use Rattle.schema_engine.specs.declared.place.Question.{Question}
use Rattle.applicators.specs.Forms.{Form, of_others}

abbrev pub member_in : Step → List (List ℕ)
member_in stay = []
member_in (to_item i d) = []
member_in (to_member k d) = k ∷ []
member_in (to_name k) = []

-- of one member after another
abbrev pub names_in : List Call → List (List ℕ)
names_in cs = flat_map (λ c. member_in c.step) cs

abbrev pub names_asked : List Question → List (List ℕ)
names_asked qs = names_in (map call_of qs)

-- by a form that asks of the members that are not declared, these are their names in order
abbrev pub AskOfOthers : {S : Type 0} → Answers → Form S → Data → List Question → Type 0
AskOfOthers m (of_others declared s) d qs = names_asked qs ≡ map (λ x. x.0) (other_members m declared d)
AskOfOthers m form d qs = Unit {0}

-- of a member they ask just where a pattern that is declared matches its name
pub record AskWhereMatched (m : Answers) (declared : Declared) (d : Data) (qs : List Question) : Type 0 where
  pub each : (name : List ℕ) → is_listed name (names_of d) ≡ true
      → is_listed name (names_asked qs) ≡ list_any (λ p. matched m p name) declared.patterns

-- the form asks of those members of which they leave to ask
abbrev pub LeaveOthers : {S : Type 0} → Answers → Form S → Data → List Question → Type 0
LeaveOthers m (of_others declared s) d qs = AskWhereMatched m declared d qs
LeaveOthers m form d qs = ⊥

-- ---- names in a set

-- the order of a name and one that is kept
abbrev pub beside : List ℕ → Bor (List ℕ) → Ordering
beside name kept = slice_cmp nat_cmp name kept.now

abbrev pub is_kept : List ℕ → BTreeSet (Bor (List ℕ)) → Bool
is_kept name set = contains_by (beside name) set

-- they are those of the list
abbrev pub AreKept : BTreeSet (Bor (List ℕ)) → List (List ℕ) → Type 0
AreKept set names = (name : List ℕ) → is_kept name set ≡ is_listed name names

-- the members whose names are neither in these nor in those
abbrev pub others_beside : List (List ℕ) → List (List ℕ) → List (List ℕ × Data) → List (List ℕ × Data)
others_beside names asked ms = filter (λ x. not (is_listed x.0 names || is_listed x.0 asked)) ms
