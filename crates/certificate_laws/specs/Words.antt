-- Texts of paths from some part on, and the keywords that are read.
use Rattle.std.specs.Prelude.{◌≡◌, ◌==◌, ℕ, List, [], ◌∷◌, Bool, ◌&&◌, ◌||◌, bytes_eq, codes, if◌then◌else◌}
use Rattle.std.specs.List.{slice_split}
use Rattle.json_values.specs.Pointers.{escape}
use Rattle.schema_meaning.specs.Members.{In}
use Rattle.schema_meaning.specs.Keywords.{named, reference_name, Form, by_pattern, of_others, of_condition, Shape, never, asserts, asks_every, asks_together, asks_names, asks_some, asks_one, asks_no, contains, condition, reference}

-- nothing is left, or a part is
pub data IsRest : List ℕ → Type 0 where
  nothing : IsRest []
  part : {t : List ℕ} → IsRest (47 ∷ t)

-- a text cut at each `/`, and what is left of a path cut behind its first part
abbrev pub cuts : List ℕ → List (List ℕ)
cuts t = slice_split (λ c. c == 47) t

abbrev pub cuts_behind : List ℕ → List (List ℕ)
cuts_behind [] = []
cuts_behind (b ∷ t) = cuts t

-- what is asked under the name of its keyword alone: the questions of `then` and `else` have names of their own
abbrev pub IsAskedBy : {S : Type 0} → List ℕ → List ℕ → Form S → Type 0
IsAskedBy k name (of_condition s t e) = ⊥
IsAskedBy k name form = name ≡ k

-- what goes by patterns is asked by these keywords alone
abbrev pub AsksPatternsBy : {S : Type 0} → List ℕ → Form S → Type 0
AsksPatternsBy k (by_pattern ps) = codes "patternProperties" ≡ k
AsksPatternsBy k (of_others declared s) = codes "additionalProperties" ≡ k
AsksPatternsBy k form = Unit {0}

-- a shape of a member of that name has patterns by it
abbrev pub HasPatternsBy : {S : Type 0} → List ℕ → Shape S → Type 0
HasPatternsBy k (asks_every name form) = AsksPatternsBy k form
HasPatternsBy k (asks_together name form) = AsksPatternsBy k form
HasPatternsBy k (asks_some name form) = AsksPatternsBy k form
HasPatternsBy k (asks_one name form) = AsksPatternsBy k form
HasPatternsBy k shape = Unit {0}

-- a shape of one of the keywords that are read and refuse under one name, by that
abbrev pub IsOf : {S : Type 0} → List ℕ → Shape S → Type 0
IsOf k never = ⊥
IsOf k (asserts a) = named a ≡ k
IsOf k (asks_every name form) = IsAskedBy k name form
IsOf k (asks_together name form) = IsAskedBy k name form
IsOf k (asks_names name s) = name ≡ k
IsOf k (asks_some name form) = IsAskedBy k name form
IsOf k (asks_one name form) = IsAskedBy k name form
IsOf k (asks_no name schema s) = name ≡ k
IsOf k (contains s least most) = ⊥
IsOf k (condition s t e) = ⊥
IsOf k (reference r s) = reference_name r ≡ k

-- the names of keywords that refuse under one of several: `contains` by the bound that is not kept, `if` by what it chooses
abbrev pub count_names : List (List ℕ)
count_names = codes "contains" ∷ codes "minContains" ∷ codes "maxContains" ∷ []

abbrev pub choice_names : List (List ℕ)
choice_names = codes "if" ∷ codes "then" ∷ codes "else" ∷ []

-- a shape that may refuse under a name
abbrev pub Bears : {S : Type 0} → List ℕ → Shape S → Type 0
Bears k never = ⊥
Bears k (asserts a) = named a ≡ k
Bears k (asks_every name form) = IsAskedBy k name form
Bears k (asks_together name form) = IsAskedBy k name form
Bears k (asks_names name s) = name ≡ k
Bears k (asks_some name form) = IsAskedBy k name form
Bears k (asks_one name form) = IsAskedBy k name form
Bears k (asks_no name schema s) = name ≡ k
Bears k (contains s least most) = In k count_names
Bears k (condition s t e) = In k choice_names
Bears k (reference r s) = reference_name r ≡ k

abbrev pub is_bound : List ℕ → Bool
is_bound n = bytes_eq n (codes "minContains") || bytes_eq n (codes "maxContains")

abbrev pub is_choice : List ℕ → Bool
is_choice n = bytes_eq n (codes "then") || bytes_eq n (codes "else")

-- the member whose keyword may refuse under a name: of Draft 4's strict limits that of the limit itself, of the bounds of `contains` that,
-- of `then` and `else` the `if` beside
abbrev pub member_of : Bool → List ℕ → List ℕ
member_of of_draft_4 n =
    if bytes_eq n (codes "exclusiveMaximum") && of_draft_4 then codes "maximum"
    else (if bytes_eq n (codes "exclusiveMinimum") && of_draft_4 then codes "minimum"
    else (if is_bound n then codes "contains" else (if is_choice n then codes "if" else n)))

-- a name that leads back to a member, and is written as it is
pub record LeadsBack (of_draft_4 : Bool) (member name : List ℕ) : Type 0 where
  pub of_member : member_of of_draft_4 name ≡ member
  pub plain : escape name ≡ name

-- a shape of the keyword of a member: each name under which it may refuse leads back to the member
pub record IsUnder {S : Type 0} (of_draft_4 : Bool) (member : List ℕ) (shape : Shape S) : Type 0 where
  pub name : List ℕ
  pub named : Bears name shape
  pub back : (n : List ℕ) → Bears n shape → LeadsBack of_draft_4 member n
