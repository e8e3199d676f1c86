-- The questions that keywords ask: whether the schema at a site accepts the value, an item, a member or a member's name.
use Rattle.std.specs.Prelude.{ℕ, zero, suc, List, [], ◌∷◌, map, Bool, false, not, ◌||◌, Option, Some, None}
use Rattle.std.specs.List.{list_any, filter, flat_map}
use Rattle.serde_json.specs.Data.{Data, null, boolean, number, string, array, object, Items, no_items, item, Members, no_members, member}
use Rattle.serde_json.specs.Find.{get}
use Rattle.json_values.specs.Patterns.{matched}
use Rattle.schema_meaning.specs.Members.{is_listed}
use Rattle.json_values.specs.Parts.{Part, name, index}
use Rattle.schema_meaning.specs.Places.{Spot, Step, stay, to_item, to_member, to_name, after}

-- One question: the site of the schema asked, the step to the value, what the keyword adds to the road,
-- and whether it follows a reference.
pub record Question (S : Type 0) : Type 0 where
  pub site : S
  pub step : Step
  pub added : List Part
  pub follows : Bool

-- where the question is asked
abbrev pub asked_at : {S : Type 0} → Spot → Question S → Spot
asked_at w q = after w q.step q.added

abbrev pub question : {S : Type 0} → S → Step → List Part → Question S
question s step added = record { site = s; step = step; added = added; follows = false }

-- ---- the parts that a keyword adds to the road, last part first

abbrev pub at : List ℕ → List Part
at keyword = name keyword ∷ []

abbrev pub at_name : List ℕ → List ℕ → List Part
at_name keyword k = name k ∷ name keyword ∷ []

abbrev pub at_index : List ℕ → ℕ → List Part
at_index keyword i = index i ∷ name keyword ∷ []

-- ---- the value itself

abbrev pub here : {S : Type 0} → List ℕ → S → Question S
here keyword s = question s stay (at keyword)

-- each of a list of schemas
abbrev pub each_branch : {S : Type 0} → List ℕ → ℕ → List S → List (Question S)
each_branch keyword i [] = []
each_branch keyword i (s ∷ ss) = question s stay (at_index keyword i) ∷ each_branch keyword (suc i) ss

-- ---- items

abbrev pub items_of : Data → Items
items_of null = no_items
items_of (boolean b) = no_items
items_of (number n) = no_items
items_of (string s) = no_items
items_of (array ds) = ds
items_of (object ms) = no_items

-- the items from the start-th on
abbrev pub items_from : ℕ → Items → Items
items_from start no_items = no_items
items_from zero (item d ds) = item d ds
items_from (suc start) (item d ds) = items_from start ds

-- each item by one schema; the first has index i
abbrev pub each_item : {S : Type 0} → List ℕ → S → ℕ → Items → List (Question S)
each_item keyword s i no_items = []
each_item keyword s i (item d ds) = question s (to_item i d) (at keyword) ∷ each_item keyword s (suc i) ds

-- each item by the schema of its own index
abbrev pub item_by_item : {S : Type 0} → List ℕ → List S → ℕ → Items → List (Question S)
item_by_item keyword [] i ds = []
item_by_item keyword (s ∷ ss) i no_items = []
item_by_item keyword (s ∷ ss) i (item d ds) = question s (to_item i d) (at_index keyword i) ∷ item_by_item keyword ss (suc i) ds

-- ---- members

abbrev pub listed_members : Members → List (List ℕ × Data)
listed_members no_members = []
listed_members (member k d ms) = (k, d) ∷ listed_members ms

abbrev pub members_of : Data → List (List ℕ × Data)
members_of null = []
members_of (boolean b) = []
members_of (number n) = []
members_of (string s) = []
members_of (array ds) = []
members_of (object ms) = listed_members ms

-- where there is a member of that name
abbrev pub if_member : {A : Type 0} → Option Data → (Data → List A) → List A
if_member None ask = []
if_member (Some e) ask = ask e

-- each declared member, by its name's schema
abbrev pub each_declared : {S : Type 0} → List ℕ → Data → List (List ℕ × S) → List (Question S)
each_declared keyword d ps = flat_map (λ p. if_member (get p.0 d) (λ e. question p.1 (to_member p.0 e) (at_name keyword p.0) ∷ [])) ps

-- each member whose name a pattern matches, by the pattern's schema
abbrev pub each_matching : {S : Type 0} → (List ℕ → List ℕ → Bool) → List ℕ → Data → List (List ℕ × S) → List (Question S)
each_matching matches keyword d ps =
    flat_map (λ p. map (λ m. question p.1 (to_member m.0 m.1) (at_name keyword p.0)) (filter (λ m. matched matches p.0 m.0) (members_of d))) ps

-- what `properties` and `patternProperties` beside `additionalProperties` declare
pub record Declared : Type 0 where
  pub names : List (List ℕ)
  pub patterns : List (List ℕ)

abbrev pub is_declared : (List ℕ → List ℕ → Bool) → Declared → List ℕ → Bool
is_declared matches declared k = is_listed k declared.names || list_any (λ p. matched matches p k) declared.patterns

-- the members that are not declared
abbrev pub other_members : (List ℕ → List ℕ → Bool) → Declared → Data → List (List ℕ × Data)
other_members matches declared d = filter (λ m. not (is_declared matches declared m.0)) (members_of d)

abbrev pub each_member : {S : Type 0} → List ℕ → S → List (List ℕ × Data) → List (Question S)
each_member keyword s ms = map (λ m. question s (to_member m.0 m.1) (at keyword)) ms

abbrev pub each_name : {S : Type 0} → List Part → S → List (List ℕ) → List (Question S)
each_name added s names = map (λ k. question s (to_name k) added) names

abbrev pub names_of : Data → List (List ℕ)
names_of d = map (λ m. m.0) (members_of d)

-- the object by the schema of each name that is a member
abbrev pub each_triggered : {S : Type 0} → List ℕ → Data → List (List ℕ × S) → List (Question S)
each_triggered keyword d ps = flat_map (λ p. if_member (get p.0 d) (λ e. question p.1 stay (at_name keyword p.0) ∷ [])) ps
