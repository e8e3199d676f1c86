-- The cut reading: it keeps the references in progress, and takes a return to a target at one place of the value as accepted.
-- It answers on every value; where no chain of references comes back, it gives the decided answer.
use Rattle.std.specs.Prelude.{◌≡◌, ◌*◌, ◌&&◌, ◌||◌, ◌==◌, ℕ, zero, suc, List, [], ◌∷◌, map, Bool, true, false, Option, Some, None, bytes_eq}
use Rattle.schema_meaning.specs.Members.{In}
use Rattle.json_values.specs.Parts.{Part, name, index}
use Rattle.schema_meaning.specs.Places.{Spot, Key}
use Rattle.schema_meaning.specs.Questions.{Question, asked_at}
use Rattle.schema_meaning.specs.Rules.{Rule, asks}
use Rattle.schema_meaning.specs.Readings.{Reading, rules, Telling, Asks}
use Rattle.schema_meaning.specs.Circular.{key_at, Leads}

-- ---- equality of keys

abbrev pub same_part : Part → Part → Bool
same_part (name a) (name b) = bytes_eq a b
same_part (name a) (index j) = false
same_part (index i) (name b) = false
same_part (index i) (index j) = i == j

abbrev pub same_path : List Part → List Part → Bool
same_path [] [] = true
same_path [] (q ∷ qs) = false
same_path (p ∷ ps) [] = false
same_path (p ∷ ps) (q ∷ qs) = same_part p q && same_path ps qs

abbrev pub same_name : Option (List ℕ) → Option (List ℕ) → Bool
same_name None None = true
same_name None (Some b) = false
same_name (Some a) None = false
same_name (Some a) (Some b) = bytes_eq a b

abbrev pub same_key : Key → Key → Bool
same_key k l = bytes_eq k.target.document l.target.document && same_path k.target.path l.target.path && same_path k.path l.path && same_name k.called l.called

abbrev pub is_in_progress : Key → List Key → Bool
is_in_progress k [] = false
is_in_progress k (l ∷ ks) = same_key k l || is_in_progress k ks

-- ---- the reading

abbrev pub cut_one : {S A : Type 0} → Telling S A → Spot → List Part → (Question S → A) → Rule S → A
cut_one t w above ask k = t.of_rule k w above (map ask (asks k))

abbrev pub cut_all : {S A : Type 0} → Telling S A → Spot → List Part → (Question S → A) → List (Rule S) → A
cut_all t w above ask ks = t.of_all (map (cut_one t w above ask) ks)

abbrev pub cut_unless : {A : Type 0} → Bool → A → A → A
cut_unless true back on = back
cut_unless false back on = on

abbrev pub cut_by_kind : {S A : Type 0} → Bool → Telling S A → Reading S → (List Key → S → Spot → A) → List Key → Spot → Question S → A
cut_by_kind true t r again ks w q = cut_unless (is_in_progress (key_at r w q) ks) (t.of_all []) (again (key_at r w q ∷ ks) q.site (asked_at w q))
cut_by_kind false t r again ks w q = again ks q.site (asked_at w q)

abbrev pub cut_asked : {S A : Type 0} → Telling S A → Reading S → (List Key → S → Spot → A) → List Key → Spot → Question S → A
cut_asked t r again ks w q = cut_by_kind q.follows t r again ks w q

-- at most n questions deep
unfoldable pub cut_within : {S A : Type 0} → Telling S A → Reading S → ℕ → List Key → S → Spot → A
cut_within t r zero ks s w = t.of_all []
cut_within t r (suc n) ks s w = cut_all t w (r.schema_path s) (cut_asked t r (cut_within t r n) ks w) (rules r s w.value)

-- ---- how deep is enough: each reference takes a key that was not in progress, and between two references schemas nest

abbrev pub one_unless : Bool → ℕ → ℕ
one_unless true n = n
one_unless false n = suc n

-- how many of the keys are not in progress
abbrev pub left : List Key → List Key → ℕ
left ks [] = 0
left ks (k ∷ all) = one_unless (is_in_progress k ks) (left ks all)

-- the cut reading where `all` has each key that a chain can take
unfoldable pub cut : {S A : Type 0} → Telling S A → Reading S → List Key → List Key → S → Spot → A
cut t r all ks s w = cut_within t r (suc (left ks all) * suc r.nesting) ks s w

-- each key that a chain from here takes is among them
pub record AreAll {S : Type 0} (r : Reading S) (from : S) (at : Spot) (all : List Key) : Type 0 where
  pub key : (keys : List Key) (s : S) (w : Spot) → Leads r from at keys s w → (q : Question S) → Asks r s w q → q.follows ≡ true → In (key_at r w q) all
