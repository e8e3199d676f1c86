-- The schemas that are read, and what that says of their members.
use Rattle.std.proofs.Common.{◌≡◌, ◌<◌, ◌≤◌, ◌||◌, ℕ, List, [], Bool, true, false, is_some, refl, sym, ap, arith, subst}
use Rattle.std.specs.List.{flat_map}
use Rattle.serde_json.specs.Data.{Data, object, Members, no_members, member, depth, members_depth}
use Rattle.json_values.specs.Patterns.{literal_of}
use Rattle.schema_meaning.specs.Members.{In, first, later}
use Rattle.schema_meaning.specs.Questions.{listed_members}
use Rattle.schema_definitions.specs.Bearers.{Documents}
use Rattle.schema_definitions.specs.Sites.{Site}
use Rattle.schema_definitions.specs.Rows.{Row, Context, row_at, rows_of, rows_at, rows_in}
use Rattle.schema_definitions.specs.BuildCauses.{Reached, at_root, by_keyword}
use Rattle.schema_definitions.specs.Plain.{keywords_at}
use Rattle.applicators.specs.Made.{AreMade}
use Rattle.plain_reader.specs.Verdicts.{AreRead}

-- ---- what is reached

pub reached_on : (docs : Documents) (makes : List ℕ → Bool) (s t u : Site) → Reached docs makes s t → Reached docs makes t u → Reached docs makes s u
reached_on docs makes s t u h at_root = h
reached_on docs makes s t u h (by_keyword {s = v} row w r i j) = by_keyword row w (reached_on docs makes s t v h r) i j

-- a site that a keyword leads to
pub read_on : (docs : Documents) (makes : List ℕ → Bool) (s : Site) (row : Row) (t : Site) → AreRead docs makes s → In row (rows_at docs makes s) → In t row.leads → AreRead docs makes t
read_on docs makes s row t read i j = record { right = λ u r. read.right u (reached_on docs makes s t u (by_keyword row t at_root i j) r) }

-- nothing is wrong with a row of it
pub right_here : (docs : Documents) (makes : List ℕ → Bool) (s : Site) (row : Row) → AreRead docs makes s → In row (rows_at docs makes s) → row.causes ≡ []
right_here docs makes s row read i = read.right s at_root row i

-- ---- patterns

pub none_to_make : {makes : List ℕ → Bool} → AreMade makes []
none_to_make = record { each = λ p i. elim i [ ] }

-- where the maker makes every pattern
pub all_made : (ps : List (List ℕ)) → AreMade (λ p. true) ps
all_made ps = record { each = λ p i. either (is_some (literal_of p)) }
  where
    either : (b : Bool) → (b || true) ≡ true
    either true = refl
    either false = refl

-- ---- rows

pub rows-of : (docs : Documents) (makes : List ℕ → Bool) (s : Site) (d : Data) → s.contents ≡ d
    → rows_at docs makes s ≡ rows_in s (λ ms. record { documents = docs; makes = makes; site = s; members = ms }) d
unfolding rows_at
rows-of docs makes s d e = ap (λ d. rows_in s (λ ms. record { documents = docs; makes = makes; site = s; members = ms }) d) e

pub keywords-of : (docs : Documents) (makes : List ℕ → Bool) (s : Site) (d : Data) → s.contents ≡ d
    → keywords_at docs makes s ≡ flat_map (λ r. r.shapes) (rows_in s (λ ms. record { documents = docs; makes = makes; site = s; members = ms }) d)
keywords-of docs makes s d e = ap (λ rs. flat_map (λ r. r.shapes) rs) (rows-of docs makes s d e)

pub row_listed : (x : Context) (ms : Members) (k : List ℕ) (d : Data) → In (k, d) (listed_members ms) → In (row_at x k d) (rows_of x ms)
row_listed x no_members k d i = elim i [ ]
row_listed x (member n c ms) k d first = first
row_listed x (member n c ms) k d (later i) = later (row_listed x ms k d i)

-- the row of a member of the schema
pub row_here : (docs : Documents) (makes : List ℕ → Bool) (s : Site) (ms : Members) (k : List ℕ) (d : Data) → s.contents ≡ object ms → In (k, d) (listed_members ms)
    → In (row_at (record { documents = docs; makes = makes; site = s; members = ms }) k d) (rows_at docs makes s)
row_here docs makes s ms k d is i =
    let x : Context = record { documents = docs; makes = makes; site = s; members = ms } in
    subst (λ rs. In (row_at x k d) rs) (sym (rows-of docs makes s (object ms) is)) (row_listed x ms k d i)

-- ---- depths

pub listed_depth : (ms : Members) (k : List ℕ) (d : Data) → In (k, d) (listed_members ms) → depth d ≤ members_depth ms
listed_depth no_members k d i = elim i [ ]
listed_depth (member n c ms) k d first = omega arith
listed_depth (member n c ms) k d (later i) = omega (arith, listed_depth ms k d i)

pub member_inside : (whole : Data) (ms : Members) (k : List ℕ) (d : Data) → whole ≡ object ms → In (k, d) (listed_members ms) → depth d < depth whole
member_inside whole ms k d is i = subst (λ w. depth d < depth w) (sym is) (omega (arith, listed_depth ms k d i))
