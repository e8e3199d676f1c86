-- The form of an example: a schema as a list of sites, a value, and the faults that the standard finds in it.
use Prim.Native.String.{String as Quoted}
use Rattle.std.specs.Prelude.{◌≡◌, ◌==◌, ◌-◌, ℕ, zero, suc, negsuc, List, [], ◌∷◌, map, length, Option, Some, None, codes}
use Rattle.std.specs.List.{AllByRecursion, slice_split}
use Rattle.serde_json.specs.Data.{Data, number, string, array, object, unsigned, negative, Items, no_items, item, Members, no_members, member}
use Rattle.json_values.specs.Patterns.{Completion, reads_as}
use Rattle.json_values.specs.Parts.{Part, name, index}
use Rattle.json_values.specs.Pointers.{unescape_in_turn, index_of}
use Rattle.schema_meaning.specs.Places.{whole}
use Rattle.schema_meaning.specs.Faults.{Fault, fault, Kind, Faults, none, also, is_none, Branches, no_branch, branch}
use Rattle.schema_meaning.specs.Questions.{Declared}
use Rattle.schema_meaning.specs.Keywords.{Shape}
use Rattle.schema_meaning.specs.Readings.{Reading, told, bags, verdicts}

-- ---- values

abbrev pub natural : ℕ → Data
natural n = number (unsigned n)

-- the number -n, for n above 0
abbrev pub minus : ℕ → Data
minus n = number (negative (negsuc (n - 1)))

abbrev pub items_in : List Data → Items
items_in [] = no_items
items_in (d ∷ ds) = item d (items_in ds)

abbrev pub text : Quoted → Data
text t = string (codes t)

abbrev pub list_of : List Data → Data
list_of ds = array (items_in ds)

-- the members stand in the order of their names' bytes
abbrev pub members_in : List (Quoted × Data) → Members
members_in [] = no_members
members_in (m ∷ ms) = member (codes m.0) m.1 (members_in ms)

abbrev pub object_of : List (Quoted × Data) → Data
object_of ms = object (members_in ms)

-- ---- schemas: the sites are numbered in the order of their list, and the root is site 0

pub record Site : Type 0 where
  pub keywords : List (Shape ℕ)
  pub schema_path : List Part

abbrev pub turned : List Part → List Part → List Part
turned [] done = done
turned (p ∷ ps) done = turned ps (p ∷ done)

abbrev pub part_or : Part → Option ℕ → Part
part_or p None = p
part_or p (Some n) = index n

-- a part as a pointer writes it: what can be an index is one here
abbrev pub part_of : List ℕ → Part
part_of token = part_or (name (unescape_in_turn token)) (index_of token)

abbrev pub behind_first : List (List ℕ) → List (List ℕ)
behind_first [] = []
behind_first (t ∷ ts) = ts

-- the path that a pointer writes (RFC 6901, section 3), last part first
abbrev pub pointer : Quoted → List Part
pointer t = turned (map part_of (behind_first (slice_split (λ b. b == 47) (codes t)))) []

abbrev pub root : List (Shape ℕ) → Site
root keywords = record { keywords = keywords; schema_path = [] }

-- the schema at a path of its document
abbrev pub below : Quoted → List (Shape ℕ) → Site
below t keywords = record { keywords = keywords; schema_path = pointer t }

-- the names and patterns declared beside `additionalProperties`
abbrev pub declared : List (List ℕ) → List (List ℕ) → Declared
declared names patterns = record { names = names; patterns = patterns }

abbrev pub site_at : List Site → ℕ → Site
site_at [] n = root []
site_at (s ∷ ss) zero = s
site_at (s ∷ ss) (suc n) = site_at ss n

-- each site is a place of its own, and none nests deeper than there are sites
abbrev pub reading_of : List Site → Completion → Reading ℕ
reading_of sites matches = record {
  keywords = λ n. (site_at sites n).keywords;
  schema_path = λ n. (site_at sites n).schema_path;
  place = λ n. record { document = []; path = index n ∷ [] };
  matches = reads_as matches;
  nesting = length sites;
}

-- ---- faults: a bag, listed here in the order of the names of the keywords

-- where no reference leads to the keyword: the path of the value, and the keyword's
abbrev pub wrong_at : Kind → Data → Quoted → Quoted → Fault
wrong_at kind d instance keyword = fault kind d (pointer instance) (pointer keyword) (pointer keyword)

-- the path of the value, the keyword's in its document, and the road to the keyword
abbrev pub wrong_by : Kind → Data → Quoted → Quoted → Quoted → Fault
wrong_by kind d instance keyword road = fault kind d (pointer instance) (pointer keyword) (pointer road)

abbrev pub faults_in : List Fault → Faults
faults_in [] = none
faults_in (f ∷ fs) = also f (faults_in fs)

-- the faults of each branch in turn
abbrev pub branches_in : List (List Fault) → Branches
branches_in [] = no_branch
branches_in (fs ∷ rest) = branch (faults_in fs) (branches_in rest)

-- ---- examples

-- a value, and the faults that the standard finds in it
pub record Case : Type 0 where
  pub value : Data
  pub faults : Faults

-- a schema and values
pub record Example : Type 0 where
  pub schema : Reading ℕ
  pub cases : List Case

abbrev pub over : List Site → Reading ℕ
over sites = reading_of sites []

-- which pattern matches which text
abbrev pub matching : Completion → List Site → Reading ℕ
matching matches sites = reading_of sites matches

abbrev pub accepted : Data → Case
accepted d = record { value = d; faults = none }

abbrev pub refused : Data → List Fault → Case
refused d fs = record { value = d; faults = faults_in fs }

-- with few unfoldings these are the faults of the whole value by the root, and it is accepted where there are none
abbrev pub IsToldOf : Reading ℕ → Case → Type 0
IsToldOf r c = (told bags r 6 0 (whole c.value) ≡ Some c.faults) × (told verdicts r 6 0 (whole c.value) ≡ Some (is_none c.faults))

abbrev pub Holds : Example → Type 0
Holds e = AllByRecursion (IsToldOf e.schema) e.cases
