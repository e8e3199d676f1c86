-- What a reading of schemas tells of a value: its verdict and its faults.
use Rattle.std.specs.Prelude.{◌≡◌, ◌<◌, ◌≤◌, ℕ, zero, suc, List, map, Bool, true, false, Option, Some, None, option_map}
use Rattle.serde_json.specs.Data.{Data}
use Rattle.schema_meaning.specs.Members.{In, all_true, all_known}
use Rattle.json_values.specs.Parts.{Part}
use Rattle.schema_meaning.specs.Places.{Spot, SchemaPlace}
use Rattle.schema_meaning.specs.Faults.{Faults, join}
use Rattle.schema_meaning.specs.Questions.{Question, asked_at}
use Rattle.schema_meaning.specs.Rules.{Rule, asks, accepts, faults}
use Rattle.schema_meaning.specs.Keywords.{Shape, rule}

-- What stands at each site: its keywords, its path in the schema (last part first) and its place in the documents.
-- `matches` tells which text matches which pattern, and no target of a reference nests deeper than `nesting`.
pub record Reading (S : Type 0) : Type 0 where
  pub keywords : S → List (Shape S)
  pub schema_path : S → List Part
  pub place : S → SchemaPlace
  pub matches : List ℕ → List ℕ → Bool
  pub nesting : ℕ

abbrev pub rules : {S : Type 0} → Reading S → S → Data → List (Rule S)
rules r s d = map (rule r.matches d) (r.keywords s)

-- What is told, of one keyword by what is told of its questions, and of all keywords together. The verdict and the faults
-- are told by one recursion; the evaluation of a schema can be told by it too.
pub record Telling (S A : Type 0) : Type 0 where
  pub of_rule : Rule S → Spot → List Part → List A → A
  pub of_all : List A → A

abbrev pub verdicts : {S : Type 0} → Telling S Bool
verdicts = record { of_rule = λ k w above bs. accepts k bs; of_all = all_true }

abbrev pub bags : {S : Type 0} → Telling S Faults
bags = record { of_rule = λ k w above answers. faults k w above answers; of_all = join }

-- of one keyword: out of unfoldings where any of its questions is
abbrev pub tell_one : {S A : Type 0} → Telling S A → Spot → List Part → (Question S → Option A) → Rule S → Option A
tell_one t w above ask k = option_map (t.of_rule k w above) (all_known (map ask (asks k)))

abbrev pub tell : {S A : Type 0} → Telling S A → Spot → List Part → (Question S → Option A) → List (Rule S) → Option A
tell t w above ask ks = option_map t.of_all (all_known (map (tell_one t w above ask) ks))

abbrev pub by_kind : {S A : Type 0} → Bool → (S → Spot → Option A) → (S → Spot → Option A) → S → Spot → Option A
by_kind true follow again s w = follow s w
by_kind false follow again s w = again s w

-- a reference is followed, another question is read where it stands
abbrev pub asked : {S A : Type 0} → (S → Spot → Option A) → (S → Spot → Option A) → Spot → Question S → Option A
asked follow again w q = by_kind q.follows follow again q.site (asked_at w q)

-- through so many levels of subschemas
unfoldable pub through : {S A : Type 0} → Telling S A → Reading S → (S → Spot → Option A) → ℕ → S → Spot → Option A
through t r follow zero s w = None
through t r follow (suc l) s w = tell t w (r.schema_path s) (asked follow (through t r follow l) w) (rules r s w.value)

-- What is told with n unfoldings: `None` is out of unfoldings. One is spent by each reference, and by nothing else.
unfoldable pub told : {S A : Type 0} → Telling S A → Reading S → ℕ → S → Spot → Option A
told t r zero s w = through t r (λ s w. None) (suc r.nesting) s w
told t r (suc n) s w = through t r (told t r n) (suc r.nesting) s w

-- The same with one unfolding spent by each question. What either decides, the other does, with the same answer.
unfoldable pub unfolded : {S A : Type 0} → Telling S A → Reading S → ℕ → S → Spot → Option A
unfolded t r zero s w = None
unfolded t r (suc n) s w = tell t w (r.schema_path s) (λ q. unfolded t r n q.site (asked_at w q)) (rules r s w.value)

-- ---- the verdict and the faults of a site at a spot are the decided ones

pub record IsTold {S A : Type 0} (t : Telling S A) (r : Reading S) (s : S) (w : Spot) (x : A) : Type 0 where
  pub unfoldings : ℕ
  pub is : told t r unfoldings s w ≡ Some x

-- ---- questions

-- the schema at the site asks this of the value
pub record Asks {S : Type 0} (r : Reading S) (s : S) (w : Spot) (q : Question S) : Type 0 where
  pub keyword : Rule S
  pub stands : In keyword (rules r s w.value)
  pub asked : In q (asks keyword)

-- subschemas nest: where no reference is followed, the site asked nests less; and no target of a reference nests deeper than the reading says
pub record IsNested {S : Type 0} (r : Reading S) : Type 0 where
  pub rank : S → ℕ
  pub shallow : (s : S) (w : Spot) (q : Question S) → Asks r s w q → q.follows ≡ true → rank q.site ≤ r.nesting
  pub falls : (s : S) (w : Spot) (q : Question S) → Asks r s w q → q.follows ≡ false → rank q.site < rank s
