-- The names under which the shapes of a keyword may refuse.
use Rattle.std.proofs.Common.{◌≡◌, ◌∙◌, ℕ, List, [], ◌∷◌, Bool, true, false, ◌||◌, bytes_eq, codes, refl, sym, ap, subst}
use Rattle.std.specs.List.{AllByRecursion}
use Rattle.std.proofs.lemmas.Slice.Eq.{bytes_eq-Decides}
use Rattle.json_values.specs.Parts.{Part}
use Rattle.json_values.specs.Pointers.{escape}
use Rattle.serde_json.specs.Data.{Data}
use Rattle.schema_definitions.specs.Bearers.{Documents}
use Rattle.schema_meaning.specs.Members.{In, first, later, is_listed}
use Rattle.schema_meaning.specs.Keywords.{Shape, named, static, dynamic, recursive, reference_name}
use Rattle.schema_meaning.specs.Keywords as told
use Rattle.schema_definitions.specs.Sites.{Site, below}
use Rattle.applicators.specs.Shapes.{shape_of}
use Rattle.applicators.specs.Combined.{name_of, combining_of, asks_of}
use Rattle.applicators.specs.Applied as code
use Rattle.applicators.specs.Asks.{form_by}
use Rattle.applicators.specs.Forms.{Form, of_condition, counts_each, shape_by}
use Rattle.applicators.proofs.FormLemmas.{IsKeyword, by_every, by_together, by_names, by_some, by_one, by_refusal, counted_items, chosen_by, each_counts, all_count, some_count}
use Rattle.applicators.proofs.CombinedLemmas.{is_keyword}
use Rattle.applicators.specs.declared.combining.Combining.{Combining}
use Rattle.applicators.specs.declared.combining.Combining.TheVariants as combining
use Rattle.certificate_laws.specs.Words.{IsAskedBy, Bears, IsUnder, member_of, count_names, choice_names}
use Rattle.certificate_laws.proofs.Named.{listed_in}
use Rattle.fault_checks.specs.Passed.{Keyword, assertion_of, kind_of, row_of}
use Rattle.fault_checks.specs.Passed.{Nothing, Assertion, Pattern, If, Consequent, Applicator, Reference}
use Rattle.fault_checks.specs.Names.{bears, combining_bears, applicator_bears}

-- a shape that may refuse under a name, which is written as it is
pub record IsOwn (n : List ℕ) (shape : Shape Site) : Type 0 where
  pub named : Bears n shape
  pub plain : escape n ≡ n

pub are_named : (n : List ℕ) (shapes : List (Shape Site)) → AllByRecursion (IsOwn n) shapes → AllByRecursion (Bears n) shapes
are_named n [] h = tt
are_named n (s ∷ shapes) h = (h.0.named, are_named n shapes h.1)

same_bytes : (k n : List ℕ) → bytes_eq k n ≡ true → k ≡ n
same_bytes k n e = (bytes_eq-Decides k n).0 e

bytes_same : (k n : List ℕ) → k ≡ n → bytes_eq k n ≡ true
bytes_same k n e = (bytes_eq-Decides k n).1 e

or_later : (b c : Bool) → c ≡ true → (b || c) ≡ true
or_later true c e = refl
or_later false c e = e

in_listed : (k : List ℕ) (names : List (List ℕ)) → In k names → is_listed k names ≡ true
in_listed k [] i = elim i [ ]
in_listed _ (n ∷ names) first = ap (λ (b : Bool). b || is_listed n names) (bytes_same n n refl)
in_listed k (n ∷ names) (later i) = or_later (bytes_eq k n) (is_listed k names) (in_listed k names i)

module _ (old : Bool) (member n : List ℕ) where
  owned : (shape : Shape Site) → IsUnder old member shape → Bears n shape → IsOwn n shape
  owned shape u g = record { named = g; plain = (u.back n g).plain }

  -- the keyword's own name is that of its member
  to_own : (k : List ℕ) (shape : Shape Site) → IsUnder old member shape → Bears k shape → member_of old k ≡ k → bytes_eq member n ≡ true → k ≡ n
  to_own k shape u g own e = sym own ∙ (u.back k g).of_member ∙ same_bytes member n e

  of_own : (k : List ℕ) (shape : Shape Site) → IsUnder old member shape → Bears k shape → member_of old k ≡ k → k ≡ n → bytes_eq member n ≡ true
  of_own k shape u g own e = bytes_same member n (sym (u.back k g).of_member ∙ own ∙ e)

  reference_member : (r : told.Reference) → member_of old (reference_name r) ≡ reference_name r
  reference_member static = refl
  reference_member dynamic = refl
  reference_member recursive = refl

  -- where answers are combined so, a keyword of this name may refuse under the name
  abbrev BearsBy : List ℕ → Combining → Type 0
  BearsBy k combining.Every = k ≡ n
  BearsBy k combining.Together = k ≡ n
  BearsBy k combining.EachNamed = k ≡ n
  BearsBy k combining.SomeBranch = k ≡ n
  BearsBy k combining.OneBranch = k ≡ n
  BearsBy k combining.Refusal = k ≡ n
  BearsBy k (combining.Counted least most) = In n count_names
  BearsBy k combining.Conditional = In n choice_names

  named_by : (c : Combining) (k : List ℕ) → combining_bears c k n ≡ true → BearsBy k c
  named_by combining.Every k e = same_bytes k n e
  named_by combining.Together k e = same_bytes k n e
  named_by combining.EachNamed k e = same_bytes k n e
  named_by combining.SomeBranch k e = same_bytes k n e
  named_by combining.OneBranch k e = same_bytes k n e
  named_by combining.Refusal k e = same_bytes k n e
  named_by (combining.Counted least most) k e = listed_in n count_names e
  named_by combining.Conditional k e = listed_in n choice_names e

  bears_by : (c : Combining) (k : List ℕ) → BearsBy k c → combining_bears c k n ≡ true
  bears_by combining.Every k e = bytes_same k n e
  bears_by combining.Together k e = bytes_same k n e
  bears_by combining.EachNamed k e = bytes_same k n e
  bears_by combining.SomeBranch k e = bytes_same k n e
  bears_by combining.OneBranch k e = bytes_same k n e
  bears_by combining.Refusal k e = bytes_same k n e
  bears_by (combining.Counted least most) k e = in_listed n count_names e
  bears_by combining.Conditional k e = in_listed n choice_names e

  as_asked : (k : List ℕ) (f : Form Site) → counts_each f ≡ true → IsAskedBy n k f ≡ (k ≡ n)
  as_asked k (of_condition s t e) h = absurd (cc)
  as_asked k f h = refl

  as_combined : (k : List ℕ) (c : Combining) (f : Form Site) → IsKeyword k c f → Bears n (shape_by k c f) ≡ BearsBy k c
  as_combined _ _ _ (by_every k f h) = as_asked k f (each_counts f h)
  as_combined _ _ _ (by_together k f h) = as_asked k f (all_count f h)
  as_combined _ _ _ (by_names k s) = refl
  as_combined _ _ _ (by_some k f h) = as_asked k f (some_count f h)
  as_combined _ _ _ (by_one k f h) = as_asked k f (some_count f h)
  as_combined _ _ _ (by_refusal k schema s) = refl
  as_combined _ _ _ (counted_items least most s) = refl
  as_combined _ _ _ (chosen_by s t e) = refl

  module _ (site : List Part → Data → Site) (a : code.Applicator) where
    same_bears : Bears n (shape_of site a) ≡ BearsBy (name_of a) (combining_of a)
    same_bears = as_combined (name_of a) (combining_of a) (form_by site (name_of a) (asks_of a)) (is_keyword site a)

    applied_named : applicator_bears a n ≡ true → Bears n (shape_of site a)
    applied_named e = subst (λ (T : Type 0). T) (sym same_bears) (named_by (combining_of a) (name_of a) e)

    applied_bears : Bears n (shape_of site a) → applicator_bears a n ≡ true
    applied_bears g = bears_by (combining_of a) (name_of a) (subst (λ (T : Type 0). T) same_bears g)

  -- the shapes of a keyword that may refuse under the name
  pub own_named : (k : Keyword) (docs : Documents) (s : Site) → AllByRecursion (IsUnder old member) (row_of docs s k).shapes → bears k member n ≡ true
      → AllByRecursion (IsOwn n) (row_of docs s k).shapes
  own_named Nothing docs s h e = tt
  own_named (Assertion a) docs s h e = (owned _ h.0 (same_bytes (named (assertion_of a)) n e), tt)
  own_named (Pattern p) docs s h e = (owned _ h.0 (to_own (codes "pattern") _ h.0 refl refl e), tt)
  own_named (If schema then_schema else_schema) docs s h e = (owned _ h.0 (listed_in n choice_names e), tt)
  own_named (Consequent k schema) docs s h e = tt
  own_named (Applicator a) docs s h e = (owned _ h.0 (applied_named (below docs s) a e), tt)
  own_named (Reference by text target) docs s h e =
      (owned _ h.0 (to_own (reference_name (kind_of by)) _ h.0 refl (reference_member (kind_of by)) e), tt)

  -- and the keyword that a shape of it tells
  pub named_own : (k : Keyword) (docs : Documents) (s : Site) (shape : Shape Site) → In shape (row_of docs s k).shapes → AllByRecursion (IsUnder old member) (row_of docs s k).shapes
      → Bears n shape → bears k member n ≡ true
  named_own Nothing docs s shape i h g = elim i [ ]
  named_own (Assertion a) docs s _ first h g = bytes_same (named (assertion_of a)) n g
  named_own (Assertion a) docs s shape (later i) h g = elim i [ ]
  named_own (Pattern p) docs s _ first h g = of_own (codes "pattern") _ h.0 refl refl g
  named_own (Pattern p) docs s shape (later i) h g = elim i [ ]
  named_own (If schema then_schema else_schema) docs s _ first h g = in_listed n choice_names g
  named_own (If schema then_schema else_schema) docs s shape (later i) h g = elim i [ ]
  named_own (Consequent k schema) docs s shape i h g = elim i [ ]
  named_own (Applicator a) docs s _ first h g = applied_bears (below docs s) a g
  named_own (Applicator a) docs s shape (later i) h g = elim i [ ]
  named_own (Reference by text target) docs s _ first h g = of_own (reference_name (kind_of by)) _ h.0 refl (reference_member (kind_of by)) g
  named_own (Reference by text target) docs s shape (later i) h g = elim i [ ]
