-- The obliged steps of an applicator are all of its questions, or none.
use Rattle.std.proofs.lemmas.Bool.Decides.{nat_tests}
use Rattle.std.proofs.Common.{◌≡◌, ◌==◌, ℕ, List, [], ◌∷◌, Bool, true, false, length, refl, arith}
use Rattle.serde_json.specs.Data.{Data}
use Rattle.json_values.specs.Parts.{Part}
use Rattle.schema_meaning.specs.Rules.{Rule, every, together, each_named, some_branch, one_branch, refusal, counted, asks, lone, obliged}
use Rattle.schema_meaning.specs.Keywords.{rule}
use Rattle.schema_definitions.specs.Sites.{Site}
use Rattle.applicators.specs.Shapes.{shape_of}
use Rattle.applicators.specs.Combining.{Named, Combines, counts_answers}
use Rattle.applicators.specs.Combined.{combining_of, named_of, is_by_answers}
use Rattle.applicators.specs.Applied.{Applicator}
use Rattle.applicators.specs.declared.combining.Combining.{Combining}
use Rattle.applicators.specs.declared.combining.Combining.TheVariants as code
use Rattle.applicators.proofs.CombinedLemmas.{follows}
use Rattle.fault_paths.specs.Obliged.{obliges_by, obliges}

abbrev pub AllOrNone : {A : Type 0} → Bool → List A → List A → Type 0
AllOrNone true all xs = xs ≡ all
AllOrNone false all xs = xs ≡ []

-- the only one of a list
by_lone : {A : Type 0} (xs : List A) (n : ℕ) → length xs ≡ n → (b : Bool) → b ≡ (n == 1) → AllOrNone b xs (lone xs)
by_lone [] n is true e = refl
by_lone [] n is false e = refl
by_lone (x ∷ []) n is true e = refl
by_lone (x ∷ []) n is false e = absurd (grind (arith, nat_tests))
by_lone (x ∷ y ∷ xs) n is true e = absurd (grind (arith, nat_tests))
by_lone (x ∷ y ∷ xs) n is false e = refl

all_or_none_by : {S : Type 0} (v : Named) (d : Data) (bs : List Bool) (c : Combining) (r : Rule S) (n : ℕ) → Combines v d c r → counts_answers c ≡ true → length (asks r) ≡ n
    → AllOrNone (obliges_by c n) (asks r) (obliged r bs)
all_or_none_by v d bs code.Every (every p notes qs) n h e is = refl
all_or_none_by v d bs code.Together (together p note qs) n h e is = refl
all_or_none_by v d bs code.EachNamed (each_named p s names) n h e is = refl
all_or_none_by v d bs code.SomeBranch (some_branch p qs) n h e is = by_lone qs n is (n == 1) refl
all_or_none_by v d bs code.OneBranch (one_branch p qs) n h e is = by_lone qs n is (n == 1) refl
all_or_none_by v d bs code.Refusal (refusal p schema q) n h e is = refl
all_or_none_by v d bs (code.Counted least most) (counted l m qs) n h e is = refl
all_or_none_by v d bs (code.Counted least most) (every p notes qs) n h e is = h.1
all_or_none_by v d bs code.Conditional r n h e is = absurd (cc)
all_or_none_by v d bs c r n h e is = elim h [ ]

abbrev rule_of : (List Part → Data → Site) → (List ℕ → List ℕ → Bool) → Data → Applicator → Rule Site
rule_of site matches d a = rule matches d (shape_of site a)

module _ (site : List Part → Data → Site) (matches : List ℕ → List ℕ → Bool) (d : Data) (bs : List Bool) where
  pub all_or_none : (a : Applicator) (n : ℕ) → is_by_answers a ≡ true → length (asks (rule_of site matches d a)) ≡ n
      → AllOrNone (obliges a n) (asks (rule_of site matches d a)) (obliged (rule_of site matches d a) bs)
  all_or_none a n h is = all_or_none_by (named_of matches a d) d bs (combining_of a) (rule_of site matches d a) n (follows site matches d a).combined h is
