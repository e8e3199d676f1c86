-- Keywords by their name, what they ask and how they combine the answers, and the rule of each.
use Rattle.std.proofs.Common.{◌≡◌, ◌==◌, ◌&&◌, [], ℕ, List, Bool, true, false, Option, bytes_eq, codes, refl, sym, subst, arith}
use Rattle.std.proofs.lemmas.Slice.Eq.{bytes_eq-Decides}
use Rattle.std.proofs.lemmas.Bool.Decides.{nat_tests}
use Rattle.serde_json.specs.Data.{Data, null, boolean, number, string, array, object}
use Rattle.schema_meaning.specs.Keywords.{rule}
use Rattle.applicators.specs.Combining.{Combines}
use Rattle.applicators.specs.Forms.{Form, each_from, of_members, of_names, of_dependencies, of_value, of_condition, noted, value_in, shape_by, counts_each, asks_each, asks_all, asks_some_of, stands, named_in, IsBuilt}
use Rattle.applicators.specs.declared.combining.Combining.{Combining}
use Rattle.applicators.specs.declared.combining.Combining.TheVariants as code
use Rattle.applicators.proofs.ContainsLemmas.{contains_asks}

-- a keyword by its name, how it combines and what it asks
pub data IsKeyword {S : Type 0} : List ℕ → Combining → Form S → Type 0 where
  by_every : (k : List ℕ) (f : Form S) → asks_each f ≡ true → IsKeyword k code.Every f
  by_together : (k : List ℕ) (f : Form S) → asks_all f ≡ true → IsKeyword k code.Together f
  by_names : (k : List ℕ) (s : S) → IsKeyword k code.EachNamed (of_names s)
  by_some : (k : List ℕ) (f : Form S) → asks_some_of f ≡ true → IsKeyword k code.SomeBranch f
  by_one : (k : List ℕ) (f : Form S) → asks_some_of f ≡ true → IsKeyword k code.OneBranch f
  by_refusal : (k : List ℕ) (schema : Data) (s : S) → IsKeyword k code.Refusal (of_value schema s)
  counted_items : (least most : Option ℕ) (s : S) → IsKeyword (codes "contains") (code.Counted least most) (each_from 0 s)
  chosen_by : (s : S) (t e : Option S) → IsKeyword (codes "if") code.Conditional (of_condition s t e)

both_are : (b c : Bool) → (b && c) ≡ true → (b ≡ true) × (c ≡ true)
both_are true true h = (refl, refl)
both_are true false h = absurd (cc)
both_are false c h = absurd (cc)

module _ {S : Type 0} where
  called : (c : Combining) (f : Form S) (k l : List ℕ) → bytes_eq k l ≡ true → IsKeyword l c f → IsKeyword k c f
  called c f k l h is = subst (λ n. IsKeyword n c f) (sym ((bytes_eq-Decides k l).0 h)) is

  counts_from : (k : List ℕ) (least most : Option ℕ) (start : ℕ) (s : S) → (bytes_eq k (codes "contains") ≡ true) × ((start == 0) ≡ true) → IsKeyword k (code.Counted least most) (each_from start s)
  counts_from k least most start s w =
      let zeros : start ≡ 0 = grind (arith, nat_tests, w.1) in
      subst (λ n. IsKeyword k (code.Counted least most) (each_from n s)) (sym zeros) (called (code.Counted least most) (each_from 0 s) k _ w.0 (counted_items least most s))

  pub a_keyword : (k : List ℕ) (c : Combining) (f : Form S) → stands k c f ≡ true → IsKeyword k c f
  a_keyword k code.Every f h = by_every k f h
  a_keyword k code.Together f h = by_together k f h
  a_keyword k code.EachNamed (of_names s) h = by_names k s
  a_keyword k code.SomeBranch f h = by_some k f h
  a_keyword k code.OneBranch f h = by_one k f h
  a_keyword k code.Refusal (of_value schema s) h = by_refusal k schema s
  a_keyword k (code.Counted least most) (each_from start s) h = counts_from k least most start s (both_are (bytes_eq k (codes "contains")) (start == 0) h)
  a_keyword k code.Conditional (of_condition s t e) h = called code.Conditional (of_condition s t e) k _ h (chosen_by s t e)
  a_keyword k c f h = absurd (cc)

  pub each_counts : (f : Form S) → asks_each f ≡ true → counts_each f ≡ true
  each_counts (of_condition s t e) h = absurd (cc)
  each_counts f h = refl

  pub all_count : (f : Form S) → asks_all f ≡ true → counts_each f ≡ true
  all_count (of_condition s t e) h = absurd (cc)
  all_count f h = refl

  pub some_count : (f : Form S) → asks_some_of f ≡ true → counts_each f ≡ true
  some_count (of_condition s t e) h = absurd (cc)
  some_count f h = refl

  -- where one fault speaks for all, nothing is noted; where the answers are branches, the fault is of the value
  pub nothing_noted : (f : Form S) (d : Data) → asks_all f ≡ true → noted f d ≡ []
  nothing_noted (of_dependencies ps) d h = absurd (cc)
  nothing_noted f d h = refl

  pub none_noted : (f : Form S) (d : Data) → asks_some_of f ≡ true → noted f d ≡ []
  none_noted (of_dependencies ps) d h = absurd (cc)
  none_noted f d h = refl

  pub value_itself : (f : Form S) (d : Data) → asks_some_of f ≡ true → value_in f d ≡ d
  value_itself (of_members s) d h = absurd (cc)
  value_itself f d h = refl

module _ {S : Type 0} (matches : List ℕ → List ℕ → Bool) (s : S) (least most : Option ℕ) where
  counted_combines : (d : Data) → Combines (named_in matches (codes "contains") (each_from 0 s) d) d (code.Counted least most) (rule matches d (shape_by (codes "contains") (code.Counted least most) (each_from 0 s)))
  counted_combines null = (refl, refl, refl)
  counted_combines (boolean b) = (refl, refl, refl)
  counted_combines (number n) = (refl, refl, refl)
  counted_combines (string s) = (refl, refl, refl)
  counted_combines (array ds) = (refl, refl, refl, refl)
  counted_combines (object ms) = (refl, refl, refl)

module _ {S : Type 0} (matches : List ℕ → List ℕ → Bool) (d : Data) where
  pub built : (k : List ℕ) (c : Combining) (f : Form S) → IsKeyword k c f → IsBuilt matches d c f k
  built _ _ _ (by_every k f h) = record { combined = (refl, refl); asked = refl }
  built _ _ _ (by_together k f h) = record { combined = (refl, refl); asked = refl }
  built _ _ _ (by_names k s) = record { combined = refl; asked = refl }
  built _ _ _ (by_some k f h) = record { combined = (refl, value_itself f d h); asked = refl }
  built _ _ _ (by_one k f h) = record { combined = (refl, value_itself f d h); asked = refl }
  built _ _ _ (by_refusal k schema s) = record { combined = (refl, refl, refl); asked = refl }
  built _ _ _ (counted_items least most s) = record { combined = counted_combines matches s least most d; asked = sym (contains_asks d s least most) }
  built _ _ _ (chosen_by s t e) = record { combined = tt; asked = refl }
