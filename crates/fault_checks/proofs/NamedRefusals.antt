-- Under which name keywords refuse.
use Rattle.std.proofs.Common.{◌≡◌, ◌∙◌, ℕ, List, [], ◌∷◌, Bool, true, false, true≢false, suc, Option, None, Some, length, refl, sym, ap, ap₂, subst, arith, ◌&&◌}
use Rattle.std.proofs.lemmas.List.{length-map}
use Rattle.std.specs.List.{AllByRecursion}
use Rattle.serde_json.specs.Data.{Data}
use Rattle.json_values.specs.Parts.{Part}
use Rattle.schema_definitions.specs.Bearers.{Documents}
use Rattle.schema_meaning.specs.Members.{known_too, all_known, all_true, count_true, is_empty}
use Rattle.schema_meaning.specs.Places.{whole}
use Rattle.schema_meaning.specs.Questions.{at, asked_at}
use Rattle.schema_meaning.specs.Rules.{Rule, Note, every, together, each_named, some_branch, one_branch, refusal, counted, asks, accepts, refuses_at, count_refused_at}
use Rattle.schema_meaning.specs.Keywords.{rule}
use Rattle.schema_meaning.specs.Readings.{Reading, verdicts, told}
use Rattle.schema_meaning.specs.Certificates.{AreAnswers}
use Rattle.schema_definitions.specs.Sites.{Site, below}
use Rattle.applicators.specs.Shapes.{shape_of}
use Rattle.applicators.specs.Combining as by
use Rattle.applicators.specs.Combining.{Named, Combines, counts_answers}
use Rattle.applicators.specs.Combined.{name_of, combining_of, asks_of, named_of, is_by_answers, is_every, refused_name}
use Rattle.applicators.specs.Applied.{Applicator}
use Rattle.applicators.specs.Asks.{form_by}
use Rattle.applicators.specs.Combining.{tells_each}
use Rattle.applicators.specs.Forms.{Form, shape_by}
use Rattle.applicators.proofs.FormLemmas.{IsKeyword, counted_items, chosen_by}
use Rattle.applicators.specs.declared.combining.Combining.{Combining}
use Rattle.applicators.specs.declared.combining.Combining.TheVariants as combining
use Rattle.applicators.proofs.CombinedLemmas.{is_keyword, follows}
use Rattle.plain_reader.specs.Passed.{row_of}
use Rattle.plain_reader.specs.Passed as code
use Rattle.certificate_laws.specs.Words.{IsOf, Bears}
use Rattle.certificate_laws.proofs.Begun.{shape_begins}
use Rattle.certificate_laws.proofs.Listed.{each_in, in_mapped}
use Rattle.fault_checks.specs.Verdicts.{IsRefusal, IsRefusalAt}

-- ---- keywords that refuse under one name

one_name_of : (n k : List ℕ) (c : Combining) (f : Form Site) → IsKeyword k c f → tells_each c ≡ true → Bears n (shape_by k c f) → IsOf n (shape_by k c f)
one_name_of n _ _ _ (counted_items least most s) h g = cc
one_name_of n _ _ _ (chosen_by s t e) h g = cc
one_name_of n _ _ _ is h g = g

one_name : (site : List Part → Data → Site) (a : Applicator) (n : List ℕ) → is_every a ≡ true → Bears n (shape_of site a) → IsOf n (shape_of site a)
one_name site a n h g = one_name_of n (name_of a) (combining_of a) (form_by site (name_of a) (asks_of a)) (is_keyword site a) h g

-- of those that apply subschemas, the ones whose answers all have to be yes
abbrev pub HasOneName : code.Keyword → Type 0
HasOneName code.Nothing = Unit {0}
HasOneName (code.Assertion a) = Unit {0}
HasOneName (code.Pattern p) = Unit {0}
HasOneName (code.If schema then_schema else_schema) = ⊥
HasOneName (code.Consequent k schema) = Unit {0}
HasOneName (code.Applicator a) = is_every a ≡ true
HasOneName (code.Reference keyword text target) = Unit {0}

only_named : (k : code.Keyword) (n : List ℕ) (docs : Documents) (s : Site) → HasOneName k → AllByRecursion (Bears n) (row_of docs s k).shapes → AllByRecursion (IsOf n) (row_of docs s k).shapes
only_named code.Nothing n docs s one h = tt
only_named (code.Assertion a) n docs s one h = h
only_named (code.Pattern p) n docs s one h = h
only_named (code.If schema then_schema else_schema) n docs s one h = absurd one
only_named (code.Consequent k schema) n docs s one h = tt
only_named (code.Applicator a) n docs s one h = (one_name (below docs s) a n one h.0, tt)
only_named (code.Reference keyword text target) n docs s one h = h

pub under_name : (c : code.Site) (d : Data) (k : code.Keyword) (n : List ℕ) (b : Bool) → HasOneName k → IsRefusal c d k b → IsRefusalAt c d k n b
under_name c d k n true one h = record {
  decides = λ x s stage.
      let shapes = (row_of x.documents s k).shapes in
      let f = h.decides x s n stage in
      let shape = in_mapped (rule x.matches d) shapes f.2 in
      let named = each_in (IsOf n) shapes (only_named k n x.documents s one stage.named) shape.0 shape.1 in
      let at_k : refuses_at f.0 f.1 ≡ at n = subst (λ (r : Rule Site). refuses_at r f.1 ≡ at n) shape.2 ((shape_begins x.matches d n shape.0 named).own f.1) in
      (f.0, f.1, f.2, f.3, f.4, at_k);
}
under_name c d k n false one h = record { decides = λ x s stage f. h.decides x s n stage (f.0, f.1, f.2, f.3, f.4) }

-- ---- the name by the number of answers that are yes

known_length : {A : Type 0} (os : List (Option A)) (xs : List A) → all_known os ≡ Some xs → length xs ≡ length os
known_length [] xs e = cc
known_length (None ∷ os) xs e = cc
known_length {A} (Some y ∷ os) xs e = by (all_known os) (λ ys is. known_length os ys is) e
  where
    by : (rest : Option (List A)) → ((ys : List A) → rest ≡ Some ys → length ys ≡ length os) → known_too (Some y) rest ≡ Some xs → length xs ≡ length (Some y ∷ os)
    by None more f = cc
    by (Some ys) more f = (let same : y ∷ ys ≡ xs = cc in ap length (sym same) ∙ ap suc (more ys refl))

pub as_many_answers : (r : Reading Site) (d : Data) (k : Rule Site) (bs : List Bool) → AreAnswers r (whole d) k bs → length bs ≡ length (asks k)
as_many_answers r d k bs a = known_length _ bs a.are ∙ length-map (asks k) (λ q. told verdicts r a.unfoldings q.site (asked_at (whole d) q))

nothing_refused : (bs : List Bool) → length bs ≡ 0 → all_true bs ≡ false → ⊥
nothing_refused [] many wrong = true≢false wrong
nothing_refused (b ∷ bs) many wrong = absurd (omega (arith, many))

under_by : {S : Type 0} (v : Named) (d : Data) (bs : List Bool) (c : Combining) (r : Rule S) → Combines v d c r → counts_answers c ≡ true → length bs ≡ length (asks r) → accepts r bs ≡ false
    → refuses_at r bs ≡ at (by.refused_under v.name c (count_true bs))
under_by v d bs combining.Every (every p notes qs) h e many wrong = h.0
under_by v d bs combining.Together (together p note qs) h e many wrong = h.0
under_by v d bs combining.EachNamed (each_named p s names) h e many wrong = h
under_by v d bs combining.SomeBranch (some_branch p qs) h e many wrong = h.0
under_by v d bs combining.OneBranch (one_branch p qs) h e many wrong = h.0
under_by v d bs combining.Refusal (refusal p schema q) h e many wrong = h.0
under_by v d bs (combining.Counted least most) (counted l m qs) h e many wrong = ap₂ (λ x y. at (count_refused_at x y (count_true bs))) h.0 h.1
under_by v d bs (combining.Counted least most) (every p notes qs) h e many wrong =
    absurd (nothing_refused bs (many ∙ ap length h.1) (ap (λ (ns : List Note). is_empty ns && all_true bs) (sym h.0) ∙ wrong))
under_by v d bs combining.Conditional r h e many wrong = absurd (cc)
under_by v d bs c r h e many wrong = elim h [ ]

module _ (site : List Part → Data → Site) (matches : List ℕ → List ℕ → Bool) (bs : List Bool) where
  abbrev rule_of : Applicator → Data → Rule Site
  rule_of a d = rule matches d (shape_of site a)

  pub refused_under : (a : Applicator) (d : Data) → is_by_answers a ≡ true → length bs ≡ length (asks (rule_of a d)) → accepts (rule_of a d) bs ≡ false
      → refuses_at (rule_of a d) bs ≡ at (refused_name a (count_true bs))
  refused_under a d counts many wrong = under_by (named_of matches a d) d bs (combining_of a) (rule_of a d) (follows site matches d a).combined counts many wrong
