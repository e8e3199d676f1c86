-- How many of the answers to an applicator's questions are yes, and when that settles its verdict.
use Rattle.std.proofs.lemmas.Bool.Decides.{nat_tests}
use Rattle.std.proofs.Common.{◌≡◌, ◌≤◌, ◌<◌, ◌+◌, ◌&&◌, ◌==◌, ℕ, suc, nat_lt, nat_le, List, [], ◌∷◌, Bool, true, false, not, map, length, is_some, Option, Some, None, refl, sym, ap, subst, ◌∙◌, arith}
use Rattle.std.specs.Prelude.{if◌then◌else◌}
use Rattle.serde_json.specs.Data.{Data}
use Rattle.serde_json.specs.Find.{as_array}
use Rattle.json_values.specs.Parts.{Part}
use Rattle.schema_meaning.specs.Members.{first, later, one_if, count_true}
use Rattle.schema_meaning.specs.Places.{Key}
use Rattle.schema_meaning.specs.Rules.{Rule, every, counted, asks, accepts, is_enough}
use Rattle.schema_meaning.specs.Keywords.{rule}
use Rattle.schema_definitions.specs.Sites.{Site, below}
use Rattle.applicators.specs.Shapes.{shape_of}
use Rattle.applicators.specs.Combining.{Named, Combines, decided_by}
use Rattle.applicators.specs.Combined.{combining_of, named_of, is_every, is_by_answers, decided, Decides}
use Rattle.applicators.specs.Questions.{question_of, questions_of}
use Rattle.applicators.specs.Applied.{Applicator}
use Rattle.applicators.specs.declared.combining.Combining.{Combining}
use Rattle.applicators.specs.declared.combining.Combining.TheVariants as combining
use Rattle.applicators.specs.declared.question.Question.{Question}
use Rattle.applicators.proofs.CombinedLemmas.{follows, decides}
use Rattle.plain_reader.proofs.Plain.{once_plain}
use Rattle.schema_patterns.specs.Read.{reads}
use Rattle.schema_sites.specs.declared.site.Site as code
use Rattle.plain_reader.specs.Spots.{Spots}
use Rattle.plain_reader.specs.Settings.{answer_in}
use Rattle.plain_reader.specs.Verdicts.{ShapesAccept, AreYes}
use Rattle.plain_reader.specs.Applied.{applied_leads, applied_shapes, applied_questions, AreAsked, question_leads, one_question}
use Rattle.plain_reader.specs.Combined.{answers_in, settles, Counts}
use Rattle.plain_reader.proofs.VerdictLemmas.{all_accept-one}
use Rattle.plain_reader.proofs.QuestionVerdicts.{asked_there, answered, led_by}
use Rattle.plain_reader.proofs.Left.{CountLeft}

-- ---- when the verdict is settled

abbrev pub counts_lists : Combining → Bool
counts_lists (combining.Counted least most) = true
counts_lists c = false

still_all : (n m i asked : ℕ) → nat_lt n i ≡ true → i ≤ asked → m + i ≤ n + asked → n ≤ m → (n == asked) ≡ (m == asked)
still_all n m i asked less few most more = grind (arith, nat_tests)

still_some : (n m : ℕ) → nat_lt 0 n ≡ true → n ≤ m → nat_lt 0 n ≡ nat_lt 0 m
still_some n m some more = grind (arith, nat_tests)

still_several : (n m : ℕ) → nat_lt 1 n ≡ true → n ≤ m → (n == 1) ≡ (m == 1)
still_several n m several more = grind (arith, nat_tests)

still_enough : (least : Option ℕ) (n m : ℕ) → is_enough least n ≡ true → n ≤ m → is_enough least n ≡ is_enough least m
still_enough None n m enough more = grind (arith, nat_tests)
still_enough (Some least) n m enough more = grind (arith, nat_tests)

still_many : (most n m : ℕ) → nat_lt most n ≡ true → n ≤ m → nat_le n most ≡ nat_le m most
still_many most n m many more = grind (arith, nat_tests)

too_many : (a b : Bool) (most n : ℕ) → nat_lt most n ≡ true → (a && nat_le n most) ≡ (b && nat_le n most)
too_many a b most n many = let no : nat_le n most ≡ false = grind (arith, nat_tests) in ap (λ v. a && v) no ∙ neither a b ∙ ap (λ v. b && v) (sym no)
  where
    neither : (a b : Bool) → (a && false) ≡ (b && false)
    neither true true = refl
    neither true false = refl
    neither false true = refl
    neither false false = refl

in_list : (o p q r : Bool) (e : Bool) → e ≡ true → o ≡ p → (if e then o else q) ≡ (if e then p else r)
in_list o p q r true is same = same
in_list o p q r false is same = cc

-- by so many of the answers, whatever the others are; a count is of a list
settled_same : (c : Combining) (d : Data) (asked i n m : ℕ) → (counts_lists c ≡ true → is_some (as_array d) ≡ true) → settles c i n ≡ true → i ≤ asked → m + i ≤ n + asked → n ≤ m
    → decided_by c d asked n ≡ decided_by c d asked m
settled_same combining.Every d asked i n m list settled few most more = still_all n m i asked settled few most more
settled_same combining.Together d asked i n m list settled few most more = still_all n m i asked settled few most more
settled_same combining.EachNamed d asked i n m list settled few most more = still_all n m i asked settled few most more
settled_same combining.SomeBranch d asked i n m list settled few most more = still_some n m settled more
settled_same combining.OneBranch d asked i n m list settled few most more = still_several n m settled more
settled_same combining.Refusal d asked i n m list settled few most more = ap not (still_all n m i asked settled few most more)
settled_same (combining.Counted least None) d asked i n m list settled few most more =
    in_list _ _ _ _ (is_some (as_array d)) (list refl) (ap (λ v. v && true) (still_enough least n m settled more))
settled_same (combining.Counted least (Some bound)) d asked i n m list settled few most more =
    in_list _ _ _ _ (is_some (as_array d)) (list refl) (too_many (is_enough least n) (is_enough least m) bound n settled ∙ ap (λ v. is_enough least m && v) (still_many bound n m settled more))
settled_same combining.Conditional d asked i n m list settled few most more = still_all n m i asked settled few most more

-- ---- a count is of a list, where something is asked

listed_by : {S : Type 0} (w : Named) (d : Data) (c : Combining) (r : Rule S) → Combines w d c r → (asks r ≡ [] → ⊥) → counts_lists c ≡ true → is_some (as_array d) ≡ true
listed_by w d (combining.Counted least most) (counted l m qs) h some e = h.3
listed_by w d (combining.Counted least most) (every p notes qs) h some e = absurd (some h.1)
listed_by w d (combining.Counted least most) r h some e = elim h [ ]
listed_by w d c r h some e = cc

pub of_list : (matches : List ℕ → List ℕ → Bool) (a : Applicator) (d : Data) (qs : List Question) (site : List Part → Data → Site) → AreAsked matches a d qs → 0 < length qs → counts_lists (combining_of a) ≡ true
    → is_some (as_array d) ≡ true
of_list matches a d qs site are some e = listed_by (named_of matches a d) d (combining_of a) (rule matches d (shape_of site a)) (follows site matches d a).combined (λ none. nothing qs some (are site ∙ none)) e
  where
    nothing : (qs : List Question) → 0 < length qs → questions_of site qs ≡ [] → ⊥
    nothing [] some none = absurd (omega arith)
    nothing (q ∷ qs) some none = cc

-- ---- how many accept

not_more : (bs : List Bool) → count_true bs ≤ length bs
not_more [] = omega arith
not_more (true ∷ bs) = let more = not_more bs in omega arith
not_more (false ∷ bs) = let more = not_more bs in omega arith

pub map-length : {A B : Type 0} (f : A → B) (xs : List A) → length (map f xs) ≡ length xs
map-length f [] = refl
map-length f (x ∷ xs) = ap suc (map-length f xs)

module _ (c : code.Site) (whole : Spots) (d : Data) (path : List Part) (keys : List Key) (a : Applicator) (all : List Question) (are : AreAsked (reads c.matches.now) a d all) where
  pub count_first : CountLeft c whole d path keys a all all 0
  count_first = record {
    among = λ q i. i;
    left = λ x fits read enough.
        let same : count_true (answers_in a d x) ≡ count_true (map (answer_in x) (questions_of (below x.documents x.site) all)) =
        ap (λ qs. count_true (map (answer_in x) qs)) (sym (asked_there c whole d path keys a all are x fits)) in omega (arith, same);
  }

  one_more : (b : Bool) (n m : ℕ) → n + one_if b m ≡ one_if b n + m
  one_more true n m = omega arith
  one_more false n m = refl

  count_step : (rest : List Question) (q : Question) (n : ℕ) (b : Bool) → is_by_answers a ≡ true → AreYes c whole d path keys (question_leads q) (one_question q) b
      → CountLeft c whole d path keys a all (q ∷ rest) n → CountLeft c whole d path keys a all rest (one_if b n)
  count_step rest q n b by_answers answer l = record {
    among = λ p i. l.among p (later i);
    left = λ x fits read enough.
        let site = below x.documents x.site in
        let is : answer_in x (question_of site q) ≡ b =
        answered c whole d path keys q b answer x fits (led_by c whole d path keys a all are by_answers rest q x (l.among q first) read) enough in
        let more = count_true (map (answer_in x) (questions_of site rest)) in
        l.left x fits read enough ∙ ap (λ v. n + one_if v more) is ∙ one_more b n more;
  }

  pub count_yes : (rest : List Question) (q : Question) (n : ℕ) (b : Bool) → is_by_answers a ≡ true → AreYes c whole d path keys (question_leads q) (one_question q) b → b ≡ true
      → CountLeft c whole d path keys a all (q ∷ rest) n → CountLeft c whole d path keys a all rest (n + 1)
  count_yes rest q n b by_answers answer said_yes l =
      subst (λ m. CountLeft c whole d path keys a all rest m) (ap (λ v. one_if v n) said_yes ∙ more n) (count_step rest q n b by_answers answer l)
    where
      more : (n : ℕ) → suc n ≡ n + 1
      more n = omega arith

  pub count_no : (rest : List Question) (q : Question) (n : ℕ) (b : Bool) → is_by_answers a ≡ true → AreYes c whole d path keys (question_leads q) (one_question q) b → b ≡ false
      → CountLeft c whole d path keys a all (q ∷ rest) n → CountLeft c whole d path keys a all rest n
  count_no rest q n b by_answers answer said_no l = subst (λ m. CountLeft c whole d path keys a all rest m) (ap (λ v. one_if v n) said_no) (count_step rest q n b by_answers answer l)

  pub count_done : (n : ℕ) → CountLeft c whole d path keys a all [] n → Counts c whole d path keys a (length all) n
  count_done n l = record {
    counted = λ x fits read enough.
        let left : count_true (answers_in a d x) ≡ n + 0 = l.left x fits read enough in
        let same : n ≡ count_true (answers_in a d x) = omega arith in ap (decided a d (length all)) same;
  }

  pub count_settled : (rest : List Question) (i n : ℕ) (b : Bool) → b ≡ settles (combining_of a) i n → b ≡ true → i + length rest ≡ length all → i < length all
      → CountLeft c whole d path keys a all rest n → Counts c whole d path keys a (length all) n
  count_settled rest i n b is settled many inside l = record {
    counted = λ x fits read enough.
        let site = below x.documents x.site in
        let answers = map (answer_in x) (questions_of site rest) in
        let left : count_true (answers_in a d x) ≡ n + count_true answers = l.left x fits read enough in
        let some : 0 < length all = omega arith in
        let few : count_true answers ≤ length answers = not_more answers in
        let as_many : length answers ≡ length rest = map-length (answer_in x) (questions_of site rest) ∙ map-length (question_of site) rest in
        let within : i ≤ length all = omega arith in
        let most : count_true (answers_in a d x) + i ≤ n + length all = omega arith in
        let more : n ≤ count_true (answers_in a d x) = omega arith in
        settled_same (combining_of a) d (length all) i n (count_true (answers_in a d x)) (of_list (reads c.matches.now) a d all site are some) (sym is ∙ settled) within most more;
  }

  -- ---- the verdict

  pub combined_accepts : (n : ℕ) (b : Bool) → is_by_answers a ≡ true → is_every a ≡ false → Counts c whole d path keys a (length all) n → b ≡ decided a d (length all) n
      → ShapesAccept c whole d path keys (applied_leads a) (applied_shapes a) b
  combined_accepts n b by_answers once counts is = record {
    is = λ x fits read enough.
        let site = below x.documents x.site in
        let shape = shape_of site a in
        let answers = answers_in a d x in
        let many : length answers ≡ length all =
        map-length (answer_in x) (applied_questions a d x) ∙ ap length (sym (asked_there c whole d path keys a all are x fits)) ∙ map-length (question_of site) all in
        let verdict : Decides a d (length all) (count_true answers) b = decides a d (length all) (count_true answers) b (is ∙ counts.counted x fits read enough) in
        all_accept-one x shape
        ∙ ap (λ w. accepts (rule x.matches w.value shape) (map (answer_in x) (asks (rule x.matches w.value shape)))) fits.spot
        ∙ verdict.is by_answers (once_plain a once) site x.matches answers many refl;
  }
