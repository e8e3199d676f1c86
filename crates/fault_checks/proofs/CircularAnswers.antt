-- Where a check says that a value is circular, it is.
use Rattle.std.proofs.Common.{◌≡◌, ◌&&◌, ◌||◌, ℕ, List, [], ◌∷◌, Bool, true, false, true≢false, not, map, bytes_eq, string_bytes, Option, Some, None, refl, sym, ap, subst, ◌∙◌}
use Rattle.std.specs.List.{list_all}
use Rattle.std.proofs.lemmas.Slice.Eq.{bytes_eq-Decides}
use Rattle.serde_json.specs.Data.{Data}
use Rattle.json_values.specs.Patterns.{matched, known}
use Rattle.schema_meaning.specs.Members.{In, first, later, is_listed}
use Rattle.schema_meaning.specs.Places.{whole}
use Rattle.schema_definitions.specs.Bearers.{Documents}
use Rattle.schema_definitions.specs.Lookup.{Target}
use Rattle.schema_definitions.specs.Sites.{Site, root_site}
use Rattle.schema_definitions.specs.Plain.{plain}
use Rattle.schema_patterns.specs.Read.{reads, leaves, IsRead}
use Rattle.schema_patterns.specs.Texts.{texts_in}
use Rattle.schema_patterns.specs.declared.matches.Matches.{Matches}
use Rattle.meaning_laws.specs.MatchLaws.{SameOnTheWay}
use Rattle.meaning_laws.proofs.Others.{circular_by_other_matches}
use Rattle.reading_laws.proofs.Matched.{asked_matches_are_known}
use Rattle.schema_registries.specs.Roots.{Root, Patterns, Finds, IsSound, site_of_root}
use Rattle.schema_registries.specs.Answers.{Finish}
use Rattle.schema_registries.proofs.Found.{finds_one}
use Rattle.schema_registries.proofs.Matched.{same_matches}
use Rattle.fault_checks.specs.Scenes.{Scene}
use Rattle.fault_checks.specs.Circles.{RootComesBack}
use Rattle.fault_checks.specs.Finished.{leaves_none, leave_none}
use Rattle.fault_checks.specs.Checked.{AgreeWithKnown, AreReadFrom, DecidesRoot, IsChecked, SaysRoot}
use Rattle.fault_checks.specs.declared.reading.ReadMatches.{ReadMatches}
use Rattle.fault_checks.specs.declared.checking.CheckAnswer.{CheckAnswer}
use Rattle.fault_checks.specs.declared.checking.CheckAnswer.TheVariants as answer
use Rattle.fault_checks.proofs.CircularOrNot.{circular_there}
use Rattle.fault_checks.proofs.Checked.{accepted_by, refused_by}

-- ---- lists

both_true : (a b : Bool) → (a && b) ≡ true → (a ≡ true) × (b ≡ true)
both_true true true e = (refl, refl)
both_true true false e = cc
both_true false b e = cc

all_in : (f : List ℕ → Bool) (ts : List (List ℕ)) → list_all f ts ≡ true → (t : List ℕ) → In t ts → f t ≡ true
all_in f [] e t i = elim i [ ]
all_in f (_ ∷ ts) e t first = (both_true (f t) (list_all f ts) e).0
all_in f (u ∷ ts) e t (later i) = all_in f ts (both_true (f u) (list_all f ts) e).1 t i

listed_in : (t : List ℕ) (ts : List (List ℕ)) → is_listed t ts ≡ true → In t ts
listed_in t [] e = cc
listed_in t (u ∷ ts) e = by (bytes_eq t u) refl (λ f. listed_in t ts f)
  where
    by : (b : Bool) → bytes_eq t u ≡ b → (is_listed t ts ≡ true → In t ts) → In t (u ∷ ts)
    by true is rest = subst (λ (v : List ℕ). In t (v ∷ ts)) ((bytes_eq-Decides t u).0 is) first
    by false is rest = later (rest (sym (ap (λ b. b || is_listed t ts) is) ∙ e))

in_listed : (t : List ℕ) (ts : List (List ℕ)) → In t ts → is_listed t ts ≡ true
in_listed t [] i = elim i [ ]
in_listed t (_ ∷ ts) first = ap (λ b. b || is_listed t ts) ((bytes_eq-Decides t t).1 refl)
in_listed t (u ∷ ts) (later i) = by (bytes_eq t u) (in_listed t ts i)
  where
    by : (b : Bool) → is_listed t ts ≡ true → (b || is_listed t ts) ≡ true
    by true e = refl
    by false e = e

not_left : (b : Bool) → not b ≡ true → b ≡ false
not_left true e = cc
not_left false e = refl

-- ---- the matches that are asked for finished

finished_so : (o : Option Bool) (read left asked : Bool) → IsRead o read left → left ≡ false → ((answer : Bool) → o ≡ Some answer → asked ≡ answer) → o ≡ Some asked
finished_so (Some answer) read left asked is none agree = ap Some (sym (agree answer refl))
finished_so None read left asked is none agree = absurd (true≢false (sym is.1 ∙ none))

finish_by : (p : Patterns) (r : Root) (d : Data) (m : ReadMatches) → AreReadFrom p r d m → leave_none m.matches (map string_bytes m.patterns.items) (texts_in d) ≡ true
    → (matches : List ℕ → List ℕ → Bool) (target : Target) → Finds r target → AgreeWithKnown p r matches target d → Finish p r matches target d
finish_by p r d m from none matches target found agree = record {
  each = λ pattern text asked.
      let is = asked_matches_are_known r.documents p.makes (site_of_root r target) matches d pattern text asked in
      let listed = (from.hold target found).each asked.site is.reached asked.keyword asked.stands pattern is.pattern in
      let here = (from.read.hold target found).each asked.site is.reached asked.keyword asked.stands pattern is.pattern in
      let of_pattern = all_in (λ (q : List ℕ). leaves_none m.matches q (texts_in d)) (map string_bytes m.patterns.items) none pattern (listed_in pattern (map string_bytes m.patterns.items) listed) in
      let left = not_left (leaves m.matches pattern text) (all_in (λ (t : List ℕ). not (leaves m.matches pattern t)) (texts_in d) of_pattern text is.text) in
      finished_so (known p.finished pattern text) (matched (reads m.matches) pattern text) (leaves m.matches pattern text) (matched matches pattern text)
      (from.read.read.each pattern text here (in_listed text (texts_in d) is.text)) left (agree.agree pattern text asked);
}

-- ---- the answer

module _ (p : Patterns) (own : Documents) (base reference : List ℕ) (d : Data) (instance evaluation : List ℕ) where
  abbrev r : Root
  r = record { documents = own; base = base; reference = reference; before = [] }

  circular_by : (t : Target) (m : ReadMatches) → Finds r t → RootComesBack t r.documents m.matches d → leave_none m.matches (map string_bytes m.patterns.items) (texts_in d) ≡ true
      → AreReadFrom p r d m → IsSound p r → IsChecked p r d instance evaluation answer.Circular
  circular_by t m found h none from sound = record {
    accepted = λ e. cc;
    refused = λ e. cc;
    circular = λ e matches target there agree.
        let same : t ≡ target = finds_one r t target found there in
        let finish = finish_by p r d m from none matches target there agree in
        let on : SameOnTheWay (plain r.documents p.makes matches) (reads m.matches) (root_site target) (whole d) = same_matches p r d m.matches from.read matches target there finish in
        let x : Scene = record { documents = r.documents; makes = p.makes; matches = reads m.matches } in
        let back = circular_there x (root_site target) d ((subst (λ (u : Target). RootComesBack u r.documents m.matches d) same h).back p.makes (record { none = λ cause w. sound.right target there cause w })) in
        (circular_by_other_matches Site (plain r.documents p.makes matches) (reads m.matches) (root_site target) (whole d) on).1 back;
    unfinished = λ e. cc;
  }

  pub said_by : (t : Target) (m : ReadMatches) (a : CheckAnswer) → Finds r t → SaysRoot t r.documents m d instance evaluation a → AreReadFrom p r d m → IsSound p r
      → IsChecked p r d instance evaluation a
  said_by t m answer.Accepted found h from sound = accepted_by p own base reference d instance evaluation t m.matches found h from.read sound
  said_by t m answer.Refused found h from sound = refused_by p own base reference d instance evaluation t m.matches found h from.read sound
  said_by t m answer.Circular found h from sound = circular_by t m found h.0 h.1 from sound
  said_by t m answer.Unfinished found h from sound = absurd h

-- where references come back, nothing is decided
pub nothing_decided : (t : Target) (docs : Documents) (m : Matches) (d : Data) (instance evaluation : List ℕ) → RootComesBack t docs m d → DecidesRoot t docs m d instance evaluation false
nothing_decided t docs m d instance evaluation h = record { decides = λ makes right straight. absurd (h.back makes right straight) }
