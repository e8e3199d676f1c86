-- What a walk from a root says of two paths.
use Rattle.std.specs.Borrow.{Bor}
use Rattle.std.proofs.Common.{◌≡◌, ℕ, List, [], ◌∷◌, Bool, true, false, Err, sym, ap, subst, reverse}
use Rattle.serde_json.specs.Data.{Data}
use Rattle.serde_json.specs.View.{view}
use Rattle.json_values.specs.Parts.{Part}
use Rattle.json_values.specs.Pointers.{pointer_text}
use Rattle.schema_definitions.specs.Bearers.{Documents}
use Rattle.schema_definitions.specs.Lookup.{Target, LookupCause, lookup}
use Rattle.schema_meaning.specs.Places.{whole}
use Rattle.schema_definitions.specs.Sites.{Site, root_site}
use Rattle.schema_definitions.specs.Plain.{plain}
use Rattle.fault_checks.specs.Passed.{scope_of}
use Rattle.fault_checks.specs.Passed.{documents_at, Stands}
use Rattle.certificate_laws.specs.Spelled.{AreSpelled}
use Rattle.fault_checks.specs.declared.walk.Walk.{Walk}
use Rattle.fault_checks.specs.declared.walk.Step.TheVariants.{Answered}
use Rattle.fault_checks.specs.declared.checking.CheckAnswer.TheVariants as answer
use Rattle.fault_paths.specs.Texts.{text_left, IsNoPath}
use Rattle.schema_registries.specs.Roots.{Root, Patterns, Finds, IsSound}
use Rattle.schema_patterns.specs.Read.{reads}
use Rattle.schema_patterns.specs.declared.matches.Matches.{Matches}
use Rattle.meaning_laws.specs.MatchLaws.{SameOnTheWay}
use Rattle.meaning_laws.proofs.Others.{circular_by_other_matches, certified_by_other_matches}
use Rattle.schema_registries.specs.Answers.{ComesBack}
use Rattle.schema_registries.specs.Matched.{AreReadOf}
use Rattle.schema_registries.proofs.Found.{finds_one, leads_somewhere}
use Rattle.schema_registries.proofs.Matched.{same_matches}
use Rattle.fault_checks.specs.Checked.{IsChecked, DecidesRoot}
use Rattle.fault_checks.specs.Steps.{Passes}

pub decided_at : (w : Walk) (t : Target) (docs : Documents) (m : Bor Matches) (b : Bool) → documents_at w.site ≡ docs → w.site.matches ≡ m → Stands w.site (root_site t) → scope_of w.site.resolver ≡ t.base ∷ []
    → Passes w (Answered b) → DecidesRoot t docs m.now (view w.value.now) (text_left w.instance) (text_left w.evaluation) b
decided_at w t docs m b same matched stands scope p = record {
  decides = λ makes right straight.
      p.outcome (record { documents = docs; makes = makes; matches = reads m.now }) (root_site t)
      (record {
        documents = sym same;
        stands = stands;
        scope = sym scope;
        matches = ap (λ (m : Bor Matches). reads m.now) (sym matched);
        right = right;
      }) straight;
}

module _ (p : Patterns) (own : Documents) (base reference : List ℕ) (d : Data) (instance evaluation : List ℕ) where
  -- nothing was entered before it
  abbrev r : Root
  r = record { documents = own; base = base; reference = reference; before = [] }

  -- by matches that are the same on the way, the same is spelled, and references come back where they do
  module _ (matches other : List ℕ → List ℕ → Bool) (t : Target) (same : SameOnTheWay (plain r.documents p.makes matches) other (root_site t) (whole d)) where
    spelled_by : AreSpelled (plain r.documents p.makes matches) (root_site t) d instance evaluation → AreSpelled (plain r.documents p.makes other) (root_site t) d instance evaluation
    spelled_by c = record {
      instance_path = c.instance_path;
      evaluation_path = c.evaluation_path;
      chain = (certified_by_other_matches Site (plain r.documents p.makes matches) other (root_site t) (whole d) same c.instance_path c.evaluation_path).0 c.chain;
      instance_text = c.instance_text;
      evaluation_text = c.evaluation_text;
    }

    spelled_back : AreSpelled (plain r.documents p.makes other) (root_site t) d instance evaluation → AreSpelled (plain r.documents p.makes matches) (root_site t) d instance evaluation
    spelled_back c = record {
      instance_path = c.instance_path;
      evaluation_path = c.evaluation_path;
      chain = (certified_by_other_matches Site (plain r.documents p.makes matches) other (root_site t) (whole d) same c.instance_path c.evaluation_path).1 c.chain;
      instance_text = c.instance_text;
      evaluation_text = c.evaluation_text;
    }

    straight_by : (ComesBack p r matches t d → ⊥) → ComesBack p r other t d → ⊥
    straight_by straight back = straight ((circular_by_other_matches Site (plain r.documents p.makes matches) other (root_site t) (whole d) same).1 back)

  pub accepted_by : (t : Target) (m : Matches) → Finds r t → DecidesRoot t r.documents m d instance evaluation true → AreReadOf p r d m → IsSound p r
      → IsChecked p r d instance evaluation answer.Accepted
  accepted_by t m found h read sound = record {
    accepted = λ e matches target there finish straight.
        let same : t ≡ target = finds_one r t target found there in
        let on = same_matches p r d m read matches target there finish in
        (spelled_back matches (reads m) target on
        ((subst (λ u. DecidesRoot u r.documents m d instance evaluation true) same h).decides p.makes (record { none = λ cause w. sound.right target there cause w })
        (straight_by matches (reads m) target on straight)));
    refused = λ e. cc;
    circular = λ e. cc;
    unfinished = λ e. cc;
  }

  pub refused_by : (t : Target) (m : Matches) → Finds r t → DecidesRoot t r.documents m d instance evaluation false → AreReadOf p r d m → IsSound p r
      → IsChecked p r d instance evaluation answer.Refused
  refused_by t m found h read sound = record {
    accepted = λ e. cc;
    refused = λ e matches target there finish straight c.
        let same : t ≡ target = finds_one r t target found there in
        let on = same_matches p r d m read matches target there finish in
        (subst (λ u. DecidesRoot u r.documents m d instance evaluation false) same h).decides p.makes (record { none = λ cause w. sound.right target there cause w })
        (straight_by matches (reads m) target on straight) (spelled_by matches (reads m) target on c);
    circular = λ e. cc;
    unfinished = λ e. cc;
  }

  -- a text that is no path is none of a certificate's
  no_pointer : (t : List ℕ) → IsNoPath t → (path : List Part) → t ≡ pointer_text path → ⊥
  no_pointer t h [] e = h.empty e
  no_pointer t h (p ∷ path) e = h.slash _ e

  pub no_instance : IsNoPath instance → IsChecked p r d instance evaluation answer.Refused
  no_instance h = record {
    accepted = λ e. cc;
    refused = λ e matches target there finish straight c. no_pointer instance h (reverse c.instance_path) c.instance_text;
    circular = λ e. cc;
    unfinished = λ e. cc;
  }

  pub no_evaluation : IsNoPath evaluation → IsChecked p r d instance evaluation answer.Refused
  no_evaluation h = record {
    accepted = λ e. cc;
    refused = λ e matches target there finish straight c. no_pointer evaluation h (reverse c.evaluation_path) c.evaluation_text;
    circular = λ e. cc;
    unfinished = λ e. cc;
  }

  -- a root that leads nowhere is not sound
  pub not_found : (cause : LookupCause) → lookup r.documents r.base r.reference ≡ Err cause → IsSound p r → IsChecked p r d instance evaluation answer.Refused
  not_found cause e sound = absurd (leads_somewhere p r sound cause e)
