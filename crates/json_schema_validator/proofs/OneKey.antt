-- Two sites of one compile key answer alike.
use Rattle.std.proofs.Common.{◌≡◌, ◌∙◌, ◌≤◌, ℕ, List, [], ◌∷◌, Bool, true, false, if◌then◌else◌, map, option_map, Option, refl, sym, ap, ap₂, subst}
use Rattle.std.specs.List.{list_all}
use Rattle.serde_json.specs.Data.{depth}
use Rattle.json_values.specs.Parts.{Part}
use Rattle.schema_meaning.specs.Faults.{Faults}
use Rattle.schema_meaning.specs.Members.{Reordered, nothing_left, kept}
use Rattle.schema_meaning.specs.Places.{Spot}
use Rattle.schema_meaning.specs.Readings.{bags, unfolded}
use Rattle.schema_meaning.specs.Order.{SameOrOut}
use Rattle.schema_meaning.specs.Certificates.{Certificate}
use Rattle.schema_definitions.specs.Bearers.{Documents}
use Rattle.schema_definitions.specs.CompileKeys.{CompileKey, outermost_bearer}
use Rattle.schema_definitions.specs.Lookup.{Target}
use Rattle.schema_definitions.specs.Plain.{deepest, keywords_at, plain}
use Rattle.schema_definitions.specs.Scopes.{end_of_run}
use Rattle.schema_definitions.specs.Sites.{Site}
use Rattle.document_laws.specs.ScopeLaws.{IsPresent}
use Rattle.document_laws.specs.TargetLaws.{are_apart, contents_rise}
use Rattle.document_laws.proofs.Keys.{entered_is_present}
use Rattle.document_laws.proofs.Origins.{comes_lies}
use Rattle.linked_meanings.specs.Related.{AreRelated, AreRelatedButForPaths}
use Rattle.linked_meanings.specs.Moved.{moved}
use Rattle.linked_meanings.proofs.Certified.{related_certified}
use Rattle.linked_meanings.proofs.RelatedAnswers.{verdicts_related, related_alike}
use Rattle.reading_laws.specs.Keys.{key_of_site}
use Rattle.reading_laws.specs.SiteLaws.{AreAlike}
use Rattle.reading_laws.specs.Spelled.{spelled}
use Rattle.reading_laws.proofs.Alike.{itself}
use Rattle.reading_laws.proofs.Lying.{Lies, reached_lies}
use Rattle.reading_laws.proofs.Nested.{plain_nests}
use Rattle.reading_laws.proofs.One.{one_value, root_lies}
use Rattle.reading_laws.proofs.Reaching.{alike_reach_alike}
use Rattle.reading_laws.proofs.Reading.{alike_have_keywords}
use Rattle.schema_registries.specs.Roots.{site_behind}
use Rattle.graph_answers.specs.Linking.{as_spelled}
use Rattle.graph_answers.proofs.SpelledAnswers.{spelled_unfolded}
use Rattle.json_schema_validator.specs.OneKey.{IsSomewhere, TellTheSame, OneKeyTellsTheSame, OneKeyWithoutAnchors}

same-order : {A : Type 0} (xs : List A) → Reordered xs xs
same-order [] = nothing_left
same-order (x ∷ xs) = kept (same-order xs)

module _ (docs : Documents) (makes : List ℕ → Bool) where
  -- ---- of one key

  behind-present : (before : List (List ℕ)) (t : Target) → IsPresent (site_behind before t).base (site_behind before t).scope
  behind-present [] t = refl
  behind-present (u ∷ us) t = entered_is_present t.base u (u ∷ us) refl

  present : (s : Site) → IsSomewhere docs makes s → IsPresent s.base s.scope
  present s x =
      let root = site_behind x.before x.root in
      (alike_reach_alike docs makes root root (itself docs root (behind-present x.before x.root)) s x.reached).2.here

  lies : (s : Site) → IsSomewhere docs makes s → Lies docs s
  lies s x = reached_lies docs makes (site_behind x.before x.root) s (record { origin = (root_lies docs x.root x.is_target).origin }) x.reached

  shallow : (s : Site) → IsSomewhere docs makes s → depth s.contents ≤ deepest docs
  shallow s x =
      let t : Target = record { document = s.document; path = s.path; contents = s.contents; base = s.base; dialect = s.dialect; is_place = false } in
      (comes_lies docs t (record { origin = (lies s x).origin })).shallow

  alike : are_apart docs ≡ true → list_all contents_rise docs ≡ true → (s t : Site) → IsSomewhere docs makes s → IsSomewhere docs makes t
      → key_of_site docs s ≡ key_of_site docs t → AreAlike docs s t
  alike apart rise s t x y e =
      let document : s.document ≡ t.document = ap (λ (k : CompileKey). k.document) e in
      let path : s.path ≡ t.path = ap (λ (k : CompileKey). k.path) e in
      record {
        document = document;
        path = path;
        contents = one_value docs apart rise s t (lies s x) (lies t y) document path;
        base = ap (λ (k : CompileKey). k.base) e;
        dialect = ap (λ (k : CompileKey). k.dialect) e;
        road = ap (λ (k : CompileKey). k.schema_path) e;
        scope = ap (λ (k : CompileKey). k.scope) e;
        here = present s x;
        there = present t y;
      }

  -- ---- of what is alike

  module _ (matches : List ℕ → List ℕ → Bool) where
    same : AreRelatedButForPaths (plain docs makes matches) (plain docs makes matches) (AreAlike docs)
    same = record {
      matches = refl;
      keywords = λ s t a. record { order = keywords_at docs makes s; reordered = same-order (keywords_at docs makes s); same = alike_have_keywords docs makes s t a };
    }

    spelled-same : AreRelated (as_spelled docs makes matches) (as_spelled docs makes matches) (AreAlike docs)
    spelled-same = record { matches = refl; keywords = same.keywords; paths = λ s t a. a.road }

    faults-same : (n : ℕ) (s t : Site) (w : Spot) → AreAlike docs s t
        → SameOrOut (option_map (moved spelled) (unfolded bags (plain docs makes matches) n s w)) (option_map (moved spelled) (unfolded bags (plain docs makes matches) n t w))
    faults-same n s t w a =
        subst (λ (o : Option Faults). SameOrOut o (option_map (moved spelled) (unfolded bags (plain docs makes matches) n t w))) (sym (spelled_unfolded docs makes matches n s w))
        (subst (λ (o : Option Faults). SameOrOut (unfolded bags (as_spelled docs makes matches) n s w) o) (sym (spelled_unfolded docs makes matches n t w))
        ((related_alike (AreAlike docs) (as_spelled docs makes matches) (as_spelled docs makes matches) spelled-same n s t w a).1))

    certified-same : (s t : Site) (w : Spot) (i e : List Part) → AreAlike docs s t → depth t.contents ≤ deepest docs
        → Certificate (plain docs makes matches) s w i e → Certificate (plain docs makes matches) t w i e
    certified-same s t w i e a low c =
        let nests = plain_nests docs makes matches in
        (related_certified (AreAlike docs) (plain docs makes matches) (plain docs makes matches) same s t w i e a).0 nests.0 (subst (λ n. n ≤ deepest docs) (sym (nests.1 t)) low) c

    tell-the-same : (s t : Site) → AreAlike docs s t → depth t.contents ≤ deepest docs → TellTheSame docs makes matches s t
    tell-the-same s t a low = record {
      verdict = λ n w. verdicts_related (plain docs makes matches) (plain docs makes matches) (AreAlike docs) same n s t w a;
      faults = λ n w. faults-same n s t w a;
      certificates = λ w i e c. certified-same s t w i e a low c;
    }

pub one_key_tells_the_same : OneKeyTellsTheSame
one_key_tells_the_same docs apart rise makes s t x y e =
    let a = alike docs makes apart rise s t x y e in (a, λ matches. tell-the-same docs makes matches s t a (shallow docs makes t y))

pub one_key_without_anchors : OneKeyWithoutAnchors
one_key_without_anchors docs base left right none still =
    ap₂ (λ os u. record { bearers = os; run = u })
    (ap (map (outermost_bearer docs left)) none ∙ sym (ap (map (outermost_bearer docs right)) none))
    (ap (λ (b : Bool). if b then end_of_run docs base left else base) still ∙ sym (ap (λ (b : Bool). if b then end_of_run docs base right else base) still))
