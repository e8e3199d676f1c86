-- Whether a reference accepts: as its target does, unless it is in progress.
use Rattle.std.proofs.Common.{◌≡◌, ◌<◌, ◌≤◌, ◌+◌, ◌*◌, ℕ, suc, List, ◌∷◌, Bool, true, false, None, refl, sym, ap, ap₂, ◌∙◌, subst, arith, map}
use Rattle.std.specs.Borrow.{Bor}
use Rattle.reading_laws.specs.NameLaws.{keys_among}
use Rattle.schema_patterns.specs.Read.{reads}
use Rattle.schema_patterns.specs.declared.matches.Matches.{Matches}
use Rattle.std.proofs.Math.Nat.{mul-le-mul_right}
use Rattle.std.proofs.Math.Logic.{∥∥₁_elim}
use Rattle.std.specs.Coded.{le_prop}
use Rattle.serde_json.specs.Data.{Data, null, boolean, number, string, array, object, depth}
use Rattle.serde_json.specs.View.{view}
use Rattle.json_values.specs.Parts.{Part, name}
use Rattle.schema_meaning.specs.Members.{In, first}
use Rattle.schema_meaning.specs.Places.{Spot, SchemaPlace, Key, stay}
use Rattle.schema_meaning.specs.Questions.{Question, at}
use Rattle.schema_meaning.specs.Cut.{is_in_progress}
use Rattle.meaning_laws.proofs.Keys.{left_falls}
use Rattle.schema_definitions.specs.Bearers.{Documents}
use Rattle.schema_definitions.specs.Lookup.{Target}
use Rattle.schema_definitions.specs.Sites.{Site, target_site}
use Rattle.schema_definitions.specs.Plain.{deepest}
use Rattle.schema_definitions.specs.AllKeys.{spots_in, places_of}
use Rattle.document_laws.specs.TargetLaws.{place_of, Lies}
use Rattle.document_laws.proofs.Listed.{in_map, in_flat_map}
use Rattle.schema_sites.specs.Passed.{base_of, scope_of}
use Rattle.schema_sites.specs.Seen.{documents_at, Stands}
use Rattle.schema_sites.specs.declared.site.Site as code
use Rattle.plain_reader.specs.Spots.{Spots, Within}
use Rattle.plain_reader.specs.Keys.{key}
use Rattle.plain_reader.specs.Settings.{Setting}
use Rattle.plain_reader.specs.Targets.{reference_leads, reference_questions}
use Rattle.plain_reader.specs.Verdicts.{Fits, room, Accepts, AreYes}
use Rattle.plain_reader.proofs.VerdictLemmas.{all_yes-one, led_to, key_of, answer_on}

-- ---- how deep a target may go

room_less : (a b m x y : ℕ) → a < b → x ≤ m → a * suc m + x < b * suc m + y
room_less a b m x y h i = let p : suc a * suc m ≤ b * suc m = mul-le-mul_right (suc m) h in omega (arith, p, i)

pub own_spot : (path : List Part) (d : Data) → In (path, None) (spots_in path d)
own_spot path null = first
own_spot path (boolean b) = first
own_spot path (number n) = first
own_spot path (string s) = first
own_spot path (array ds) = first
own_spot path (object ms) = first

known_key : (docs : Documents) (whole : Spots) (d : Data) (t : Target) (path : List Part) → Lies docs t → Within d path whole → In (key t.document t.path path) (keys_among docs whole)
known_key docs whole d t path lies within =
    let keys : SchemaPlace → List Key = λ p. map (λ spot. record { target = p; path = spot.0; called = spot.1 }) whole in
    in_flat_map keys (place_of t) (places_of docs) (key t.document t.path path) lies.place
    (in_map (λ spot. record { target = place_of t; path = spot.0; called = spot.1 }) (path, None) whole (within.spots (path, None) (own_spot path d)))

pub target_deeper : (docs : Documents) (whole : Spots) (d schema : Data) (t : Target) (path : List Part) (progress : List Key)
    → Lies docs t → ∥ Within d path whole ∥₁ → is_in_progress (key t.document t.path path) progress ≡ false
    → room docs whole (key t.document t.path path ∷ progress) t.contents < room docs whole progress schema
target_deeper docs whole d schema t path progress lies within new =
    ∥∥₁_elim within le_prop
    (λ w. room_less _ _ (deepest docs) _ _ (left_falls (key t.document t.path path) progress (keys_among docs whole) (known_key docs whole d t path lies w) new) lies.shallow)

-- ---- the question

module _ (c : code.Site) (whole : Spots) (d : Data) (path : List Part) (progress : List Key) (k text : List ℕ) (t : Target) where
  asks : Setting → Question Site
  asks x = record { site = target_site x.site text t; step = stay; added = at k; follows = true }

  same_key : (x : Setting) → Fits c d path progress x → key_of x (asks x) ≡ key t.document t.path path
  unfolding asks
  same_key x fits = ap (λ (w : Spot). record { target = place_of t; path = w.path; called = w.called }) fits.spot

  pub target_accepts : (b v : Bool) (inner : code.Site)
      → b ≡ is_in_progress (key t.document t.path path) progress → b ≡ false
      → documents_at inner ≡ documents_at c → inner.matches ≡ c.matches → t.contents ≡ view inner.contents.now
      → Lies (documents_at c) t → ∥ Within d path whole ∥₁
      → ((s : Site) → Stands inner (target_site s text t))
      → ((s : Site) → s.base ≡ base_of c.resolver → s.scope ≡ scope_of c.resolver → (target_site s text t).scope ≡ scope_of inner.resolver)
      → Accepts inner whole d path (key t.document t.path path ∷ progress) v
      → AreYes c whole d path progress (reference_leads text t) (reference_questions k text t) v
  unfolding asks
  target_accepts b v inner is go same_documents same_matches contents lies within stands scopes answer = record {
    is = λ x fits leads fit.
        let new_key : is_in_progress (key t.document t.path path) progress ≡ false = sym is ∙ go in
        let not_back : is_in_progress (key_of x (asks x)) x.keys ≡ false = ap₂ is_in_progress (same_key x fits) fits.keys ∙ new_key in
        let child : Setting = led_to x (asks x) (key_of x (asks x) ∷ x.keys) in
        let child_fits : Fits inner d path (key t.document t.path path ∷ progress) child = record {
          documents = fits.documents ∙ sym same_documents;
          stands = stands x.site;
          scope = scopes x.site fits.stands.base fits.scope;
          spot = ap (λ (w : Spot). record { value = w.value; path = w.path; called = w.called; road = name k ∷ w.road }) fits.spot;
          keys = ap₂ (λ (one : Key) (ks : List Key). one ∷ ks) (same_key x fits) fits.keys;
          matches = fits.matches ∙ ap (λ (m : Bor Matches). reads m.now) (sym same_matches);
          read = leads (target_site x.site text t) first;
        } in
        let deeper = target_deeper (documents_at c) whole d (view c.contents.now) t path progress lies within new_key in
        let less : room (documents_at inner) whole (key t.document t.path path ∷ progress) (view inner.contents.now) < x.depth =
        subst (λ (docs : Documents). room docs whole (key t.document t.path path ∷ progress) (view inner.contents.now) < x.depth) (sym same_documents)
        (subst (λ (e : Data). room (documents_at c) whole (key t.document t.path path ∷ progress) e < x.depth) contents (omega (arith, deeper, fit))) in
        all_yes-one x (asks x) ∙ answer_on x (asks x) refl not_back ∙ answer.is child child_fits less;
  }

-- ---- what the call asks

pub falls_by_target : (docs other : Documents) (whole : Spots) (t : Target) (u : List ℕ) (p path : List Part) (progress : List Key) (f schema : Data) → u ≡ t.document → p ≡ t.path
    → other ≡ docs → t.contents ≡ f → room docs whole (key t.document t.path path ∷ progress) t.contents < room docs whole progress schema
    → 12 * room other whole (key u p path ∷ progress) f + 11 < 12 * room docs whole progress schema + 3
falls_by_target docs other whole t u p path progress f schema document place same contents less =
    let keys : List Key = key t.document t.path path ∷ progress in
    let known : key u p path ∷ progress ≡ keys = ap₂ (λ (v : List ℕ) (q : List Part). key v q path ∷ progress) document place in
    let is : room other whole (key u p path ∷ progress) f ≡ room docs whole keys t.contents =
    ap (λ (ks : List Key). room other whole ks f) known ∙ ap₂ (λ (ds : Documents) (x : Data). room ds whole keys x) same (sym contents) in
    omega (arith, is, less)

pub shallow_by_target : (docs other : Documents) (t : Target) (f : Data) → other ≡ docs → t.contents ≡ f → Lies docs t
    → depth f ≤ deepest other
shallow_by_target docs other t f same contents lies =
    subst (λ (ds : Documents). depth f ≤ deepest ds) (sym same) (subst (λ (x : Data). depth x ≤ deepest docs) contents lies.shallow)

pub at_target_accepts : (inner : code.Site) (whole : Spots) (d : Data) (t : Target) (u : List ℕ) (p path : List Part) (progress : List Key) (v : Bool) → u ≡ t.document → p ≡ t.path
    → Accepts inner whole d path (key u p path ∷ progress) v → Accepts inner whole d path (key t.document t.path path ∷ progress) v
at_target_accepts inner whole d t u p path progress v document place answer =
    subst (λ (ks : List Key). Accepts inner whole d path ks v) (ap₂ (λ (v : List ℕ) (q : List Part). key v q path ∷ progress) document place) answer
