-- What is told of a value under documents to which others are added.
use Rattle.std.proofs.Common.{◌≡◌, ◌+◌, ◌*◌, ◌∙◌, ℕ, suc, List, [], ◌∷◌, Bool, Some, refl, sym, ap, subst, arith, map}
use Rattle.std.specs.List.{flat_map}
use Rattle.serde_json.specs.Data.{Data}
use Rattle.schema_meaning.specs.Members.{In}
use Rattle.schema_meaning.specs.Places.{Spot, Key, whole}
use Rattle.schema_meaning.specs.Questions.{Question}
use Rattle.schema_meaning.specs.Keywords.{Shape, rule}
use Rattle.schema_meaning.specs.Readings.{Reading, Telling, told, Asks, IsTold}
use Rattle.schema_meaning.specs.Circular.{Leads, starts, inside, follows, IsCircular}
use Rattle.schema_meaning.specs.Cut.{cut, left}
use Rattle.schema_definitions.specs.Bearers.{Documents}
use Rattle.schema_definitions.specs.Lookup.{Target}
use Rattle.schema_definitions.specs.Sites.{Site, root_site}
use Rattle.schema_definitions.specs.Rows.{Row}
use Rattle.schema_definitions.specs.BuildCauses.{Reached}
use Rattle.schema_definitions.specs.Plain.{deepest, keywords_at, plain}
use Rattle.schema_definitions.specs.AllKeys.{keys_of}
use Rattle.meaning_laws.specs.Laws.{AreAlike}
use Rattle.meaning_laws.proofs.Alike.{cut_alike}
use Rattle.meaning_laws.proofs.Stays.{decided_stays}
use Rattle.reading_laws.proofs.Reached.{led_is_reached}
use Rattle.reading_laws.proofs.Roots.{plain_is_decided, plain_is_deep_enough}
use Rattle.added_documents.specs.ReadingLaws.{StandsAlone, AnswersStay}
use Rattle.added_documents.proofs.Sites.{rows_stay, sites_stay}

-- one answer is decided at most
one_answer : {S A : Type 0} (t : Telling S A) (r : Reading S) (n m : ℕ) (s : S) (w : Spot) (x y : A) → told t r n s w ≡ Some x → told t r m s w ≡ Some y → x ≡ y
one_answer {S} {A} t r n m s w x y e f =
    let more : n + m ≡ m + n = omega arith in
    let both : Some y ≡ Some x =
    sym (decided_stays S A t r n m s w y f) ∙ ap (λ (k : ℕ). told t r k s w) more ∙ decided_stays S A t r m n s w x e in cc

module _ (old more new : Documents) (makes : List ℕ → Bool) (base reference : List ℕ) (root : Target) (a : StandsAlone old more new makes base reference root)
    (matches : List ℕ → List ℕ → Bool) where
  abbrev before : Reading Site
  before = plain old makes matches

  abbrev after : Reading Site
  after = plain new makes matches

  abbrev IsReached : Site → Type 0
  IsReached s = Reached old makes (root_site root) s

  same_keywords : (s : Site) → IsReached s → keywords_at new makes s ≡ keywords_at old makes s
  same_keywords s r = ap (λ (rows : List Row). flat_map (λ w. w.shapes) rows) (rows_stay old more new makes base reference root a s r)

  module _ (d : Data) where
    chain_reached : (keys : List Key) (s : Site) (w : Spot) → Leads before (root_site root) (whole d) keys s w → IsReached s
    chain_reached keys s w chain = led_is_reached old makes matches (root_site root) (whole d) keys s w chain

    alike : (keys : List Key) (s : Site) (w : Spot) → Leads before (root_site root) (whole d) keys s w → AreAlike before after s
    alike keys s w chain = record { keywords = sym (same_keywords s (chain_reached keys s w chain)); schema_path = refl; place = refl }

    -- ---- chains of questions

    asks_after : (s : Site) → IsReached s → (w : Spot) (q : Question Site) → Asks before s w q → Asks after s w q
    asks_after s r w q h = record {
      keyword = h.keyword;
      stands = subst (λ (ks : List (Shape Site)). In h.keyword (map (rule matches w.value) ks)) (sym (same_keywords s r)) h.stands;
      asked = h.asked;
    }

    asks_before : (s : Site) → IsReached s → (w : Spot) (q : Question Site) → Asks after s w q → Asks before s w q
    asks_before s r w q h = record {
      keyword = h.keyword;
      stands = subst (λ (ks : List (Shape Site)). In h.keyword (map (rule matches w.value) ks)) (same_keywords s r) h.stands;
      asked = h.asked;
    }

    forth : (keys : List Key) (s : Site) (w : Spot) → Leads before (root_site root) (whole d) keys s w → Leads after (root_site root) (whole d) keys s w
    forth _ _ _ starts = starts
    forth keys _ _ (inside {s = s} {w = w} chain q h e) = inside (forth keys s w chain) q (asks_after s (chain_reached keys s w chain) w q h) e
    forth _ _ _ (follows {keys = keys} {s = s} {w = w} chain q h e) = follows (forth keys s w chain) q (asks_after s (chain_reached keys s w chain) w q h) e

    back : (keys : List Key) (s : Site) (w : Spot) → Leads after (root_site root) (whole d) keys s w → Leads before (root_site root) (whole d) keys s w
    back _ _ _ starts = starts
    back keys _ _ (inside {s = s} {w = w} chain q h e) =
        let c = back keys s w chain in
        inside c q (asks_before s (chain_reached keys s w c) w q h) e
    back _ _ _ (follows {keys = keys} {s = s} {w = w} chain q h e) =
        let c = back keys s w chain in
        follows c q (asks_before s (chain_reached keys s w c) w q h) e

    circular_still : IsCircular before (root_site root) (whole d) → IsCircular after (root_site root) (whole d)
    circular_still c =
        record { key = c.key; keys = c.keys; site = c.site; spot = c.spot; chain = forth (c.key ∷ c.keys) c.site c.spot c.chain; again = c.again }

    circular : IsCircular after (root_site root) (whole d) → IsCircular before (root_site root) (whole d)
    circular c =
        record { key = c.key; keys = c.keys; site = c.site; spot = c.spot; chain = back (c.key ∷ c.keys) c.site c.spot c.chain; again = c.again }

    -- ---- answers

    module _ {A : Type 0} (t : Telling Site A) where
      same_cut : cut t after (keys_of new d) [] (root_site root) (whole d) ≡ cut t before (keys_of old d) [] (root_site root) (whole d)
      same_cut =
          let there = (sites_stay old more new makes base reference root a).builds.found in
          let x = suc (left [] (keys_of old d)) * suc (deepest old) in
          let y = suc (left [] (keys_of new d)) * suc (deepest new) in
          sym (plain_is_deep_enough A t new makes matches base reference root d there (x + y) (omega arith))
          ∙ sym (cut_alike Site A t before after (x + y) [] (root_site root) (whole d) refl alike)
          ∙ plain_is_deep_enough A t old makes matches base reference root d a.builds.found (x + y) (omega arith)

      same_told : (IsCircular before (root_site root) (whole d) → ⊥) → (x : A) → IsTold t before (root_site root) (whole d) x → IsTold t after (root_site root) (whole d) x
      same_told straight x h =
          let there = (sites_stay old more new makes base reference root a).builds.found in
          let now = plain_is_decided A t new makes matches base reference root d there (λ c. straight (circular c)) in
          let then = plain_is_decided A t old makes matches base reference root d a.builds.found straight in
          let one = one_answer t before then.unfoldings h.unfoldings (root_site root) (whole d) _ x then.is h.is in
          subst (λ (v : A). IsTold t after (root_site root) (whole d) v) (same_cut ∙ one) now

pub answers_stay : (A : Type 0) → AnswersStay A
answers_stay A t old more new makes base reference root a matches d = record {
  cut = same_cut old more new makes base reference root a matches d t;
  circular = circular old more new makes base reference root a matches d;
  circular_still = circular_still old more new makes base reference root a matches d;
  told = same_told old more new makes base reference root a matches d t;
}
