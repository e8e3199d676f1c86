-- What is said of a value by a root that stands alone is said where a document is added.
use Rattle.std.proofs.Common.{◌≡◌, ◌∙◌, ℕ, List, Bool, Ok, is_ok, map, sym, ap, subst}
use Rattle.std.specs.List.{flat_map}
use Rattle.serde_json.specs.Data.{Data}
use Rattle.schema_meaning.specs.Members.{In}
use Rattle.schema_meaning.specs.Places.{Spot, Key, whole}
use Rattle.schema_meaning.specs.Keywords.{Shape, rule}
use Rattle.schema_meaning.specs.Questions.{Question}
use Rattle.schema_meaning.specs.Readings.{Asks, bags}
use Rattle.schema_meaning.specs.Circular.{Leads, starts, inside, follows}
use Rattle.schema_meaning.specs.Faults.{Faults}
use Rattle.schema_definitions.specs.Bearers.{Documents}
use Rattle.schema_definitions.specs.Lookup.{Target}
use Rattle.schema_definitions.specs.Sites.{Site, root_site}
use Rattle.schema_definitions.specs.Rows.{Row}
use Rattle.schema_definitions.specs.BuildCauses.{Reached, IsCauseOf}
use Rattle.schema_definitions.specs.Plain.{keywords_at, plain}
use Rattle.reading_laws.specs.Asked.{IsAsked}
use Rattle.reading_laws.proofs.Reached.{led_is_reached}
use Rattle.added_documents.specs.ReadingLaws.{StandsAlone, SameSites, SameAnswer}
use Rattle.added_documents.proofs.Readings.{answers_stay}
use Rattle.added_documents.proofs.Sites.{sites_stay}
use Rattle.schema_registries.specs.Roots.{Patterns, Finds, IsSound}
use Rattle.schema_registries.specs.Answers.{Finish, ComesBack}
use Rattle.schema_validators.specs.Answered.{AreThose}
use Rattle.schema_validators.specs.Seen.{root_of}
use Rattle.json_schema_validator.specs.Answers.{IsTextOf}

module _ (p : Patterns) (old more new : Documents) (base reference : List ℕ) (root : Target) (alone : StandsAlone old more new p.makes base reference root) where
  stays : SameSites old new p.makes base reference root
  stays = sites_stay old more new p.makes base reference root alone

  abbrev IsReached : Site → Type 0
  IsReached s = Reached old p.makes (root_site root) s

  same_keywords : (s : Site) → IsReached s → keywords_at new p.makes s ≡ keywords_at old p.makes s
  same_keywords s r = ap (λ (rows : List Row). flat_map (λ w. w.shapes) rows) (stays.rows s r)

  -- a reference leads to the one root
  one_root : (target : Target) → Finds (root_of new base reference) target → root ≡ target
  one_root target finds = let both : Ok root ≡ Ok target = sym stays.builds.found ∙ finds in cc

  pub sound_still : IsSound p (root_of new base reference)
  sound_still = record {
    found = ap is_ok stays.builds.found;
    right = λ target finds cause.
        subst (λ (t : Target). IsCauseOf new p.makes (root_site t) cause → ⊥) (one_root target finds) (stays.builds.right cause);
  }

  module _ (matches : List ℕ → List ℕ → Bool) (d : Data) where
    asks_still : (s : Site) → IsReached s → (w : Spot) (q : Question Site) → Asks (plain old p.makes matches) s w q → Asks (plain new p.makes matches) s w q
    asks_still s r w q h = record {
      keyword = h.keyword;
      stands = subst (λ (ks : List (Shape Site)). In h.keyword (map (rule matches w.value) ks)) (sym (same_keywords s r)) h.stands;
      asked = h.asked;
    }

    abbrev LeadsIn : Documents → List Key → Site → Spot → Type 0
    LeadsIn docs keys s w = Leads (plain docs p.makes matches) (root_site root) (whole d) keys s w

    reached : (keys : List Key) (s : Site) (w : Spot) → LeadsIn old keys s w → IsReached s
    reached keys s w chain = led_is_reached old p.makes matches (root_site root) (whole d) keys s w chain

    leads_still : (keys : List Key) (s : Site) (w : Spot) → LeadsIn old keys s w → LeadsIn new keys s w
    leads_still _ _ _ starts = starts
    leads_still keys _ _ (inside {s = s} {w = w} chain q h e) = inside (leads_still keys s w chain) q (asks_still s (reached keys s w chain) w q h) e
    leads_still _ _ _ (follows {keys = keys} {s = s} {w = w} chain q h e) = follows (leads_still keys s w chain) q (asks_still s (reached keys s w chain) w q h) e

    asked_still : (k t : List ℕ) → IsAsked old p.makes (root_site root) matches d k t → IsAsked new p.makes (root_site root) matches d k t
    asked_still k t h = record {
      keys = h.keys;
      site = h.site;
      spot = h.spot;
      chain = leads_still h.keys h.site h.spot h.chain;
      keyword = h.keyword;
      stands = subst (λ (ks : List (Shape Site)). In h.keyword ks) (sym (same_keywords h.site (reached h.keys h.site h.spot h.chain))) h.stands;
      asked = h.asked;
    }

    -- what is finished with the document added is so without
    finish_before : Finish p (root_of new base reference) matches root d → Finish p (root_of old base reference) matches root d
    finish_before f = record { each = λ k t h. f.each k t (asked_still k t h) }

    same_answer : SameAnswer bags old new p.makes matches root d
    same_answer = answers_stay Faults bags old more new p.makes base reference root alone matches d

    those_still : (fs : Faults) → AreThose p (root_of old base reference) matches root d fs → (ComesBack p (root_of new base reference) matches root d → ⊥)
        → AreThose p (root_of new base reference) matches root d fs
    those_still fs h straight =
        record { faults = h.faults; told = same_answer.told (λ c. straight (same_answer.circular_still c)) h.faults h.told; same = h.same }

  abbrev AreThoseAt : (List ℕ → List ℕ → Bool) → Data → Faults → Target → Type 0
  AreThoseAt matches d fs t =
      Finish p (root_of new base reference) matches t d → (ComesBack p (root_of new base reference) matches t d → ⊥) → AreThose p (root_of new base reference) matches t d fs

  pub text_still : (d : Data) (text : List ℕ) → IsTextOf p (root_of old base reference) d text → IsTextOf p (root_of new base reference) d text
  text_still d text h =
      let fs = h.0 in
      let at_root : (matches : List ℕ → List ℕ → Bool) → AreThoseAt matches d fs root =
      λ matches finish straight.
      let f = finish_before matches d finish in
      let then = h.1 matches root alone.builds.found f (λ c. straight ((same_answer matches d).circular_still c)) in
      those_still matches d fs then straight in
      (fs, (λ matches target finds. subst (λ (t : Target). AreThoseAt matches d fs t) (one_root target finds) (at_root matches)), h.2)
