-- Readings that agree at each site that a chain of questions leads to, and on the matches asked for there, are cut alike.
use Rattle.std.proofs.Common.{◌≡◌, ℕ, zero, suc, List, [], ◌∷◌, map, Bool, true, false, refl, ap, ap₂, ◌∙◌}
use Rattle.serde_json.specs.Data.{Data}
use Rattle.schema_meaning.specs.Members.{In, first, later}
use Rattle.schema_meaning.specs.Places.{Spot, Key}
use Rattle.schema_meaning.specs.Questions.{Question, asked_at}
use Rattle.schema_meaning.specs.Keywords.{Shape, rule}
use Rattle.schema_meaning.specs.Matches.{match_sites, ReadAlike}
use Rattle.schema_meaning.specs.Readings.{Reading, rules, Telling, Asks}
use Rattle.schema_meaning.specs.Circular.{key_at, Leads, starts, inside, follows}
use Rattle.schema_meaning.specs.Cut.{cut_all, cut_unless, cut_by_kind, cut_asked, cut_within, is_in_progress}
use Rattle.meaning_laws.specs.Laws.{AreAlike}
use Rattle.meaning_laws.proofs.Enough.{cut_all-same}
use Rattle.meaning_laws.proofs.MatchLemmas.{rule_reads}
use Rattle.meaning_laws.specs.MatchLaws.{MatchAlike, CutByMatches}

pub rules_read : {S : Type 0} (read other : List ℕ → List ℕ → Bool) (d : Data) (ks : List (Shape S)) → ((k : Shape S) → In k ks → ReadAlike read other (match_sites d k)) → map (rule read d) ks ≡ map (rule other d) ks
rules_read read other d [] h = refl
rules_read read other d (k ∷ ks) h = ap₂ (λ x xs. x ∷ xs) (rule_reads read other d k (h k first)) (rules_read read other d ks (λ j i. h j (later i)))

module _ {S A : Type 0} (t : Telling S A) (r u : Reading S) where
  key_at-alike : (w : Spot) (q : Question S) → AreAlike r u q.site → key_at r w q ≡ key_at u w q
  key_at-alike w q same = rw same.place refl

  rules-alike : (s : S) (w : Spot) → AreAlike r u s → MatchAlike r u s w.value → rules r s w.value ≡ rules u s w.value
  rules-alike s w same matches = rules_read r.matches u.matches w.value (r.keywords s) matches.each ∙ ap (map (rule u.matches w.value)) same.keywords

  unless-alike : (k l : Key) (ks : List Key) (x : A) (f g : List Key → A) → k ≡ l → f (k ∷ ks) ≡ g (k ∷ ks)
      → cut_unless (is_in_progress k ks) x (f (k ∷ ks)) ≡ cut_unless (is_in_progress l ks) x (g (l ∷ ks))
  unless-alike k l ks x f g same again = rw (again, same) refl

  module _ (from : S) (at : Spot) (alike : (ks : List Key) (x : S) (v : Spot) → Leads r from at ks x v → AreAlike r u x)
      (matched : (ks : List Key) (x : S) (v : Spot) → Leads r from at ks x v → MatchAlike r u x v.value) where
    within-alike : (n : ℕ) (keys ks : List Key) (s : S) (w : Spot) → Leads r from at ks s w → cut_within t r n keys s w ≡ cut_within t u n keys s w
    unfolding cut_within
    within-alike zero keys ks s w chain = refl
    within-alike (suc n) keys ks s w chain =
        cut_all-same t r s w (cut_asked t r (cut_within t r n) keys w) (cut_asked t u (cut_within t u n) keys w)
        (λ q a. one (within-alike n) q.follows q refl a)
        ∙ ap₂ (λ p xs. cut_all t w p (cut_asked t u (cut_within t u n) keys w) xs) (alike ks s w chain).schema_path (rules-alike s w (alike ks s w chain) (matched ks s w chain))
      where
        one : ((keys ks : List Key) (s : S) (w : Spot) → Leads r from at ks s w → cut_within t r n keys s w ≡ cut_within t u n keys s w)
            → (b : Bool) (q : Question S) → q.follows ≡ b → Asks r s w q
            → cut_by_kind b t r (cut_within t r n) keys w q ≡ cut_by_kind b t u (cut_within t u n) keys w q
        one again true q g a =
            let on = follows chain q a g in
            unless-alike (key_at r w q) (key_at u w q) keys (t.of_all []) (λ ks. cut_within t r n ks q.site (asked_at w q)) (λ ks. cut_within t u n ks q.site (asked_at w q))
            (key_at-alike w q (alike (key_at r w q ∷ ks) q.site (asked_at w q) on)) (again (key_at r w q ∷ keys) (key_at r w q ∷ ks) q.site (asked_at w q) on)
        one again false q g a = again keys ks q.site (asked_at w q) (inside chain q a g)

pub cut_by_matches : (S A : Type 0) → CutByMatches S A
cut_by_matches S A t r u n keys s w alike matched = within-alike t r u s w alike matched n keys [] s w starts
