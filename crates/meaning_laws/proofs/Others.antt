-- A reading by other matches, which are the same wherever a chain of questions leads.
use Rattle.std.proofs.Common.{◌≡◌, ◌*◌, ℕ, zero, suc, List, [], ◌∷◌, map, Bool, true, false, Option, None, option_map, refl, sym, ap, ◌∙◌, subst}
use Rattle.json_values.specs.Parts.{Part}
use Rattle.schema_meaning.specs.Members.{In, all_known}
use Rattle.schema_meaning.specs.Places.{Spot, Key}
use Rattle.schema_meaning.specs.Questions.{Question, asked_at}
use Rattle.schema_meaning.specs.Rules.{Rule, asks}
use Rattle.schema_meaning.specs.Readings.{Reading, rules, Telling, Asks, tell_one, tell, by_kind, asked, through, told, verdicts}
use Rattle.schema_meaning.specs.Circular.{key_at, Leads, starts, inside, follows, IsCircular}
use Rattle.schema_meaning.specs.Cut.{cut, left}
use Rattle.schema_meaning.specs.Certificates.{AreAnswers, Certificate, ends, leads}
use Rattle.meaning_laws.proofs.Known.{map_in}
use Rattle.meaning_laws.proofs.Obliged.{obliged_in}
use Rattle.meaning_laws.specs.MatchLaws.{matching, SameOnTheWay, CutByOtherMatches, ToldByOtherMatches, CircularByOtherMatches, CertifiedByOtherMatches}
use Rattle.meaning_laws.proofs.MatchesAlike.{rules_read, cut_by_matches}

module _ {S A : Type 0} (t : Telling S A) (r : Reading S) where
  -- where each question that the schema asks is answered the same
  tell-same : (s : S) (w : Spot) (f g : Question S → Option A) → ((q : Question S) → Asks r s w q → f q ≡ g q)
      → tell t w (r.schema_path s) f (rules r s w.value) ≡ tell t w (r.schema_path s) g (rules r s w.value)
  tell-same s w f g h =
      ap (λ os. option_map t.of_all (all_known os)) (map_in (tell_one t w (r.schema_path s) f) (tell_one t w (r.schema_path s) g) (rules r s w.value)
      (λ k i. ap (λ os. option_map (t.of_rule k w (r.schema_path s)) (all_known os)) (map_in f g (asks k) (λ q j. h q (record { keyword = k; stands = i; asked = j })))))

module _ {S : Type 0} (r : Reading S) (matches : List ℕ → List ℕ → Bool) (from : S) (at : Spot) (same : SameOnTheWay r matches from at) where
  abbrev other : Reading S
  other = matching r matches

  rules-same : (keys : List Key) (s : S) (w : Spot) → Leads r from at keys s w → rules r s w.value ≡ rules other s w.value
  rules-same keys s w chain = rules_read r.matches matches w.value (r.keywords s) (same keys s w chain).each

  asks-other : (keys : List Key) (s : S) (w : Spot) (q : Question S) → Leads r from at keys s w → Asks r s w q → Asks other s w q
  asks-other keys s w q chain a = record { keyword = a.keyword; stands = subst (λ ks. In a.keyword ks) (rules-same keys s w chain) a.stands; asked = a.asked }

  asks-back : (keys : List Key) (s : S) (w : Spot) (q : Question S) → Leads r from at keys s w → Asks other s w q → Asks r s w q
  asks-back keys s w q chain a = record { keyword = a.keyword; stands = subst (λ ks. In a.keyword ks) (sym (rules-same keys s w chain)) a.stands; asked = a.asked }

  chain-other : (keys : List Key) (s : S) (w : Spot) → Leads r from at keys s w → Leads other from at keys s w
  chain-other _ _ _ starts = starts
  chain-other _ _ _ (inside {keys} {s} {w} chain q a g) = inside (chain-other keys s w chain) q (asks-other keys s w q chain a) g
  chain-other _ _ _ (follows {keys} {s} {w} chain q a g) = follows (chain-other keys s w chain) q (asks-other keys s w q chain a) g

  chain-back : (keys : List Key) (s : S) (w : Spot) → Leads other from at keys s w → Leads r from at keys s w
  chain-back _ _ _ starts = starts
  chain-back _ _ _ (inside {keys} {s} {w} chain q a g) = let c = chain-back keys s w chain in inside c q (asks-back keys s w q c a) g
  chain-back _ _ _ (follows {keys} {s} {w} chain q a g) = let c = chain-back keys s w chain in follows c q (asks-back keys s w q c a) g

  pub circular-other : IsCircular r from at → IsCircular other from at
  circular-other c = record { key = c.key; keys = c.keys; site = c.site; spot = c.spot; chain = chain-other (c.key ∷ c.keys) c.site c.spot c.chain; again = c.again }

  pub circular-back : IsCircular other from at → IsCircular r from at
  circular-back c = record { key = c.key; keys = c.keys; site = c.site; spot = c.spot; chain = chain-back (c.key ∷ c.keys) c.site c.spot c.chain; again = c.again }

  -- where one more question leads
  record On (q : Question S) (w : Spot) : Type 0 where
    keys : List Key
    chain : Leads r from at keys q.site (asked_at w q)

  led : (keys : List Key) (s : S) (w : Spot) → Leads r from at keys s w → (q : Question S) → Asks r s w q → On q w
  led keys s w chain q a = by q.follows refl
    where
      by : (b : Bool) → q.follows ≡ b → On q w
      by true g = record { keys = key_at r w q ∷ keys; chain = follows chain q a g }
      by false g = record { keys = keys; chain = inside chain q a g }

  module _ {A : Type 0} (t : Telling S A) where
    abbrev SameAnswers : (S → Spot → Option A) → (S → Spot → Option A) → Type 0
    SameAnswers f g = (keys : List Key) (s : S) (w : Spot) → Leads r from at keys s w → f s w ≡ g s w

    through-other : (f g : S → Spot → Option A) → SameAnswers f g → (l : ℕ) → SameAnswers (through t r f l) (through t other g l)
    unfolding through
    through-other f g h zero keys s w chain = refl
    through-other f g h (suc l) keys s w chain =
        tell-same t r s w (asked f (through t r f l) w) (asked g (through t other g l) w) (λ q a. one (through-other f g h l) q a q.follows refl)
        ∙ ap (tell t w (r.schema_path s) (asked g (through t other g l) w)) (rules-same keys s w chain)
      where
        one : SameAnswers (through t r f l) (through t other g l) → (q : Question S) → Asks r s w q → (b : Bool) → q.follows ≡ b
            → by_kind b f (through t r f l) q.site (asked_at w q) ≡ by_kind b g (through t other g l) q.site (asked_at w q)
        one again q a true e = h (key_at r w q ∷ keys) q.site (asked_at w q) (follows chain q a e)
        one again q a false e = again keys q.site (asked_at w q) (inside chain q a e)

    told-other : (n : ℕ) → SameAnswers (told t r n) (told t other n)
    unfolding told
    told-other zero keys s w chain = through-other (λ s w. None) (λ s w. None) (λ ks x v c. refl) (suc r.nesting) keys s w chain
    told-other (suc n) keys s w chain = through-other (told t r n) (told t other n) (told-other n) (suc r.nesting) keys s w chain

  answers-same : (keys : List Key) (s : S) (w : Spot) → Leads r from at keys s w → (n : ℕ) (k : Rule S) → In k (rules r s w.value)
      → map (λ q. told verdicts r n q.site (asked_at w q)) (asks k) ≡ map (λ q. told verdicts other n q.site (asked_at w q)) (asks k)
  answers-same keys s w chain n k i =
      map_in (λ q. told verdicts r n q.site (asked_at w q)) (λ q. told verdicts other n q.site (asked_at w q)) (asks k)
      (λ q j. let on = led keys s w chain q (record { keyword = k; stands = i; asked = j }) in told-other verdicts n on.keys q.site (asked_at w q) on.chain)

  answers-other : (keys : List Key) (s : S) (w : Spot) → Leads r from at keys s w → (k : Rule S) (bs : List Bool) → In k (rules r s w.value) → AreAnswers r w k bs → AreAnswers other w k bs
  answers-other keys s w chain k bs i a = record { unfoldings = a.unfoldings; are = ap all_known (sym (answers-same keys s w chain a.unfoldings k i)) ∙ a.are }

  answers-back : (keys : List Key) (s : S) (w : Spot) → Leads r from at keys s w → (k : Rule S) (bs : List Bool) → In k (rules r s w.value) → AreAnswers other w k bs → AreAnswers r w k bs
  answers-back keys s w chain k bs i a = record { unfoldings = a.unfoldings; are = ap all_known (answers-same keys s w chain a.unfoldings k i) ∙ a.are }

  certified-other : (keys : List Key) (s : S) (w : Spot) (i e : List Part) → Leads r from at keys s w → Certificate r s w i e → Certificate other s w i e
  certified-other keys s w _ _ chain (ends k bs j a g) =
      ends k bs (subst (λ ks. In k ks) (rules-same keys s w chain) j) (answers-other keys s w chain k bs j a) g
  certified-other keys s w i e chain (leads k bs q j a o c) =
      let on = led keys s w chain q (record { keyword = k; stands = j; asked = obliged_in k bs q o }) in
      leads k bs q (subst (λ ks. In k ks) (rules-same keys s w chain) j) (answers-other keys s w chain k bs j a) o (certified-other on.keys q.site (asked_at w q) i e on.chain c)

  certified-back : (keys : List Key) (s : S) (w : Spot) (i e : List Part) → Leads r from at keys s w → Certificate other s w i e → Certificate r s w i e
  certified-back keys s w _ _ chain (ends k bs j a g) =
      let here : In k (rules r s w.value) = subst (λ ks. In k ks) (sym (rules-same keys s w chain)) j in
      ends k bs here (answers-back keys s w chain k bs here a) g
  certified-back keys s w i e chain (leads k bs q j a o c) =
      let here : In k (rules r s w.value) = subst (λ ks. In k ks) (sym (rules-same keys s w chain)) j in
      let on = led keys s w chain q (record { keyword = k; stands = here; asked = obliged_in k bs q o }) in
      leads k bs q here (answers-back keys s w chain k bs here a) o (certified-back on.keys q.site (asked_at w q) i e on.chain c)

pub cut_by_other_matches : (S A : Type 0) → CutByOtherMatches S A
unfolding cut
cut_by_other_matches S A t r matches s w same all keys =
    cut_by_matches S A t r (matching r matches) (suc (left keys all) * suc r.nesting) keys s w
    (λ ks x v c. record { keywords = refl; schema_path = refl; place = refl }) (λ ks x v c. record { each = (same ks x v c).each })

pub told_by_other_matches : (S A : Type 0) → ToldByOtherMatches S A
told_by_other_matches S A t r matches s w same n = told-other r matches s w same t n [] s w starts

pub circular_by_other_matches : (S : Type 0) → CircularByOtherMatches S
circular_by_other_matches S r matches s w same = (circular-other r matches s w same, circular-back r matches s w same)

pub certified_by_other_matches : (S : Type 0) → CertifiedByOtherMatches S
certified_by_other_matches S r matches s w same i e = (certified-other r matches s w same [] s w i e starts, certified-back r matches s w same [] s w i e starts)
