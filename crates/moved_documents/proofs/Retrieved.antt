-- What rounds of retrieval give, where one document alone is answered.
use Rattle.std.proofs.Common.{◌≡◌, ◌∙◌, ◌⊎◌, inl, inr, ℕ, List, [], ◌∷◌, ◌++◌, map, Bool, true, false, ◌||◌, if◌then◌else◌, bytes_eq, is_some, refl, sym, ap, ap₂, subst}
use Rattle.std.proofs.lemmas.List.{append-nil}
use Rattle.std.proofs.lemmas.Slice.Eq.{bytes_eq-Decides}
use Rattle.std.specs.List.{flat_map, AllByRecursion}
use Rattle.schema_definitions.specs.Bearers.{Document, Documents, standings, meta, bearer_under}
use Rattle.schema_definitions.specs.Rounds.{Want, wanted_at, is_added, is_at_hand, further, wants_under, wants, IsOfLayer, IsRound, AreRounds, gathered}
use Rattle.moved_documents.specs.Forms.{Pair, document_at, root_alone, added, by_map}
use Rattle.moved_documents.specs.Laws.{RetrievedIsAdded, WantedIsAdded}

-- ---- what is wanted is not known, and is wanted once

abbrev Unknown : (List ℕ → Bool) → List ℕ → Type 0
Unknown known uri = known uri ≡ false

none_of : (a b : Bool) → (a || b) ≡ false → (a ≡ false) × (b ≡ false)
none_of false false e = (refl, refl)
none_of true b e = cc
none_of false true e = cc

or_true : (a b : Bool) → b ≡ true → (a || b) ≡ true
or_true true b e = refl
or_true false b e = e

same_text : (t : List ℕ) → bytes_eq t t ≡ true
same_text t = (bytes_eq-Decides t t).1 refl

-- where only one URI can be answered, what is wanted is nothing or that URI alone
abbrev uris : List Want → List (List ℕ)
uris ws = map (λ w. w.uri) ws

module _ (one : List ℕ) where
  abbrev AllOne : List (List ℕ) → Type 0
  AllOne us = AllByRecursion (λ u. u ≡ one) us

  none_known : (known : List ℕ → Bool) (ws : List Want) → known one ≡ true → AllOne (uris (further known ws)) → further known ws ≡ []
  none_known known [] k h = refl
  none_known known (w ∷ ws) k h = by (none_known known ws k) (known w.uri) refl h
    where
      by : (AllOne (uris (further known ws)) → further known ws ≡ []) → (b : Bool) → known w.uri ≡ b
          → AllOne (uris (if b then further known ws else w ∷ further (λ uri. known uri || bytes_eq w.uri uri) ws))
          → (if b then further known ws else w ∷ further (λ uri. known uri || bytes_eq w.uri uri) ws) ≡ []
      by rest true is g = rest g
      by rest false is g = (let no : true ≡ false = sym k ∙ ap known (sym g.0) ∙ is in absurd (cc))

  pub data OneOrNone : List (List ℕ) → Type 0 where
    none_wanted : OneOrNone []
    one_wanted : OneOrNone (one ∷ [])

  one_or_none : (known : List ℕ → Bool) (ws : List Want) → AllOne (uris (further known ws)) → OneOrNone (uris (further known ws))
  one_or_none known [] h = none_wanted
  one_or_none known (w ∷ ws) h = by (one_or_none known ws) (known w.uri) h
    where
      by : (AllOne (uris (further known ws)) → OneOrNone (uris (further known ws))) → (b : Bool)
          → AllOne (uris (if b then further known ws else w ∷ further (λ uri. known uri || bytes_eq w.uri uri) ws))
          → OneOrNone (uris (if b then further known ws else w ∷ further (λ uri. known uri || bytes_eq w.uri uri) ws))
      by rest true g = rest g
      by rest false g =
          let more : List ℕ → Bool = λ uri. known uri || bytes_eq w.uri uri in
          let seen : more one ≡ true = or_true (known one) (bytes_eq w.uri one) (ap (λ u. bytes_eq u one) g.0 ∙ same_text one) in
          let none : uris (further more ws) ≡ [] = ap uris (none_known more ws seen g.1) in
          subst OneOrNone (ap₂ (λ (u : List ℕ) us. u ∷ us) (sym g.0) (sym none)) one_wanted

-- ---- one round

module _ (p : Pair) where
  no_answers : (ds : Documents) → map (λ d. d.uri) ds ≡ [] → ds ≡ []
  no_answers [] e = refl
  no_answers (d ∷ ds) e = absurd (cc)

  abbrev Answered : Document → Type 0
  Answered d = ((d.uri ≡ p.moved_uri) × (d.contents ≡ p.moved)) × IsOfLayer p.layer d

  abbrev the_document : Document
  the_document = document_at p.layer p.moved_uri p.moved

  answer_is : (d : Document) → Answered d → d ≡ the_document
  answer_is d a =
      ap₂ (λ (u : List ℕ) c. record { layer = d.layer; uri = u; contents = c; default = d.default }) a.0.0 a.0.1
      ∙ ap₂ (λ (l : ℕ) e. record { layer = l; uri = p.moved_uri; contents = p.moved; default = e }) a.1.0 a.1.1

  answers_one : (ds : Documents) → AllByRecursion Answered ds → AllByRecursion (λ u. u ≡ p.moved_uri) (map (λ d. d.uri) ds)
  answers_one [] h = tt
  answers_one (d ∷ ds) h = (h.0.0.0, answers_one ds h.1)

  module _ (docs answers : Documents) (round : IsRound (by_map p) docs answers) where
    wanted_one : AllByRecursion (λ u. u ≡ p.moved_uri) (uris (wants docs))
    wanted_one = subst (λ us. AllByRecursion (λ u. u ≡ p.moved_uri) us) round.asked (answers_one answers round.answered)

    as_wanted : (ds : Documents) → AllByRecursion Answered ds → (us : List (List ℕ)) → OneOrNone p.moved_uri us → map (λ d. d.uri) ds ≡ us
        → ((us ≡ []) × (ds ≡ [])) ⊎ (ds ≡ the_document ∷ [])
    as_wanted [] h _ none_wanted e = inl (refl, refl)
    as_wanted (d ∷ ds) h _ none_wanted e = absurd (cc)
    as_wanted [] h _ one_wanted e = absurd (cc)
    as_wanted (d ∷ []) h _ one_wanted e = inr (ap (λ x. x ∷ []) (answer_is d h.0))
    as_wanted (d ∷ d' ∷ ds) h _ one_wanted e = absurd (cc)

    wants_some : OneOrNone p.moved_uri (uris (wants docs))
    unfolding wants_under
    wants_some =
        one_or_none p.moved_uri (is_at_hand (meta docs) docs) (flat_map wanted_at (standings (meta docs) docs)) wanted_one

    pub one_round : ((uris (wants docs) ≡ []) × (answers ≡ [])) ⊎ (answers ≡ the_document ∷ [])
    one_round = as_wanted answers round.answered (uris (wants docs)) wants_some round.asked

  -- where the document is added, nothing more is answered
  added_known : (docs : Documents) → is_added docs p.moved_uri ≡ true → (answers : Documents) → IsRound (by_map p) docs answers → answers ≡ []
  unfolding wants_under
  added_known docs there answers round =
      let known = is_at_hand (meta docs) docs in
      let ws = flat_map wanted_at (standings (meta docs) docs) in
      let none : further known ws ≡ [] =
      none_known p.moved_uri known ws (or_true (is_some (bearer_under (meta docs) docs p.moved_uri)) (is_added docs p.moved_uri) there) (wanted_one docs answers round) in
      no_answers answers (round.asked ∙ ap uris none)

  all_quiet : (docs : Documents) → is_added docs p.moved_uri ≡ true → (rounds : List Documents) → AreRounds (by_map p) docs rounds → gathered docs rounds ≡ docs
  all_quiet docs there [] h = refl
  all_quiet docs there (answers ∷ rounds) h =
      let none = added_known docs there answers h.0 in
      let same : docs ++ answers ≡ docs = ap (λ (xs : Documents). docs ++ xs) none ∙ append-nil docs in
      ap (λ xs. gathered xs rounds) same ∙ all_quiet docs there rounds (subst (λ xs. AreRounds (by_map p) xs rounds) same h.1)

  there_is : is_added (added p) p.moved_uri ≡ true
  there_is = or_true (bytes_eq p.root_uri p.moved_uri) (bytes_eq p.moved_uri p.moved_uri || false) (rw (same_text p.moved_uri) refl)

  from_root : (rounds : List Documents) → AreRounds (by_map p) (root_alone p) rounds → (gathered (root_alone p) rounds ≡ root_alone p) ⊎ (gathered (root_alone p) rounds ≡ added p)
  from_root [] h = inl refl
  from_root (answers ∷ rounds) h = by answers (one_round (root_alone p) answers h.0) h.1 (from_root rounds)
    where
      by : (ds : Documents) → ((uris (wants (root_alone p)) ≡ []) × (ds ≡ [])) ⊎ (ds ≡ the_document ∷ []) → AreRounds (by_map p) (root_alone p ++ ds) rounds
          → (AreRounds (by_map p) (root_alone p) rounds → (gathered (root_alone p) rounds ≡ root_alone p) ⊎ (gathered (root_alone p) rounds ≡ added p))
          → (gathered (root_alone p ++ ds) rounds ≡ root_alone p) ⊎ (gathered (root_alone p ++ ds) rounds ≡ added p)
      by ds (inl e) more rest =
          let same : root_alone p ++ ds ≡ root_alone p = ap (λ (xs : Documents). root_alone p ++ xs) e.1 in
          subst (λ docs. (gathered docs rounds ≡ root_alone p) ⊎ (gathered docs rounds ≡ added p)) (sym same) (rest (subst (λ docs. AreRounds (by_map p) docs rounds) same more))
      by ds (inr e) more rest =
          let same : root_alone p ++ ds ≡ added p = ap (λ (xs : Documents). root_alone p ++ xs) e in
          inr (ap (λ docs. gathered docs rounds) same ∙ all_quiet (added p) there_is rounds (subst (λ docs. AreRounds (by_map p) docs rounds) same more))

pub retrieved_is_added : RetrievedIsAdded
retrieved_is_added = from_root

pub wanted_is_added : WantedIsAdded
wanted_is_added p rounds h some none =
    elim (retrieved_is_added p rounds h) [ inl e ↦ absurd (some (sym (ap (λ docs. wants docs) e) ∙ none)) | inr e ↦ e ]
