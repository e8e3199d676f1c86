-- No URI is asked for twice.
use Rattle.std.proofs.Common.{◌≡◌, ℕ, List, [], ◌∷◌, ◌++◌, map, Bool, true, false, ◌||◌, if◌then◌else◌, is_some, refl, sym, ap, subst, ◌∙◌, bytes_eq}
use Rattle.std.specs.List.{flat_map}
use Rattle.std.proofs.lemmas.List.Folds.{list_any-append}
use Rattle.schema_definitions.specs.Words.{has_text}
use Rattle.schema_definitions.specs.Bearers.{Document, Documents, standings, meta, bearer_under}
use Rattle.schema_definitions.specs.Rounds.{Want, wanted_at, further, is_added, is_at_hand, wants, wants_under, Asking, AreRounds, retrieved, none_twice}
use Rattle.document_retrieval.proofs.Truths.{same, self, left-false, right-false, neither, both, not-true, clash, or-elim, or-left, or-right, and-left, and-right}

abbrev uris : List Want → List (List ℕ)
uris ws = map (λ (w : Want). w.uri) ws

-- ---- what is left of wants

abbrev known_with : (List ℕ → Bool) → Want → List ℕ → Bool
known_with f w u = f u || bytes_eq w.uri u

new-by : (f : List ℕ → Bool) (w : Want) (ws : List Want) (b : Bool) → f w.uri ≡ b → (u : List ℕ)
    → ((v : List ℕ) → has_text v (uris (further f ws)) ≡ true → f v ≡ false)
    → ((v : List ℕ) → has_text v (uris (further (known_with f w) ws)) ≡ true → known_with f w v ≡ false)
    → has_text u (uris (if b then further f ws else w ∷ further (known_with f w) ws)) ≡ true → f u ≡ false
new-by f w ws true is u now later h = now u h
new-by f w ws false is u now later h =
    or-elim (bytes_eq u w.uri) (has_text u (uris (further (known_with f w) ws))) h
    (λ e. ap f (same u w.uri e) ∙ is)
    (λ e. left-false (f u) (bytes_eq w.uri u) (later u e))

-- none of them is known
further-new : (f : List ℕ → Bool) (ws : List Want) (u : List ℕ) → has_text u (uris (further f ws)) ≡ true → f u ≡ false
further-new f [] u h = absurd (cc (h))
further-new f (w ∷ ws) u h = new-by f w ws (f w.uri) refl u (further-new f ws) (further-new (known_with f w) ws) h

once-by : (f : List ℕ → Bool) (w : Want) (ws : List Want) (b : Bool) → none_twice (uris (further f ws)) ≡ true → none_twice (uris (further (known_with f w) ws)) ≡ true
    → none_twice (uris (if b then further f ws else w ∷ further (known_with f w) ws)) ≡ true
once-by f w ws true now later = now
once-by f w ws false now later =
    let rest = uris (further (known_with f w) ws) in
    both (has_text w.uri rest) (none_twice rest)
    (not-true (has_text w.uri rest) (λ h. clash (bytes_eq w.uri w.uri) (self w.uri) (right-false (f w.uri) (bytes_eq w.uri w.uri) (further-new (known_with f w) ws w.uri h))))
    later

-- none of them comes twice
further-once : (f : List ℕ → Bool) (ws : List Want) → none_twice (uris (further f ws)) ≡ true
further-once f [] = refl
further-once f (w ∷ ws) = once-by f w ws (f w.uri) (further-once f ws) (further-once (known_with f w) ws)

-- ---- rounds

twice-both : (xs ys : List (List ℕ)) → none_twice xs ≡ true → none_twice ys ≡ true → ((u : List ℕ) → has_text u ys ≡ true → has_text u xs ≡ false) → none_twice (xs ++ ys) ≡ true
twice-both [] ys a b apart = b
twice-both (x ∷ xs) ys a b apart =
    let beside = not-true (has_text x ys) (λ h. clash (bytes_eq x x) (self x) (left-false (bytes_eq x x) (has_text x xs) (apart x h))) in
    both (has_text x (xs ++ ys)) (none_twice (xs ++ ys))
    (list_any-append (bytes_eq x) xs ys ∙ neither (has_text x xs) (has_text x ys) (and-left (has_text x xs) (none_twice xs) a) beside)
    (twice-both xs ys (and-right (has_text x xs) (none_twice xs) a) b (λ u h. right-false (bytes_eq u x) (has_text u xs) (apart u h)))

abbrev uris_of : Documents → List (List ℕ)
uris_of ds = map (λ (d : Document). d.uri) ds

added-by-uri : (ds : Documents) (u : List ℕ) → has_text u (uris_of ds) ≡ true → is_added ds u ≡ true
added-by-uri [] u h = h
added-by-uri (d ∷ ds) u h =
    or-elim (bytes_eq u d.uri) (has_text u (uris_of ds)) h
    (λ e. or-left (bytes_eq d.uri u) (is_added ds u) (subst (λ v. bytes_eq d.uri v ≡ true) (sym (same u d.uri e)) (self d.uri)))
    (λ e. or-right (bytes_eq d.uri u) (is_added ds u) (added-by-uri ds u e))

module _ (docs answers : Documents) (u : List ℕ) where
  added-now : has_text u (uris_of answers) ≡ true → is_added (docs ++ answers) u ≡ true
  added-now h =
      list_any-append (λ (d : Document). bytes_eq d.uri u) docs answers
      ∙ or-right (is_added docs u) (is_added answers u) (added-by-uri answers u h)

  added-before : is_added (docs ++ answers) u ≡ false → is_added docs u ≡ false
  added-before h = left-false (is_added docs u) (is_added answers u) (sym (list_any-append (λ (d : Document). bytes_eq d.uri u) docs answers) ∙ h)

pub record Once (docs : Documents) (texts : List (List ℕ)) : Type 0 where
  pub once : none_twice texts ≡ true
  pub new : (u : List ℕ) → has_text u texts ≡ true → is_added docs u ≡ false

asked-now : (docs answers : Documents) → uris_of answers ≡ uris (wants docs) → Once docs (uris_of answers)
unfolding wants_under
asked-now docs answers asked =
    let at_hand = is_at_hand (meta docs) docs in
    let all = flat_map wanted_at (standings (meta docs) docs) in
    record {
      once = ap none_twice asked ∙ further-once at_hand all;
      new = λ u h. right-false (is_some (bearer_under (meta docs) docs u)) (is_added docs u) (further-new at_hand all u (sym (ap (has_text u) asked) ∙ h));
    }

pub asked-once : (a : Asking) (docs : Documents) (rounds : List Documents) → AreRounds a docs rounds → Once docs (retrieved rounds)
asked-once a docs [] are = record { once = refl; new = λ u h. absurd (cc (h)) }
asked-once a docs (r ∷ rounds) are =
    let now = asked-now docs r are.0.asked in
    let rest = asked-once a (docs ++ r) rounds are.1 in
    let first = uris_of r in
    let after = retrieved rounds in
    record {
      once = twice-both first after now.once rest.once (λ u h. not-true (has_text u first) (λ m. clash (is_added (docs ++ r) u) (added-now docs r u m) (rest.new u h)));
      new = λ u h. or-elim (has_text u first) (has_text u after) (sym (list_any-append (bytes_eq u) first after) ∙ h) (now.new u) (λ m. added-before docs r u (rest.new u m));
    }
