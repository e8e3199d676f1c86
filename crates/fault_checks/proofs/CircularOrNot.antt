-- Whether references come back below a schema is decided by a search.
use Rattle.std.proofs.Common.{◌≡◌, ◌<◌, ◌||◌, ◌++◌, ◌⊎◌, inl, inr, ℕ, zero, suc, List, [], ◌∷◌, Bool, true, false, true≢false, refl, sym, ap, subst, ◌∙◌, arith, append_assoc, append-nil}
use Rattle.serde_json.specs.Data.{Data}
use Rattle.schema_meaning.specs.Members.{In, first, later}
use Rattle.schema_meaning.specs.Places.{Spot, Key, whole}
use Rattle.schema_meaning.specs.Questions.{Question, asked_at}
use Rattle.schema_meaning.specs.Rules.{Rule, asks}
use Rattle.schema_meaning.specs.Readings.{Reading, rules, Asks, IsNested}
use Rattle.schema_meaning.specs.Circular.{key_at, Leads, starts, inside, follows, IsCircular}
use Rattle.schema_meaning.specs.Cut.{is_in_progress, same_key, one_unless, AreAll}
use Rattle.schema_definitions.specs.Sites.{Site}
use Rattle.schema_definitions.specs.AllKeys.{keys_of}
use Rattle.meaning_laws.proofs.Keys.{in_progress-in, left_falls}
use Rattle.meaning_laws.proofs.Rooms.{room, room-inside, room-followed}
use Rattle.reading_laws.proofs.Nested.{nested}
use Rattle.reading_laws.proofs.PlainKeys.{all_keys}
use Rattle.plain_reader.proofs.ReturnLemmas.{behind_inside, behind_reference}
use Rattle.fault_checks.specs.Scenes.{Scene, reading_of, IsStraight}

-- ---- something of one of a list, or of each

pick : {A : Type 0} (Q : A → Type 0) (x : A) (xs : List A) → Q x → ((y : A) → In y xs → Q y) → (y : A) → In y (x ∷ xs) → Q y
pick Q x xs q f _ first = q
pick Q x xs q f y (later i) = f y i

one_or_each : {A : Type 0} (P : Type 0) (Q : A → Type 0) (xs : List A) → ((x : A) → In x xs → P ⊎ Q x) → P ⊎ ((x : A) → In x xs → Q x)
one_or_each P Q [] h = inr (λ x i. elim i [ ])
one_or_each {A = A} P Q (x ∷ xs) h = both (h x first) (one_or_each P Q xs (λ y i. h y (later i)))
  where
    both : P ⊎ Q x → P ⊎ ((y : A) → In y xs → Q y) → P ⊎ ((y : A) → In y (x ∷ xs) → Q y)
    both (inl p) rest = inl p
    both (inr q) (inl p) = inl p
    both (inr q) (inr f) = inr (pick Q x xs q f)

-- ---- what is listed is in progress

itself : (b : Bool) → one_unless (b || false) 0 < 1 → b ≡ true
itself true h = refl
itself false h = absurd (omega (arith, h))

in_is : (k : Key) (ks : List Key) → In k ks → is_in_progress k ks ≡ true
in_is k [] i = elim i [ ]
in_is k (_ ∷ ks) first = ap (λ b. b || is_in_progress k ks) (itself (same_key k k) (left_falls k [] (k ∷ []) first refl))
in_is k (l ∷ ks) (later i) = by (same_key k l) (in_is k ks i)
  where
    by : (b : Bool) → is_in_progress k ks ≡ true → (b || is_in_progress k ks) ≡ true
    by true e = refl
    by false e = e

module _ {S : Type 0} (r : Reading S) where
  -- some chain from here comes to a target that is in progress, or that it has come to before
  record Back (ks : List Key) (s : S) (w : Spot) : Type 0 where
    key : Key
    keys : List Key
    site : S
    spot : Spot
    chain : Leads r s w (key ∷ keys) site spot
    again : In key (keys ++ ks)

  -- no chain of at most n questions does
  Free : ℕ → List Key → S → Spot → Type 0
  Free zero ks s w = Unit {0}
  Free (suc n) ks s w = (q : Question S) → Asks r s w q → (q.follows ≡ false → Free n ks q.site (asked_at w q))
      × (q.follows ≡ true → (is_in_progress (key_at r w q) ks ≡ false) × Free n (key_at r w q ∷ ks) q.site (asked_at w q))

  -- and none behind a question
  abbrev FreeBehind : ℕ → List Key → Spot → Question S → Type 0
  FreeBehind n ks w q = (q.follows ≡ false → Free n ks q.site (asked_at w q)) × (q.follows ≡ true → (is_in_progress (key_at r w q) ks ≡ false) × Free n (key_at r w q ∷ ks) q.site (asked_at w q))

  -- ---- the search

  module _ (n : ℕ) (again : (ks : List Key) (s : S) (w : Spot) → Back ks s w ⊎ Free n ks s w) (ks : List Key) (s : S) (w : Spot) where
    search_inside : (q : Question S) → Asks r s w q → q.follows ≡ false → Back ks q.site (asked_at w q) ⊎ Free n ks q.site (asked_at w q) → Back ks s w ⊎ FreeBehind n ks w q
    search_inside q a e (inl back) = inl (record {
      key = back.key;
      keys = back.keys;
      site = back.site;
      spot = back.spot;
      chain = behind_inside r s w q a e (back.key ∷ back.keys) back.site back.spot back.chain;
      again = back.again;
    })
    search_inside q a e (inr free) = inr ((λ f. free), (λ f. absurd (true≢false (sym f ∙ e))))

    search_followed : (q : Question S) → Asks r s w q → q.follows ≡ true → is_in_progress (key_at r w q) ks ≡ false
        → Back (key_at r w q ∷ ks) q.site (asked_at w q) ⊎ Free n (key_at r w q ∷ ks) q.site (asked_at w q) → Back ks s w ⊎ FreeBehind n ks w q
    search_followed q a e new (inl back) = inl (record {
      key = back.key;
      keys = back.keys ++ (key_at r w q ∷ []);
      site = back.site;
      spot = back.spot;
      chain = behind_reference r s w q a e (back.key ∷ back.keys) back.site back.spot back.chain;
      again = subst (λ (hs : List Key). In back.key hs) (sym (append_assoc back.keys (key_at r w q ∷ []) ks)) back.again;
    })
    search_followed q a e new (inr free) = inr ((λ f. absurd (true≢false (sym e ∙ f))), (λ f. (new, free)))

    search_reference : (q : Question S) → Asks r s w q → q.follows ≡ true → (b : Bool) → is_in_progress (key_at r w q) ks ≡ b → Back ks s w ⊎ FreeBehind n ks w q
    search_reference q a e true is = inl (record {
      key = key_at r w q;
      keys = [];
      site = q.site;
      spot = asked_at w q;
      chain = follows starts q a e;
      again = in_progress-in (key_at r w q) ks is;
    })
    search_reference q a e false is = search_followed q a e is (again (key_at r w q ∷ ks) q.site (asked_at w q))

    search_question : (q : Question S) → Asks r s w q → (b : Bool) → q.follows ≡ b → Back ks s w ⊎ FreeBehind n ks w q
    search_question q a true e = search_reference q a e (is_in_progress (key_at r w q) ks) refl
    search_question q a false e = search_inside q a e (again ks q.site (asked_at w q))

    abbrev EachFree : Rule S → Type 0
    EachFree k = (q : Question S) → In q (asks k) → FreeBehind n ks w q

    search_rules : Back ks s w ⊎ ((k : Rule S) → In k (rules r s w.value) → EachFree k)
    search_rules =
        one_or_each (Back ks s w) EachFree (rules r s w.value)
        (λ k i. one_or_each (Back ks s w) (FreeBehind n ks w) (asks k) (λ q j. search_question q (record { keyword = k; stands = i; asked = j }) q.follows refl))

    searched : Back ks s w ⊎ ((k : Rule S) → In k (rules r s w.value) → EachFree k) → Back ks s w ⊎ Free (suc n) ks s w
    unfolding Free
    searched (inl back) = inl back
    searched (inr free) = inr (λ q a. free a.keyword a.stands q a.asked)

  search : (n : ℕ) (ks : List Key) (s : S) (w : Spot) → Back ks s w ⊎ Free n ks s w
  unfolding Free
  search zero ks s w = inr tt
  search (suc n) ks s w = searched n (search n) ks s w (search_rules n (search n) ks s w)

  -- ---- where no chain of so many questions comes back, none does

  -- each reference was new where it was followed
  abbrev AreNew : List Key → Type 0
  AreNew [] = Unit {0}
  AreNew (k ∷ ks) = (is_in_progress k ks ≡ false) × AreNew ks

  module _ (from : S) (at : Spot) (all : List Key) (nests : IsNested r) (among : AreAll r from at all) where
    free_on : (n : ℕ) (ks : List Key) (s : S) (w : Spot) → Leads r from at ks s w → room r all nests ks s < n → Free n ks s w → (m : ℕ) → Free m ks s w
    unfolding Free
    free_on zero ks s w chain fits free m = absurd (omega (arith, fits))
    free_on (suc n) ks s w chain fits free zero = tt
    free_on (suc n) ks s w chain fits free (suc m) =
        λ q a. (
          (λ e. let less = room-inside r all nests ks s w q a e in free_on n ks q.site (asked_at w q) (inside chain q a e) (omega (arith, less, fits)) ((free q a).0 e) m),
          (λ e.
              let new = ((free q a).1 e).0 in
              let less = room-followed r all nests from at among ks s w chain q a e new in
              (new, free_on n (key_at r w q ∷ ks) q.site (asked_at w q) (follows chain q a e) (omega (arith, less, fits)) ((free q a).1 e).1 m)),
        )

    along : ((m : ℕ) → Free m [] from at) → (ks : List Key) (s : S) (w : Spot) → Leads r from at ks s w → ((m : ℕ) → Free m ks s w) × AreNew ks
    unfolding Free
    along free _ _ _ starts = (free, tt)
    along free _ _ _ (inside {keys = ks} {s = s} {w = w} chain q a e) = let before = along free ks s w chain in ((λ m. (before.0 (suc m) q a).0 e), before.1)
    along free _ _ _ (follows {keys = ks} {s = s} {w = w} chain q a e) =
        let before = along free ks s w chain in ((λ m. ((before.0 (suc m) q a).1 e).1), (((before.0 (suc zero) q a).1 e).0, before.1))

    never : Free (suc (room r all nests [] from)) [] from at → IsCircular r from at → ⊥
    never free circular =
        let on = free_on (suc (room r all nests [] from)) [] from at starts (omega arith) free in
        let new = (along on (circular.key ∷ circular.keys) circular.site circular.spot circular.chain).1.0 in
        true≢false (sym (in_is circular.key circular.keys circular.again) ∙ new)

    found : Back [] from at ⊎ Free (suc (room r all nests [] from)) [] from at → ((IsCircular r from at → ⊥) → ⊥) → IsCircular r from at
    found (inl back) h = record {
      key = back.key;
      keys = back.keys;
      site = back.site;
      spot = back.spot;
      chain = back.chain;
      again = subst (λ (ks : List Key). In back.key ks) (append-nil back.keys) back.again;
    }
    found (inr free) h = absurd (h (never free))

    pub not_straight : ((IsCircular r from at → ⊥) → ⊥) → IsCircular r from at
    not_straight h = found (search (suc (room r all nests [] from)) [] from at) h

-- a value is circular where it is not so that it is not
pub circular_there : (x : Scene) (s : Site) (d : Data) → (IsStraight x s d → ⊥) → IsCircular (reading_of x) s (whole d)
circular_there x s d h =
    not_straight (reading_of x) s (whole d) (keys_of x.documents d) (nested x.documents x.makes x.matches) (all_keys x.documents x.makes x.matches s d) h
