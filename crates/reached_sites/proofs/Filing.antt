-- Keys that are equal, and a visit more.
use Rattle.std.proofs.Common.{◌≡◌, ◌+◌, arith, ◌∙◌, ℕ, zero, suc, List, [], ◌∷◌, ◌++◌, Bool, true, false, true≢false, ◌&&◌, ◌||◌, not, cond, map, Option, Some, None, option_map, Decides, refl, sym, ap, ap₂, subst, inl, inr, length, bytes_eq, slice_get}
use Rattle.std.specs.Cmp.Lexicographic.{pointwise}
use Rattle.std.specs.List.{AllByRecursion, IsDistinct, list_any, position_or_len}
use Rattle.std.proofs.lemmas.Bool.{false≢true}
use Rattle.std.proofs.lemmas.List.{length-map, map-append}
use Rattle.std.proofs.lemmas.Map.Keys.{IsDistinct-head, IsDistinct-tail}
use Rattle.std.proofs.lemmas.Slice.Eq.{slice_eq-Decides, bytes_eq-Decides}
use Rattle.json_values.specs.Parts.{Part}
use Rattle.schema_steps.specs.Parts.{part_eq}
use Rattle.schema_steps.proofs.EqualLemmas.{part_eq-Decides}
use Rattle.schema_drafts.specs.Vocabularies.{only, the_known}
use Rattle.schema_drafts.specs.declared.draft.Draft.{Draft}
use Rattle.schema_drafts.specs.declared.draft.Draft.TheVariants.{Draft4, Draft6, Draft7, Draft201909, Draft202012, Unknown}
use Rattle.schema_definitions.specs.CompileKeys.{CompileKey}
use Rattle.schema_definitions.specs.Rows.{Place}
use Rattle.schema_meaning.specs.Members.{In, first, later}
use Rattle.schema_dialects.specs.Dialects.{dialect_of}
use Rattle.schema_dialects.specs.Sets.{flags, marked}
use Rattle.schema_dialects.specs.declared.dialect.Dialect.{Dialect}
use Rattle.schema_dialects.specs.declared.known.KnownVocabularies.{KnownVocabularies}
use Rattle.document_index.specs.Seen.{name_of}
use Rattle.referencing.specs.Keys as scopes
use Rattle.referencing.proofs.KeyLemmas.{keys_eq-Decides}
use Rattle.reading_laws.specs.Keys.{Distinct}
use Rattle.reached_sites.specs.Growing.{StandsAt}
use Rattle.reached_sites.specs.Keyed.{key_in, AreOne, draft_number, flag_number, known_numbers, numbers_of, keys_equal}
use Rattle.reached_sites.specs.Visits.{key_at, Known}
use Rattle.reached_sites.specs.declared.compile_key.CompileKey as code
use Rattle.reached_sites.specs.declared.seen.Visits.{Visits}
use Rattle.reached_sites.specs.declared.visit.Visit.{Visit}
use Rattle.reached_sites.proofs.Keying.{key-same, one-dialect, one-key}
use Rattle.reached_sites.proofs.Placing.{placed}

-- ---- dialects by their numbers

abbrev draft_of : ℕ → Draft
draft_of zero = Draft4
draft_of (suc zero) = Draft6
draft_of (suc (suc zero)) = Draft7
draft_of (suc (suc (suc zero))) = Draft201909
draft_of (suc (suc (suc (suc zero)))) = Draft202012
draft_of (suc (suc (suc (suc (suc n))))) = Unknown

draft-again : (d : Draft) → draft_of (draft_number d) ≡ d
draft-again Draft4 = refl
draft-again Draft6 = refl
draft-again Draft7 = refl
draft-again Draft201909 = refl
draft-again Draft202012 = refl
draft-again Unknown = refl

abbrev flag_of : ℕ → Bool
flag_of zero = false
flag_of (suc n) = true

flag-again : (b : Bool) → flag_of (flag_number b) ≡ b
flag-again true = refl
flag-again false = refl

flags-again : (bs : List Bool) → map flag_of (map flag_number bs) ≡ bs
flags-again [] = refl
flags-again (b ∷ bs) = ap₂ (λ c cs. c ∷ cs) (flag-again b) (flags-again bs)

abbrev with_known : KnownVocabularies → Dialect
with_known k = record { draft = Unknown; required = Some k; siblings = false }

one-known : (k j : KnownVocabularies) → flags k ≡ flags j → k ≡ j
one-known k j e =
    let same : with_known k ≡ with_known j = one-dialect (with_known k) (with_known j) (ap (λ bs. record { draft = Unknown; vocabularies = only (marked bs the_known); siblings = false }) e) in
    let some : Some k ≡ Some j = ap (λ (d : Dialect). d.required) same in
    cc (some)

abbrev is_more : List ℕ → Bool
is_more [] = false
is_more (n ∷ ns) = true

one-required : (o p : Option KnownVocabularies) → known_numbers o ≡ known_numbers p → o ≡ p
one-required None None e = refl
one-required None (Some k) e = absurd (false≢true (ap is_more e))
one-required (Some k) None e = absurd (true≢false (ap is_more e))
one-required (Some k) (Some j) e = ap Some (one-known k j (sym (flags-again (flags k)) ∙ ap (map flag_of) e ∙ flags-again (flags j)))

abbrev head_of : List ℕ → ℕ
head_of [] = 0
head_of (n ∷ ns) = n

abbrev rest_of : List ℕ → List ℕ
rest_of [] = []
rest_of (n ∷ ns) = ns

abbrev dialect-from : Draft → Option KnownVocabularies → Bool → Dialect
dialect-from draft required siblings = record { draft = draft; required = required; siblings = siblings }

dialect-same : {c d : Draft} {o p : Option KnownVocabularies} {s t : Bool} → c ≡ d → o ≡ p → s ≡ t → dialect-from c o s ≡ dialect-from d p t
dialect-same d o s = rw (d, o, s) refl

one-of-numbers : (d e : Dialect) → numbers_of d ≡ numbers_of e → d ≡ e
one-of-numbers d e h =
    dialect-same (sym (draft-again d.draft) ∙ ap (λ ns. draft_of (head_of ns)) h ∙ draft-again e.draft) (one-required d.required e.required (ap (λ ns. rest_of (rest_of ns)) h))
    (sym (flag-again d.siblings) ∙ ap (λ ns. flag_of (head_of (rest_of ns))) h ∙ flag-again e.siblings)

-- ---- equal keys

both-decided : {P Q : Type 0} (a b : Bool) → Decides a P → Decides b Q → Decides (a && b) (P × Q)
both-decided true b d e = (λ h. (d.0 refl, e.0 h), λ h. e.1 h.1)
both-decided false b d e = (λ h. absurd (false≢true h), λ h. absurd (false≢true (d.1 h.0)))

paths-decided : (p q : List Part) → Decides (pointwise part_eq p q) (p ≡ q)
paths-decided p q = slice_eq-Decides part_eq-Decides p q (pointwise part_eq p q) refl

dialects-decided : (d e : Dialect) → Decides (bytes_eq (numbers_of d) (numbers_of e)) (d ≡ e)
dialects-decided d e = (let n = bytes_eq-Decides (numbers_of d) (numbers_of e) in (λ h. one-of-numbers d e (n.0 h), λ h. n.1 (ap numbers_of h)))

pub equal-decides : (a b : code.CompileKey) → Decides (keys_equal a b) (AreOne a b)
equal-decides a b =
    let scope = keys_eq-Decides (scopes.key_of a.scope.value) (scopes.key_of b.scope.value) (scopes.keys_eq (scopes.key_of a.scope.value) (scopes.key_of b.scope.value)) refl in
    let d = both-decided _ _ (paths-decided a.point.schema_path.steps b.point.schema_path.steps)
    (both-decided _ _ (paths-decided a.point.place.path b.point.place.path)
    (both-decided _ _ (bytes_eq-Decides (name_of a.point.place.document) (name_of b.point.place.document))
    (both-decided _ _ scope (both-decided _ _ (dialects-decided a.dialect b.dialect) (bytes_eq-Decides a.base.value b.base.value))))) in (
      λ h. (let all = d.0 h in record {
        point = record { place = ap₂ placed all.1.1.0 all.1.0; road = all.0 };
        scope = all.1.1.1.0;
        dialect = all.1.1.1.1.0;
        base = all.1.1.1.1.1;
      }),
      λ h. d.1 (h.point.road, (ap (λ (p : Place). p.path) h.point.place, (ap (λ (p : Place). p.document) h.point.place, (h.scope, (h.dialect, h.base))))),
    )

pub one-answer : {P : Type 0} (r s : Bool) → Decides r P → Decides s P → r ≡ s
one-answer true true d e = refl
one-answer true false d e = absurd (false≢true (e.1 (d.0 refl)))
one-answer false true d e = absurd (false≢true (d.1 (e.0 refl)))
one-answer false false d e = refl

keys-of-one : (a b : code.CompileKey) → AreOne a b → key_in a ≡ key_in b
keys-of-one a b h = key-same (ap (λ (p : Place). p.document) h.point.place) (ap (λ (p : Place). p.path) h.point.place) h.base h.scope (ap dialect_of h.dialect) h.point.road

one-of-keys : (a b : code.CompileKey) → key_in a ≡ key_in b → AreOne a b
one-of-keys a b e = record {
  point = record { place = ap₂ placed (ap (λ (k : CompileKey). k.document) e) (ap (λ (k : CompileKey). k.path) e); road = ap (λ (k : CompileKey). k.schema_path) e };
  scope = ap (λ (k : CompileKey). k.scope) e;
  dialect = one-dialect a.dialect b.dialect (ap (λ (k : CompileKey). k.dialect) e);
  base = ap (λ (k : CompileKey). k.base) e;
}

-- ---- positions

module _ {A : Type 0} where
  at-end : (xs : List A) (x : A) → slice_get (xs ++ x ∷ []) (length xs) ≡ Some x
  at-end [] x = refl
  at-end (y ∷ xs) x = at-end xs x

  in-place : (xs : List A) (i : ℕ) (x : A) → slice_get xs i ≡ Some x → In x xs
  in-place [] i x e = absurd (cc (e))
  in-place (y ∷ xs) zero x e = (let same : y ≡ x = cc in subst (λ z. In z (y ∷ xs)) same first)
  in-place (y ∷ xs) (suc i) x e = later (in-place xs i x e)

  none-passes : (test : A → Bool) (xs : List A) → list_any test xs ≡ false → position_or_len test xs ≡ length xs
  none-passes test [] e = refl
  none-passes test (x ∷ xs) e = by (test x) e (none-passes test xs)
    where
      by : (b : Bool) → (b || list_any test xs) ≡ false → (list_any test xs ≡ false → position_or_len test xs ≡ length xs) → cond (not b) (1 + position_or_len test xs) 0 ≡ suc (length xs)
      by true e rest = absurd (true≢false e)
      by false e rest = (let h = rest e in omega (arith, h))

  get-map : {B : Type 0} (f : A → B) (xs : List A) (i : ℕ) → slice_get (map f xs) i ≡ option_map f (slice_get xs i)
  get-map f [] i = refl
  get-map f (x ∷ xs) zero = refl
  get-map f (x ∷ xs) (suc i) = get-map f xs i

or-first : (a b : Bool) → a ≡ true → (a || b) ≡ true
or-first true b e = refl
or-first false b e = absurd (false≢true e)

or-second : (a b : Bool) → b ≡ true → (a || b) ≡ true
or-second true b e = refl
or-second false b e = e

of-some : (o : Option Visit) (k : CompileKey) → option_map key_at o ≡ Some k → (v : Visit) × (o ≡ Some v) × (key_at v ≡ k)
of-some None k e = absurd (cc (e))
of-some (Some v) k e = (v, refl, cc (e))

-- ---- a visit more

abbrev pub AreFiled : List code.CompileKey → List Visit → Type 0
AreFiled ks vs = map key_in ks ≡ map key_at vs

pub nothing-filed : (ks : List code.CompileKey) (vs : List Visit) → ks ≡ [] → vs ≡ [] → AreFiled ks vs
nothing-filed ks vs e f = ap (map key_in) e ∙ sym (ap (map key_at) f)

pub still-filed : (ks js : List code.CompileKey) (vs ws : List Visit) → js ≡ ks → ws ≡ vs → AreFiled ks vs → AreFiled js ws
still-filed ks js vs ws e f h = ap (map key_in) e ∙ h ∙ sym (ap (map key_at) f)

module _ (key : code.CompileKey) where
  any-equal : (ks : List code.CompileKey) (k : CompileKey) → In k (map key_in ks) → key_in key ≡ k → list_any (keys_equal key) ks ≡ true
  any-equal [] k i e = elim i [ ]
  any-equal (j ∷ ks) _ first e = or-first (keys_equal key j) (list_any (keys_equal key) ks) ((equal-decides key j).1 (one-of-keys key j e))
  any-equal (j ∷ ks) k (later i) e = or-second (keys_equal key j) (list_any (keys_equal key) ks) (any-equal ks k i e)

  none-equal : (ks : List code.CompileKey) → AllByRecursion (λ j. keys_equal key j ≡ false) ks → list_any (keys_equal key) ks ≡ false
  none-equal [] h = refl
  none-equal (j ∷ ks) h = ap₂ (λ a b. a || b) h.0 (none-equal ks h.1)

  module _ (ks : List code.CompileKey) (vs : List Visit) (v : Visit) (filed : AreFiled ks vs) (is : key_in key ≡ key_at v) where
    pub filed-more : AreFiled (ks ++ key ∷ []) (vs ++ v ∷ [])
    filed-more = map-append key_in ks (key ∷ []) ∙ ap₂ (λ xs x. xs ++ x ∷ []) filed is ∙ sym (map-append key_at vs (v ∷ []))

    as-long : length ks ≡ length vs
    as-long = sym (length-map ks key_in) ∙ ap length filed ∙ length-map vs key_at

    pub new-stands : list_any (keys_equal key) ks ≡ false → (position : ℕ) → position ≡ position_or_len (keys_equal key) ks → StandsAt (vs ++ v ∷ []) position v
    new-stands new position e =
        let last = e ∙ none-passes (keys_equal key) ks new ∙ as-long in
        (v, subst (λ i. slice_get (vs ++ v ∷ []) i ≡ Some v) (sym last) (at-end vs v), inl refl)

    module _ (position : ℕ) (k : code.CompileKey) (at : slice_get ks position ≡ Some k) (equal : keys_equal key k ≡ true) where
      visit-there : (w : Visit) × (slice_get vs position ≡ Some w) × (key_at w ≡ key_in k)
      visit-there =
          of-some (slice_get vs position) (key_in k)
          (sym (get-map key_at vs position) ∙ ap (λ (xs : List CompileKey). slice_get xs position) (sym filed) ∙ get-map key_in ks position ∙ ap (option_map key_in) at)

      same-key : key_at visit-there.0 ≡ key_at v
      same-key = visit-there.2 ∙ sym (keys-of-one key k ((equal-decides key k).0 equal)) ∙ is

      pub known-stands : StandsAt vs position v
      known-stands = (visit-there.0, visit-there.1, inr (one-key visit-there.0 v same-key))

      pub is-known : Known vs v
      is-known = record { visit = visit-there.0; listed = in-place vs position visit-there.0 visit-there.1; same = one-key visit-there.0 v same-key }

distinct-keys : (ks : List code.CompileKey) → IsDistinct keys_equal ks → Distinct (map key_in ks)
distinct-keys [] h = tt
distinct-keys (k ∷ ks) h = (
  λ i. false≢true (sym (none-equal k ks (IsDistinct-head keys_equal k ks h)) ∙ any-equal k ks (key_in k) i refl),
  distinct-keys ks (IsDistinct-tail keys_equal k ks h),
)

-- no two visits have one key
pub keys-apart : (vs : Visits) → Distinct (map key_at vs.list.items)
keys-apart vs = subst (λ (xs : List CompileKey). Distinct xs) vs.filed (distinct-keys vs.keys.keys vs.apart)
