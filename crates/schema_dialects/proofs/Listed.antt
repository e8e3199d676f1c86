-- What a set of vocabularies has, by its flags and its custom URIs.
use Rattle.std.proofs.Common.{◌≡◌, ◌∙◌, ◌<◌, ℕ, zero, suc, List, [], ◌∷◌, Bool, true, false, ◌&&◌, ◌||◌, arith, length, refl, sym, ap, map, String, Global, string_bytes, slice_set, get_or}
use Rattle.std.specs.List.{list_any}
use Rattle.std.specs.Ordering.{is_eq, nat_cmp, match_ordering}
use Rattle.std.specs.declared.cmp.Ordering.{Ordering}
use Rattle.std.specs.declared.cmp.Ordering.TheVariants.{Less, Equal, Greater}
use Rattle.std.specs.Cmp.Lexicographic.{slice_cmp}
use Rattle.std.specs.String.{string_cmp}
use Rattle.std.specs.BTreeMap.{is_at}
use Rattle.std.specs.BTreeSet.{insert_key}
use Rattle.std.proofs.lemmas.List.Folds.{list_any-append}
use Rattle.std.proofs.lemmas.Map.Text.{is_eq-slice_cmp}
use Rattle.std.proofs.lemmas.Slice.Eq.{bytes_eq-Decides}
use Rattle.schema_drafts.specs.Vocabularies.{Vocabulary, core, custom, is_same, the_known}
use Rattle.schema_dialects.specs.Sets.{marked, flags, required, listed}
use Rattle.schema_dialects.specs.declared.known.KnownVocabularies.{KnownVocabularies}
use Rattle.schema_dialects.specs.declared.set.VocabularySet.{VocabularySet}

and_true : (b : Bool) → (b && true) ≡ b
and_true true = refl
and_true false = refl

and_false : (b : Bool) → (b && false) ≡ false
and_false true = refl
and_false false = refl

or_false : (b : Bool) → (b || false) ≡ b
or_false true = refl
or_false false = refl

or_true : (a b : Bool) → a ≡ true → (a || b) ≡ true
or_true true b h = refl
or_true false b h = absurd cc

-- the first of the two once more
again : (a b : Bool) → (a || (a || b)) ≡ (a || b)
again true b = refl
again false b = refl

exchanged : (a b c : Bool) → (a || (b || c)) ≡ (b || (a || c))
exchanged true true c = refl
exchanged true false c = refl
exchanged false b c = refl

-- ---- flags

abbrev pub any_flag : (Vocabulary → Bool) → List Bool → List Vocabulary → Bool
any_flag test [] vs = false
any_flag test (b ∷ bs) [] = false
any_flag test (b ∷ bs) (v ∷ vs) = (test v && b) || any_flag test bs vs

any_marked : (test : Vocabulary → Bool) (bs : List Bool) (vs : List Vocabulary) → list_any test (marked bs vs) ≡ any_flag test bs vs
any_marked test [] vs = refl
any_marked test (b ∷ bs) [] = refl
any_marked test (true ∷ bs) (v ∷ vs) = ap (λ t. test v || t) (any_marked test bs vs) ∙ ap (λ t. t || any_flag test bs vs) (sym (and_true (test v)))
any_marked test (false ∷ bs) (v ∷ vs) = any_marked test bs vs ∙ ap (λ t. t || any_flag test bs vs) (sym (and_false (test v)))

flag-set : (test : Vocabulary → Bool) (bs : List Bool) (vs : List Vocabulary) (i : ℕ) → i < length bs → i < length vs
    → any_flag test (slice_set bs i true) vs ≡ (test (get_or vs i core) || any_flag test bs vs)
flag-set test [] vs i h g = absurd (omega (arith, h))
flag-set test (b ∷ bs) [] i h g = absurd (omega (arith, g))
flag-set test (b ∷ bs) (v ∷ vs) zero h g = at_first (test v) b
  where
    at_first : (t b : Bool) → ((t && true) || any_flag test bs vs) ≡ (t || ((t && b) || any_flag test bs vs))
    at_first true b = refl
    at_first false b = refl
flag-set test (b ∷ bs) (v ∷ vs) (suc i) h g =
    ap (λ t. (test v && b) || t) (flag-set test bs vs i (omega (arith, h)) (omega (arith, g)))
    ∙ exchanged (test v && b) (test (get_or vs i core)) (any_flag test bs vs)

-- ---- custom URIs

abbrev pub any_custom : (Vocabulary → Bool) → List (String Global) → Bool
any_custom test ks = list_any test (map custom (map string_bytes ks))

pub any_listed : (test : Vocabulary → Bool) (s : VocabularySet) → list_any test (listed s) ≡ (any_flag test (flags s.known) the_known || any_custom test s.custom.keys)
any_listed test s =
    list_any-append test (marked (flags s.known) the_known) (map custom (map string_bytes s.custom.keys))
    ∙ ap (λ t. t || any_custom test s.custom.keys) (any_marked test (flags s.known) the_known)

no_custom : (test : Vocabulary → Bool) (ks : List (String Global)) → ((uri : List ℕ) → test (custom uri) ≡ false) → any_custom test ks ≡ false
no_custom test [] never = refl
no_custom test (k ∷ ks) never = ap (λ t. t || any_custom test ks) (never (string_bytes k)) ∙ no_custom test ks never

-- a known one is told by its flag
pub known_listed : (v : Vocabulary) (b : Bool) (s : VocabularySet) → ((uri : List ℕ) → is_same v (custom uri) ≡ false)
    → any_flag (is_same v) (flags s.known) the_known ≡ (b || false) → b ≡ list_any (is_same v) (listed s)
known_listed v b s never told =
    sym (any_listed (is_same v) s
    ∙ ap (λ t. any_flag (is_same v) (flags s.known) the_known || t) (no_custom (is_same v) s.custom.keys never)
    ∙ or_false (any_flag (is_same v) (flags s.known) the_known)
    ∙ told ∙ or_false b)

any_of_uri : (uri : List ℕ) (ks : List (String Global)) → list_any (is_at (λ k. slice_cmp nat_cmp uri (string_bytes k))) ks ≡ any_custom (is_same (custom uri)) ks
any_of_uri uri [] = refl
any_of_uri uri (k ∷ ks) =
    ap (λ t. t || list_any (is_at (λ x. slice_cmp nat_cmp uri (string_bytes x))) ks) (is_eq-slice_cmp uri (string_bytes k))
    ∙ ap (λ t. is_same (custom uri) (custom (string_bytes k)) || t) (any_of_uri uri ks)

-- a custom one is told by its URI
pub custom_listed : (uri : List ℕ) (s : VocabularySet) → list_any (is_at (λ k. slice_cmp nat_cmp uri (string_bytes k))) s.custom.keys ≡ list_any (is_same (custom uri)) (listed s)
custom_listed uri s = any_of_uri uri s.custom.keys ∙ sym (any_listed (is_same (custom uri)) s)

-- ---- one more

equal_texts : (k x : String Global) → string_cmp k x ≡ Equal → string_bytes k ≡ string_bytes x
equal_texts k x e = (bytes_eq-Decides (string_bytes k) (string_bytes x)).0 (sym (is_eq-slice_cmp (string_bytes k) (string_bytes x)) ∙ ap is_eq e)

any_inserted : (test : Vocabulary → Bool) (ks : List (String Global)) (k : String Global)
    → any_custom test (insert_key string_cmp ks k) ≡ (test (custom (string_bytes k)) || any_custom test ks)
any_inserted test [] k = refl
any_inserted test (x ∷ xs) k = by_order (string_cmp k x) refl (any_inserted test xs k)
  where
    by_order : (o : Ordering) → string_cmp k x ≡ o → any_custom test (insert_key string_cmp xs k) ≡ (test (custom (string_bytes k)) || any_custom test xs)
        → any_custom test (match_ordering o (k ∷ x ∷ xs) (x ∷ xs) (x ∷ insert_key string_cmp xs k)) ≡ (test (custom (string_bytes k)) || any_custom test (x ∷ xs))
    by_order Less e more = refl
    by_order Equal e more =
        sym (again (test (custom (string_bytes x))) (any_custom test xs))
        ∙ ap (λ u. test (custom u) || any_custom test (x ∷ xs)) (sym (equal_texts k x e))
    by_order Greater e more =
        ap (λ t. test (custom (string_bytes x)) || t) more
        ∙ exchanged (test (custom (string_bytes x))) (test (custom (string_bytes k))) (any_custom test xs)

-- a known one more
pub flag_added : (test : Vocabulary → Bool) (i : ℕ) (old new : VocabularySet) → i < 9 → flags new.known ≡ slice_set (flags old.known) i true → new.custom.keys ≡ old.custom.keys
    → list_any test (listed new) ≡ (test (get_or the_known i core) || list_any test (listed old))
flag_added test i old new small set same =
    any_listed test new
    ∙ ap (λ ks. any_flag test (flags new.known) the_known || any_custom test ks) same
    ∙ ap (λ bs. any_flag test bs the_known || any_custom test old.custom.keys) set
    ∙ ap (λ t. t || any_custom test old.custom.keys) (flag-set test (flags old.known) the_known i small small)
    ∙ apart (test (get_or the_known i core)) (any_flag test (flags old.known) the_known) (any_custom test old.custom.keys)
    ∙ ap (λ t. test (get_or the_known i core) || t) (sym (any_listed test old))
  where
    apart : (a b c : Bool) → ((a || b) || c) ≡ (a || (b || c))
    apart true b c = refl
    apart false b c = refl

-- a custom one more
pub custom_added : (test : Vocabulary → Bool) (k : String Global) (old new : VocabularySet) → new.known ≡ old.known → new.custom.keys ≡ insert_key string_cmp old.custom.keys k
    → list_any test (listed new) ≡ (test (custom (string_bytes k)) || list_any test (listed old))
custom_added test k old new same inserted =
    any_listed test new
    ∙ ap (λ f. any_flag test (flags f) the_known || any_custom test new.custom.keys) same
    ∙ ap (λ ks. any_flag test (flags old.known) the_known || any_custom test ks) inserted
    ∙ ap (λ t. any_flag test (flags old.known) the_known || t) (any_inserted test old.custom.keys k)
    ∙ exchanged (any_flag test (flags old.known) the_known) (test (custom (string_bytes k))) (any_custom test old.custom.keys)
    ∙ ap (λ t. test (custom (string_bytes k)) || t) (sym (any_listed test old))

-- ---- known ones alone

-- one more is marked
pub one_marked : (test : Vocabulary → Bool) (i : ℕ) (old new : KnownVocabularies) → i < 9 → flags new ≡ slice_set (flags old) i true
    → list_any test (required new) ≡ (test (get_or the_known i core) || list_any test (required old))
one_marked test i old new small set =
    any_marked test (flags new) the_known
    ∙ ap (λ bs. any_flag test bs the_known) set
    ∙ flag-set test (flags old) the_known i small small
    ∙ ap (λ t. test (get_or the_known i core) || t) (sym (any_marked test (flags old) the_known))

-- what is marked
pub is_marked : (test : Vocabulary → Bool) (b : Bool) (k : KnownVocabularies) → any_flag test (flags k) the_known ≡ (b || false) → b ≡ list_any test (required k)
is_marked test b k told = sym (any_marked test (flags k) the_known ∙ told ∙ or_false b)

-- a test that no custom one passes sees the known ones alone
pub any_known : (test : Vocabulary → Bool) (s : VocabularySet) → ((uri : List ℕ) → test (custom uri) ≡ false) → list_any test (required s.known) ≡ list_any test (listed s)
any_known test s never =
    sym (any_listed test s
    ∙ ap (λ t. any_flag test (flags s.known) the_known || t) (no_custom test s.custom.keys never)
    ∙ or_false (any_flag test (flags s.known) the_known)
    ∙ sym (any_marked test (flags s.known) the_known))
