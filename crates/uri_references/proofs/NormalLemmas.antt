-- The normal form of a URI is a URI, and its own normal form.
use Rattle.std.proofs.Common.{◌≡◌, ◌==◌, ◌∙◌, ◌&&◌, ◌||◌, ◌++◌, List, [], ◌∷◌, ℕ, Bool, true, false, not, ap, refl, sym, if◌then◌else◌, inl, inr, Option, Some, None, option_map, arith}
use Rattle.std.proofs.lemmas.Grind.{common_steps}
use Rattle.std.specs.Char.{to_ascii_lowercase}
use Rattle.std.specs.List.{list_all}
use Rattle.std.specs.Prelude.{codes}
use Rattle.uri_grammar.specs.Texts.{has, is_none, all_or_none, is_letter}
use Rattle.uri_grammar.specs.Addresses.{is_unreserved}
use Rattle.uri_grammar.specs.Parts.{Parts}
use Rattle.uri_grammar.specs.Grammar.{is_pchar, is_scheme, is_scheme_byte, is_authority, is_path, is_query, is_fragment, begins_slashed, begins_doubly, is_reference, is_uri}
use Rattle.uri_references.specs.Dots.{remove_dots}
use Rattle.uri_references.specs.Resolution.{guarded_path, guarded}
use Rattle.uri_references.specs.NormalForm.{with_triplets, lowered, normal_authority, normal_path, normal}
use Rattle.uri_references.proofs.Bools.{true_false, and_left, and_right, and_both, or_left, decided}
use Rattle.uri_references.proofs.DotLemmas.{from_test}
use Rattle.uri_references.proofs.PathLemmas.{remove-keeps, remove-again, remove-guard, is_abempty}
use Rattle.uri_references.proofs.TripletSteps.{byte-first}
use Rattle.uri_references.proofs.SettledLemmas.{is_normal, normal-same, normal-joined, normal-none, with-normal, with-again, with-encoded, lowered-again}
use Rattle.uri_references.proofs.ResolveLemmas.{Valid, valid-of, guarded-valid, is_behind, remove-path, remove-behind}
use Rattle.uri_references.proofs.AuthorityLemmas.{authority-valid, authority-again}
use Rattle.uri_references.proofs.NormalWritten.{guard-kept}

-- ---- the scheme

lower-scheme_byte : (b : ℕ) → is_scheme_byte b ≡ true → is_scheme_byte (to_ascii_lowercase b) ≡ true
lower-scheme_byte b e = grind (arith, common_steps)

lower-letter : (b : ℕ) → is_letter b ≡ true → is_letter (to_ascii_lowercase b) ≡ true
lower-letter b e = grind (arith, common_steps)

lower-scheme_bytes : (t : List ℕ) → list_all is_scheme_byte t ≡ true → list_all is_scheme_byte (lowered t) ≡ true
lower-scheme_bytes [] h = refl
lower-scheme_bytes (b ∷ t) h = and_both (is_scheme_byte (to_ascii_lowercase b)) _ (lower-scheme_byte b (and_left (is_scheme_byte b) _ h)) (lower-scheme_bytes t (and_right (is_scheme_byte b) _ h))

lower-scheme : (t : List ℕ) → is_scheme t ≡ true → is_scheme (lowered t) ≡ true
lower-scheme [] h = h
lower-scheme (b ∷ t) h = and_both (is_letter (to_ascii_lowercase b)) _ (lower-letter b (and_left (is_letter b) _ h)) (lower-scheme_bytes t (and_right (is_letter b) _ h))

-- ---- components that may be absent

map-valid : (test : List ℕ → Bool) (f : List ℕ → List ℕ) → ((t : List ℕ) → test t ≡ true → test (f t) ≡ true) → (o : Option (List ℕ)) → all_or_none test o ≡ true → all_or_none test (option_map f o) ≡ true
map-valid test f keeps None h = refl
map-valid test f keeps (Some t) h = keeps t h

map-again : (test : List ℕ → Bool) (f : List ℕ → List ℕ) → ((t : List ℕ) → test t ≡ true → f (f t) ≡ f t) → (o : Option (List ℕ)) → all_or_none test o ≡ true → option_map f (option_map f o) ≡ option_map f o
map-again test f again None h = refl
map-again test f again (Some t) h = ap (λ x. Some x) (again t h)

map-some : (f : List ℕ → List ℕ) (o : Option (List ℕ)) → is_none (option_map f o) ≡ is_none o
map-some f None = refl
map-some f (Some t) = refl

-- ---- the path

pchar-unreserved : (b : ℕ) → is_unreserved b ≡ true → (is_pchar b || b == 47) ≡ true
pchar-unreserved b e = or_left (is_pchar b) _ (or_left _ (has b (codes ":@")) (or_left (is_unreserved b) _ e))

with-path : (t : List ℕ) → is_path t ≡ true → is_path (with_triplets t) ≡ true
with-path t h = with-encoded (λ b. is_pchar b || b == 47) pchar-unreserved t h

query-unreserved : (b : ℕ) → is_unreserved b ≡ true → (is_pchar b || has b (codes "/?")) ≡ true
query-unreserved b e = or_left (is_pchar b) _ (or_left _ (has b (codes ":@")) (or_left (is_unreserved b) _ e))

with-query : (t : List ℕ) → is_query t ≡ true → is_query (with_triplets t) ≡ true
with-query t h = with-encoded (λ b. is_pchar b || has b (codes "/?")) query-unreserved t h

with-abempty : (t : List ℕ) → is_abempty t ≡ true → is_abempty (with_triplets t) ≡ true
unfolding is_abempty
with-abempty [] h = refl
with-abempty (x ∷ xs) h =
    ap is_abempty (byte-first x xs (ap (λ n. n == 37) (from_test x 47 h))) ∙ h

with-behind : (a : Option (List ℕ)) (t : List ℕ) → is_behind a t ≡ true → is_behind a (with_triplets t) ≡ true
unfolding is_behind
with-behind None t h = refl
with-behind (Some a) t h = with-abempty t h

map-behind : (f : List ℕ → List ℕ) (a : Option (List ℕ)) (t : List ℕ) → is_behind a t ≡ true → is_behind (option_map f a) t ≡ true
unfolding is_behind
map-behind f None t h = refl
map-behind f (Some a) t h = h

-- of a URI: triplets, dot segments
uri_path : List ℕ → List ℕ
uri_path path = remove_dots (with_triplets path)

uri_path-normal : (path : List ℕ) → is_path path ≡ true → is_normal (uri_path path) ≡ true
unfolding uri_path
uri_path-normal path h =
    remove-keeps is_normal normal-none (λ a b f g. normal-joined a b ∙ and_both (is_normal a) (is_normal b) f g)
    (λ a b f. and_left (is_normal a) (is_normal b) (sym (normal-joined a b) ∙ f)) (λ a b f. and_right (is_normal a) (is_normal b) (sym (normal-joined a b) ∙ f))
    (with_triplets path) (with-normal (λ b. is_pchar b || b == 47) path h)

doubly-slashed : (path : List ℕ) → begins_doubly path ≡ true → begins_slashed path ≡ true
doubly-slashed [] h = absurd (true_false (sym h))
doubly-slashed (x ∷ []) h = absurd (true_false (sym h))
doubly-slashed (x ∷ y ∷ rest) h = by_test (x == 47) h
  where
    by_test : (t : Bool) → not (is_none (if t && y == 47 then Some rest else None)) ≡ true → t ≡ true
    by_test true f = refl
    by_test false f = f

with-guard : (path : List ℕ) → with_triplets (codes "/." ++ path) ≡ codes "/." ++ with_triplets path
with-guard path = byte-first 47 (46 ∷ path) refl ∙ ap (λ t. 47 ∷ t) (byte-first 46 path refl)

-- the guard goes again, and nothing else
guarded-again : (a : Option (List ℕ)) (path : List ℕ) → is_path path ≡ true → uri_path (guarded_path a (uri_path path)) ≡ uri_path path
unfolding uri_path
guarded-again a path h =
    let same : with_triplets (uri_path path) ≡ uri_path path = normal-same (uri_path path) (uri_path-normal path h) in
    by_authority a same
  where
    once : with_triplets (uri_path path) ≡ uri_path path → uri_path (uri_path path) ≡ uri_path path
    once same = ap remove_dots same ∙ remove-again (with_triplets path)

    by_authority : (a' : Option (List ℕ)) → with_triplets (uri_path path) ≡ uri_path path → uri_path (guarded_path a' (uri_path path)) ≡ uri_path path
    by_authority None same = elim (decided (begins_doubly (uri_path path))) [
      | inl e ↦ ap (λ t. uri_path (if t then codes "/." ++ uri_path path else uri_path path)) e
          ∙ ap remove_dots (with-guard (uri_path path)) ∙ ap (λ t. remove_dots (codes "/." ++ t)) same
          ∙ remove-guard (uri_path path) (doubly-slashed (uri_path path) e) ∙ remove-again (with_triplets path)
      | inr e ↦ ap (λ t. uri_path (if t then codes "/." ++ uri_path path else uri_path path)) e ∙ once same
    ]
    by_authority (Some x) same = once same

-- ---- the whole

pub normal-valid : (p : Parts) → is_uri p ≡ true → is_uri (normal p) ≡ true
unfolding normal
normal-valid p h = by_scheme p.scheme refl
  where
    v : Valid p
    v = valid-of p (and_left (is_reference p) _ h)

    by_scheme : (s : Option (List ℕ)) → p.scheme ≡ s → is_uri (guarded (record {
      scheme = option_map lowered p.scheme;
      authority = option_map normal_authority p.authority;
      path = normal_path p.scheme p.path;
      query = option_map with_triplets p.query;
      fragment = option_map with_triplets p.fragment;
    })) ≡ true
    by_scheme None e = absurd (true_false (sym (and_right (is_reference p) _ h) ∙ ap (λ s. not (is_none s)) e))
    by_scheme (Some t) e = guarded-valid _ (record {
      scheme = map-valid is_scheme lowered lower-scheme p.scheme v.scheme;
      authority = map-valid is_authority normal_authority authority-valid p.authority v.authority;
      path = ap (λ s. is_path (normal_path s p.path)) e ∙ remove-path (with_triplets p.path) (with-path p.path v.path);
      query = map-valid is_query with_triplets with-query p.query v.query;
      fragment = map-valid is_fragment with_triplets with-query p.fragment v.fragment;
      behind = ap (λ s. is_behind (option_map normal_authority p.authority) (normal_path s p.path)) e
          ∙ map-behind normal_authority p.authority (remove_dots (with_triplets p.path)) (remove-behind p.authority (with_triplets p.path) (with-behind p.authority p.path v.behind));
    }) (ap not (map-some lowered p.scheme) ∙ and_right (is_reference p) _ h)

parts : Option (List ℕ) → Option (List ℕ) → List ℕ → Option (List ℕ) → Option (List ℕ) → Parts
parts s a t q f = record { scheme = s; authority = a; path = t; query = q; fragment = f }

same-parts : (s s' a a' : Option (List ℕ)) (t t' : List ℕ) (q q' f f' : Option (List ℕ)) → s ≡ s' → a ≡ a' → t ≡ t' → q ≡ q' → f ≡ f' → parts s a t q f ≡ parts s' a' t' q' f'
same-parts s s' a a' t t' q q' f f' e1 e2 e3 e4 e5 =
    ap (λ x. parts x a t q f) e1 ∙ ap (λ x. parts s' x t q f) e2 ∙ ap (λ x. parts s' a' x q f) e3 ∙ ap (λ x. parts s' a' t' x f) e4 ∙ ap (λ x. parts s' a' t' q' x) e5

pub normal-again : (p : Parts) → is_uri p ≡ true → normal (normal p) ≡ normal p
unfolding normal uri_path parts
normal-again p h = by_scheme p.scheme refl
  where
    v : Valid p
    v = valid-of p (and_left (is_reference p) _ h)

    by_scheme : (s : Option (List ℕ)) → p.scheme ≡ s → normal (normal p) ≡ normal p
    by_scheme None e = absurd (true_false (sym (and_right (is_reference p) _ h) ∙ ap (λ s. not (is_none s)) e))
    by_scheme (Some t) e =
        let scheme = map-again is_scheme lowered (λ s g. lowered-again s) p.scheme v.scheme in
        let authority = map-again is_authority normal_authority authority-again p.authority v.authority in
        let query = map-again is_query with_triplets (λ s g. with-again (λ b. is_pchar b || has b (codes "/?")) s g) p.query v.query in
        let fragment = map-again is_fragment with_triplets (λ s g. with-again (λ b. is_pchar b || has b (codes "/?")) s g) p.fragment v.fragment in
        let path : guarded_path (option_map normal_authority (option_map normal_authority p.authority)) (normal_path (option_map lowered p.scheme) (guarded_path (option_map normal_authority p.authority) (normal_path p.scheme p.path)))
        ≡ guarded_path (option_map normal_authority p.authority) (normal_path p.scheme p.path) =
        guard-kept normal_authority (option_map normal_authority p.authority) _
        ∙ ap (λ s. guarded_path (option_map normal_authority p.authority) (normal_path (option_map lowered s) (guarded_path (option_map normal_authority p.authority) (normal_path s p.path)))) e
        ∙ ap (guarded_path (option_map normal_authority p.authority)) (guarded-again (option_map normal_authority p.authority) p.path v.path)
        ∙ ap (λ s. guarded_path (option_map normal_authority p.authority) (normal_path s p.path)) (sym e) in
        same-parts _ _ _ _ _ _ _ _ _ _ scheme authority path query fragment
