-- Components that are apart in the text come back from it.
use Rattle.std.proofs.Common.{◌≡◌, ◌==◌, ◌∙◌, ◌||◌, ◌&&◌, List, [], ◌∷◌, ◌++◌, ℕ, not, Bool, true, false, ap, sym, refl, eq-eqb, append_assoc, Option, Some, None, if◌then◌else◌}
use Rattle.std.specs.Prelude.{codes}
use Rattle.std.proofs.lemmas.Bool.{or_parts, or_left, or_right, and_parts, not-true, eqb-true}
use Rattle.std.proofs.lemmas.List.{append-nil}
use Rattle.uri_grammar.specs.Texts.{cut_at, has, is_empty, is_none, all_or_none}
use Rattle.uri_grammar.specs.Parts.{Parts, split, recompose, before, behind, scheme_of, authority_of, authority_in, after_slashes, from_slash}
use Rattle.uri_grammar.specs.Grammar.{stands_behind, lacks_colon, is_scheme, is_authority, is_path, is_query, is_fragment, is_placed, is_reference, is_pchar}
use Rattle.uri_grammar.proofs.Cuts.{scheme_named}
use Rattle.uri_grammar.proofs.Halves.{cut_on, cut_behind, cut_none, cut_whole}
use Rattle.uri_grammar.proofs.Bytes.{has_append}
use Rattle.uri_grammar.proofs.Lacks.{scheme_lacks, authority_lacks, encoded_lacks}
use Rattle.uri_grammar.proofs.AddressLacks.{outside_hash, outside_slash, outside_question}

-- a cut behind what lacks c
cut_past : (c : ℕ) (xs ys : List ℕ) → has c xs ≡ false → cut_at c (xs ++ ys) ≡ (xs ++ (cut_at c ys).0, (cut_at c ys).1)
cut_past c [] ys h = refl
cut_past c (x ∷ xs) ys h =
    let f = or_parts (x == c) (has c xs) h in
    cut_on c x (xs ++ ys) f.0 ∙ ap (λ p. (x ∷ p.0, p.1)) (cut_past c xs ys f.1)

has_in : (c : ℕ) (xs ys : List ℕ) → has c (xs ++ c ∷ ys) ≡ true
has_in c [] ys = or_left (c == c) (has c ys) (eq-eqb c c refl)
has_in c (x ∷ xs) ys = or_right (x == c) (has c (xs ++ c ∷ ys)) (has_in c xs ys)

scheme_none : (p : List ℕ × Option (List ℕ)) (text : List ℕ) → has 47 p.0 ≡ true → scheme_of p text ≡ (None, text)
scheme_none (front, None) text h = refl
scheme_none (front, Some rest) text h = ap (λ b. if b then (None, text) else (Some front, rest)) (or_right (is_empty front) (has 47 front) h)

-- no scheme in a path without a colon before its first slash
no_scheme : (path : List ℕ) → has 58 (cut_at 47 path).0 ≡ false → scheme_of (cut_at 58 path) path ≡ (None, path)
no_scheme path h = go (cut_at 47 path).0 (cut_at 47 path).1 h (cut_whole 47 path)
  where
    go : (xs : List ℕ) (o : Option (List ℕ)) → has 58 xs ≡ false → xs ++ behind (47 ∷ []) o ≡ path → scheme_of (cut_at 58 path) path ≡ (None, path)
    go xs None h e = ap (λ p. scheme_of p path) (cut_none 58 path (ap (has 58) (sym e ∙ append-nil xs) ∙ h))
    go xs (Some ys) h e = scheme_none (cut_at 58 path) path (ap (has 47)
        (ap (λ t. (cut_at 58 t).0) (sym e) ∙ ap (λ p. p.0) (cut_past 58 xs (47 ∷ ys) h) ∙ ap (λ p. xs ++ p.0) (cut_on 58 47 ys refl)) ∙ has_in 47 xs (cut_at 58 ys).0)

slash_first : (text : List ℕ) → scheme_of (cut_at 58 (47 ∷ text)) (47 ∷ text) ≡ (None, 47 ∷ text)
slash_first text = scheme_none (cut_at 58 (47 ∷ text)) (47 ∷ text) (ap (λ p. has 47 p.0) (cut_on 58 47 text refl))

-- a scheme, and the rest
filled_scheme : (s : List ℕ) → is_scheme s ≡ true → is_empty s ≡ false
filled_scheme [] h = absurd cc
filled_scheme (b ∷ s) h = refl

scheme_back : (scheme authority : Option (List ℕ)) (path : List ℕ) → all_or_none is_scheme scheme ≡ true → (not (is_none scheme) || not (is_none authority) || lacks_colon path) ≡ true → scheme_of (cut_at 58 (before scheme (codes ":") ++ behind (codes "//") authority ++ path)) (before scheme (codes ":") ++ behind (codes "//") authority ++ path) ≡ (scheme, behind (codes "//") authority ++ path)
scheme_back (Some s) authority path sound led =
    let rest = behind (codes "//") authority ++ path in
    let e : s ++ codes ":" ++ behind (codes "//") authority ++ path ≡ s ++ 58 ∷ rest = append_assoc (s ++ codes ":") (behind (codes "//") authority) path ∙ append_assoc s (codes ":") rest in
    ap (λ t. scheme_of (cut_at 58 t) t) e
    ∙ ap (λ p. scheme_of p (s ++ 58 ∷ rest)) (cut_behind 58 s (Some rest) (scheme_lacks 58 refl refl s sound))
    ∙ scheme_named s rest (s ++ 58 ∷ rest) (filled_scheme s sound) (scheme_lacks 47 refl refl s sound)
scheme_back None (Some a) path sound led = slash_first (47 ∷ a ++ path)
scheme_back None None path sound led = no_scheme path (not-true (has 58 (cut_at 47 path).0) led)

authority_back : (authority : Option (List ℕ)) (path : List ℕ) → all_or_none is_authority authority ≡ true → stands_behind authority path ≡ true → authority_of (behind (codes "//") authority ++ path) ≡ (authority, path)
authority_back None path sound placed = go (after_slashes path) refl placed
  where
    go : (o : Option (List ℕ)) → after_slashes path ≡ o → not (not (is_none o)) ≡ true → authority_in path (after_slashes path) ≡ (None, path)
    go None e k = ap (authority_in path) e
    go (Some rest) e k = absurd cc
authority_back (Some a) [] sound placed = ap (λ p. (Some p.0, from_slash p)) (cut_behind 47 a None (authority_lacks 47 outside_slash refl refl a sound))
authority_back (Some a) (x ∷ rest) sound placed =
    ap (λ y. (Some (cut_at 47 (a ++ y ∷ rest)).0, from_slash (cut_at 47 (a ++ y ∷ rest)))) (eqb-true x 47 placed)
    ∙ ap (λ p. (Some p.0, from_slash p)) (cut_behind 47 a (Some rest) (authority_lacks 47 outside_slash refl refl a sound))
    ∙ ap (λ y. (Some a, y ∷ rest)) (sym (eqb-true x 47 placed))

before_lacks : (test : List ℕ → Bool) (c : ℕ) (mark : List ℕ) → has c mark ≡ false → ((t : List ℕ) → test t ≡ true → has c t ≡ false) → (o : Option (List ℕ)) → all_or_none test o ≡ true → has c (before o mark) ≡ false
before_lacks test c mark m lack None h = refl
before_lacks test c mark m lack (Some t) h = has_append c t mark (lack t h) m

behind_lacks : (test : List ℕ → Bool) (c : ℕ) (mark : List ℕ) → has c mark ≡ false → ((t : List ℕ) → test t ≡ true → has c t ≡ false) → (o : Option (List ℕ)) → all_or_none test o ≡ true → has c (behind mark o) ≡ false
behind_lacks test c mark m lack None h = refl
behind_lacks test c mark m lack (Some t) h = has_append c mark t m (lack t h)

pub back : (p : Parts) → is_reference p ≡ true → split (recompose p) ≡ p
unfolding split is_reference
back p h =
    let f5 = and_parts (all_or_none is_scheme p.scheme && all_or_none is_authority p.authority && is_path p.path && all_or_none is_query p.query && all_or_none is_fragment p.fragment) (is_placed p) h in
    let f4 = and_parts (all_or_none is_scheme p.scheme && all_or_none is_authority p.authority && is_path p.path && all_or_none is_query p.query) (all_or_none is_fragment p.fragment) f5.0 in
    let f3 = and_parts (all_or_none is_scheme p.scheme && all_or_none is_authority p.authority && is_path p.path) (all_or_none is_query p.query) f4.0 in
    let f2 = and_parts (all_or_none is_scheme p.scheme && all_or_none is_authority p.authority) (is_path p.path) f3.0 in
    let f1 = and_parts (all_or_none is_scheme p.scheme) (all_or_none is_authority p.authority) f2.0 in
    let placed = and_parts (stands_behind p.authority p.path) (not (is_none p.scheme) || not (is_none p.authority) || lacks_colon p.path) f5.1 in
    let scheme = before p.scheme (codes ":") in
    let authority = behind (codes "//") p.authority in
    let upper = scheme ++ authority ++ p.path in
    let hash : has 35 upper ≡ false =
    has_append 35 (scheme ++ authority) p.path
    (has_append 35 scheme authority (before_lacks is_scheme 35 (codes ":") refl (λ t k. scheme_lacks 35 refl refl t k) p.scheme f1.0) (behind_lacks is_authority 35 (codes "//") refl (λ t k. authority_lacks 35 outside_hash refl refl t k) p.authority f1.1))
    (encoded_lacks (λ b. is_pchar b || b == 47) 35 refl refl refl 0 p.path f2.1) in
    let question : has 63 upper ≡ false =
    has_append 63 (scheme ++ authority) p.path
    (has_append 63 scheme authority (before_lacks is_scheme 63 (codes ":") refl (λ t k. scheme_lacks 63 refl refl t k) p.scheme f1.0) (behind_lacks is_authority 63 (codes "//") refl (λ t k. authority_lacks 63 outside_question refl refl t k) p.authority f1.1))
    (encoded_lacks (λ b. is_pchar b || b == 47) 63 refl refl refl 0 p.path f2.1) in
    let hash_behind : has 35 (behind (codes "?") p.query) ≡ false = behind_lacks is_query 35 (codes "?") refl (λ t k. encoded_lacks (λ b. is_pchar b || has b (codes "/?")) 35 refl refl refl 0 t k) p.query f3.1 in
    ap by_fragment (cut_behind 35 (upper ++ behind (codes "?") p.query) p.fragment (has_append 35 upper (behind (codes "?") p.query) hash hash_behind))
    ∙ ap (by_query p.fragment) (cut_behind 63 upper p.query question)
    ∙ ap (by_scheme p.query p.fragment) (scheme_back p.scheme p.authority p.path f1.0 placed.1)
    ∙ ap (by_authority p.scheme p.query p.fragment) (authority_back p.authority p.path f1.1 placed.0)
  where
    by_authority : Option (List ℕ) → Option (List ℕ) → Option (List ℕ) → Option (List ℕ) × List ℕ → Parts
    by_authority scheme query fragment a = record { scheme = scheme; authority = a.0; path = a.1; query = query; fragment = fragment }

    by_scheme : Option (List ℕ) → Option (List ℕ) → Option (List ℕ) × List ℕ → Parts
    by_scheme query fragment s = by_authority s.0 query fragment (authority_of s.1)

    by_query : Option (List ℕ) → List ℕ × Option (List ℕ) → Parts
    by_query fragment q = by_scheme q.1 fragment (scheme_of (cut_at 58 q.0) q.0)

    by_fragment : List ℕ × Option (List ℕ) → Parts
    by_fragment f = by_query f.1 (cut_at 63 f.0)
