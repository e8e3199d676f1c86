-- The target of a reference against a URI is a URI.
use Rattle.std.proofs.Common.{◌≡◌, ◌==◌, ◌∙◌, ◌&&◌, ◌||◌, ◌++◌, List, [], ◌∷◌, ℕ, zero, suc, Bool, true, false, not, ap, refl, sym, append_assoc, if◌then◌else◌, inl, inr, Option, Some, None, ne_eqb, arith}
use Rattle.std.specs.Prelude.{codes}
use Rattle.uri_grammar.specs.Texts.{has, is_empty, is_none, all_or_none, is_hex}
use Rattle.uri_grammar.specs.Parts.{Parts}
use Rattle.uri_grammar.specs.Grammar.{is_encoded, is_pchar, is_scheme, is_authority, is_path, is_query, is_fragment, begins_slashed, begins_doubly, stands_behind, lacks_colon, is_reference, is_uri}
use Rattle.uri_references.specs.Dots.{up, remove_dots}
use Rattle.uri_references.specs.Resolution.{directory, is_bare, merge, or_else, target_path, target_query, guarded_path, guarded, resolve}
use Rattle.uri_references.proofs.Bools.{true_false, and_left, and_right, and_both, or_left, or_right, decided, and-three}
use Rattle.uri_references.proofs.DotLemmas.{up-keeps}
use Rattle.uri_references.proofs.PathLemmas.{remove-keeps, remove-abempty, is_abempty, abempty-join, abempty-back}

-- ---- paths over slashes

encoded-join : (allowed : ℕ → Bool) → allowed 47 ≡ true → (due : ℕ) (a b : List ℕ) → is_encoded allowed due (a ++ 47 ∷ b) ≡ (is_encoded allowed due a && is_encoded allowed 0 b)
encoded-join allowed slash zero [] b = ap (λ t. (t || false) && is_encoded allowed 0 b) slash
encoded-join allowed slash (suc due) [] b = sym (ap (λ t. t && is_encoded allowed 0 b) (ne_eqb (suc due) 0 (λ e. omega (arith, e))))
encoded-join allowed slash zero (x ∷ xs) b =
    ap (λ t. (allowed x || x == 37) && t) (encoded-join allowed slash (if x == 37 then 2 else 0) xs b) ∙ and-three (allowed x || x == 37) _ _
encoded-join allowed slash (suc due) (x ∷ xs) b =
    ap (λ t. is_hex x && t) (encoded-join allowed slash due xs b) ∙ and-three (is_hex x) _ _

path-joined : (a b : List ℕ) → is_path (a ++ 47 ∷ b) ≡ (is_path a && is_path b)
path-joined a b = encoded-join (λ n. is_pchar n || n == 47) refl 0 a b

path-join : (a b : List ℕ) → is_path a ≡ true → is_path b ≡ true → is_path (a ++ 47 ∷ b) ≡ true
path-join a b f g = path-joined a b ∙ and_both (is_path a) (is_path b) f g

path-left : (a b : List ℕ) → is_path (a ++ 47 ∷ b) ≡ true → is_path a ≡ true
path-left a b h = and_left (is_path a) (is_path b) (sym (path-joined a b) ∙ h)

path-right : (a b : List ℕ) → is_path (a ++ 47 ∷ b) ≡ true → is_path b ≡ true
path-right a b h = and_right (is_path a) (is_path b) (sym (path-joined a b) ∙ h)

pub remove-path : (path : List ℕ) → is_path path ≡ true → is_path (remove_dots path) ≡ true
remove-path path h = remove-keeps (λ t. is_path t) refl path-join path-left path-right path h

-- ---- behind an authority a path is empty or begins with a slash

unfoldable pub is_behind : Option (List ℕ) → List ℕ → Bool
is_behind None path = true
is_behind (Some a) path = is_abempty path

pub placed-behind : (a : Option (List ℕ)) (path : List ℕ) → stands_behind a path ≡ true → is_behind a path ≡ true
unfolding is_behind is_abempty
placed-behind None path h = refl
placed-behind (Some a) path h = h

pub remove-behind : (a : Option (List ℕ)) (path : List ℕ) → is_behind a path ≡ true → is_behind a (remove_dots path) ≡ true
unfolding is_behind
remove-behind None path h = refl
remove-behind (Some a) path h = remove-abempty path h

guarded-placed : (a : Option (List ℕ)) (path : List ℕ) → is_behind a path ≡ true → stands_behind a (guarded_path a path) ≡ true
unfolding is_behind is_abempty
guarded-placed None path h = by_slashes (begins_doubly path) refl
  where
    by_slashes : (d : Bool) → d ≡ begins_doubly path → not (begins_doubly (if d then codes "/." ++ path else path)) ≡ true
    by_slashes true e = refl
    by_slashes false e = ap not (sym e)
guarded-placed (Some a) path h = h

guarded-is_path : (a : Option (List ℕ)) (path : List ℕ) → is_path path ≡ true → is_path (guarded_path a path) ≡ true
guarded-is_path None path h = elim (begins_doubly path) as (λ d. is_path (if d then codes "/." ++ path else path) ≡ true) [ true ↦ h | false ↦ h ]
guarded-is_path (Some a) path h = h

-- ---- a reference, by what its grammar asks

pub record Valid (p : Parts) : Type 0 where
  pub scheme : all_or_none is_scheme p.scheme ≡ true
  pub authority : all_or_none is_authority p.authority ≡ true
  pub path : is_path p.path ≡ true
  pub query : all_or_none is_query p.query ≡ true
  pub fragment : all_or_none is_fragment p.fragment ≡ true
  pub behind : is_behind p.authority p.path ≡ true

pub valid-of : (p : Parts) → is_reference p ≡ true → Valid p
unfolding is_reference
valid-of p h =
    let placed = and_right _ _ h in
    let h4 = and_left _ _ h in
    let h3 = and_left _ _ h4 in
    let h2 = and_left _ _ h3 in
    let h1 = and_left _ _ h2 in
    record {
      scheme = and_left (all_or_none is_scheme p.scheme) _ h1;
      authority = and_right (all_or_none is_scheme p.scheme) _ h1;
      path = and_right _ (is_path p.path) h2;
      query = and_right _ (all_or_none is_query p.query) h3;
      fragment = and_right _ (all_or_none is_fragment p.fragment) h4;
      behind = placed-behind p.authority p.path (and_left (stands_behind p.authority p.path) _ placed);
    }

pub guarded-valid : (p : Parts) → Valid p → not (is_none p.scheme) ≡ true → is_uri (guarded p) ≡ true
unfolding is_reference
guarded-valid p v s =
    and_both _ (not (is_none p.scheme))
    (and_both _ _ (and_both _ _ (and_both _ _ (and_both _ _ (and_both _ _ v.scheme v.authority) (guarded-is_path p.authority p.path v.path)) v.query) v.fragment)
    (and_both _ _ (guarded-placed p.authority p.path v.behind) (or_left _ (lacks_colon (guarded_path p.authority p.path)) (or_left _ (not (is_none p.authority)) s)))) s

-- ---- merged paths

directory-join : (base path : List ℕ) → has 47 base ≡ true → directory base ++ path ≡ up base ++ 47 ∷ path
directory-join base path h = ap (λ t. (if t then up base ++ codes "/" else []) ++ path) h ∙ append_assoc (up base) (codes "/") path

directory-none : (base path : List ℕ) → has 47 base ≡ false → directory base ++ path ≡ path
directory-none base path h = ap (λ t. (if t then up base ++ codes "/" else []) ++ path) h

directory-path : (base path : List ℕ) → is_path base ≡ true → is_path path ≡ true → is_path (directory base ++ path) ≡ true
directory-path base path b h = elim (decided (has 47 base)) [
  | inl e ↦ ap (λ t. is_path t) (directory-join base path e) ∙ path-join (up base) path (up-keeps (λ t. is_path t) refl path-left base b) h
  | inr e ↦ ap (λ t. is_path t) (directory-none base path e) ∙ h
]

merge-path : (base : Parts) (path : List ℕ) → is_path base.path ≡ true → is_path path ≡ true → is_path (merge base path) ≡ true
merge-path base path b h = elim (is_bare base) as (λ t. is_path (if t then codes "/" ++ path else directory base.path ++ path) ≡ true) [
  | true ↦ h
  | false ↦ directory-path base.path path b h
]

slashed-has : (path : List ℕ) → begins_slashed path ≡ true → has 47 path ≡ true
slashed-has [] h = absurd (true_false (sym h))
slashed-has (x ∷ xs) h = or_left (x == 47) (has 47 xs) h

merge-behind : (base : Parts) (path : List ℕ) → is_behind base.authority base.path ≡ true → is_behind base.authority (merge base path) ≡ true
unfolding is_behind is_abempty
merge-behind base path h = by_authority base.authority base.path h
  where
    by_authority : (a : Option (List ℕ)) (p : List ℕ) → is_behind a p ≡ true
        → is_behind a (if not (is_none a) && is_empty p then codes "/" ++ path else directory p ++ path) ≡ true
    by_authority None p h = refl
    by_authority (Some a) [] h = refl
    by_authority (Some a) (x ∷ xs) h =
        ap is_abempty (directory-join (x ∷ xs) path (slashed-has (x ∷ xs) h))
        ∙ abempty-join (up (x ∷ xs)) path (up-keeps is_abempty refl abempty-back (x ∷ xs) h)

slashed-behind : (a : Option (List ℕ)) (path : List ℕ) → begins_slashed path ≡ true → is_behind a path ≡ true
unfolding is_behind is_abempty
slashed-behind None path h = refl
slashed-behind (Some a) path h = or_right (is_empty path) (begins_slashed path) h

-- ---- the target

target-path-valid : (base r : Parts) → is_path base.path ≡ true → is_path r.path ≡ true → is_path (target_path base r) ≡ true
target-path-valid base r b h =
    elim (is_empty r.path) as (λ e. is_path (if e then base.path else (if begins_slashed r.path then remove_dots r.path else remove_dots (merge base r.path))) ≡ true) [
      | true ↦ b
      | false ↦ elim (begins_slashed r.path) as (λ s. is_path (if s then remove_dots r.path else remove_dots (merge base r.path)) ≡ true) [
        | true ↦ remove-path r.path h
        | false ↦ remove-path (merge base r.path) (merge-path base r.path b h)
      ]
    ]

target-path-behind : (base r : Parts) → is_behind base.authority base.path ≡ true → is_behind base.authority (target_path base r) ≡ true
target-path-behind base r b = by_tests (is_empty r.path) (begins_slashed r.path) refl
  where
    by_tests : (e s : Bool) → s ≡ begins_slashed r.path
        → is_behind base.authority (if e then base.path else (if s then remove_dots r.path else remove_dots (merge base r.path))) ≡ true
    by_tests true s f = b
    by_tests false true f = remove-behind base.authority r.path (slashed-behind base.authority r.path (sym f))
    by_tests false false f = remove-behind base.authority (merge base r.path) (merge-behind base r.path b)

target-query-valid : (base r : Parts) → all_or_none is_query base.query ≡ true → all_or_none is_query r.query ≡ true → all_or_none is_query (target_query base r) ≡ true
target-query-valid base r b h = elim (is_empty r.path) as (λ e. all_or_none is_query (if e then or_else r.query base.query else r.query) ≡ true) [
  | true ↦ either r.query h
  | false ↦ h
]
  where
    either : (q : Option (List ℕ)) → all_or_none is_query q ≡ true → all_or_none is_query (or_else q base.query) ≡ true
    either None g = b
    either (Some q) g = g

pub resolve-valid : (base r : Parts) → is_uri base ≡ true → is_reference r ≡ true → is_uri (resolve base r) ≡ true
unfolding resolve
resolve-valid base r b h = by_tests (not (is_none r.scheme)) (not (is_none r.authority)) refl
  where
    scheme : not (is_none base.scheme) ≡ true
    scheme = and_right (is_reference base) _ b

    vb : Valid base
    vb = valid-of base (and_left (is_reference base) _ b)

    vr : Valid r
    vr = valid-of r h

    by_tests : (s a : Bool) → s ≡ not (is_none r.scheme) → is_uri (guarded (
        if s then record { scheme = r.scheme; authority = r.authority; path = remove_dots r.path; query = r.query; fragment = r.fragment }
        else (if a then record { scheme = base.scheme; authority = r.authority; path = remove_dots r.path; query = r.query; fragment = r.fragment }
        else record { scheme = base.scheme; authority = base.authority; path = target_path base r; query = target_query base r; fragment = r.fragment }))) ≡ true
    by_tests true a e = guarded-valid _ (record { scheme = vr.scheme; authority = vr.authority; path = remove-path r.path vr.path; query = vr.query; fragment = vr.fragment; behind = remove-behind r.authority r.path vr.behind }) (sym e)
    by_tests false true e = guarded-valid _ (record { scheme = vb.scheme; authority = vr.authority; path = remove-path r.path vr.path; query = vr.query; fragment = vr.fragment; behind = remove-behind r.authority r.path vr.behind }) scheme
    by_tests false false e = guarded-valid _ (record {
      scheme = vb.scheme;
      authority = vb.authority;
      path = target-path-valid base r vb.path vr.path;
      query = target-query-valid base r vb.query vr.query;
      fragment = vr.fragment;
      behind = target-path-behind base r vb.behind;
    }) scheme
