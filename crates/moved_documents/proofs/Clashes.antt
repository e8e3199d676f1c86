-- Standings of which no two clash: what they bear is compared two by two.
use Rattle.std.proofs.Common.{◌≡◌, ◌∙◌, ◌||◌, ◌&&◌, ℕ, List, [], ◌∷◌, ◌++◌, not, Bool, true, false, if◌then◌else◌, Option, bytes_eq, is_some, refl, sym, ap, subst}
use Rattle.std.proofs.lemmas.Slice.Eq.{bytes_eq-Decides}
use Rattle.std.specs.List.{list_all, list_any}
use Rattle.schema_meaning.specs.Members.{In, first, later}
use Rattle.schema_definitions.specs.Words.{has_text}
use Rattle.schema_definitions.specs.Identifiers.{identifier, anchors}
use Rattle.schema_definitions.specs.Places.{Dialect}
use Rattle.schema_definitions.specs.Bearers.{Documents, Standing, standings, uri_in, is_root, bears, bears_anchor}
use Rattle.moved_documents.specs.Premises.{BornOnce}

-- ---- what one bears

abbrev named : Bool → List ℕ → List (List ℕ)
named b uri = if b then uri ∷ [] else []

abbrev borne_where : Bool → Bool → Bool → List ℕ → List ℕ → List (List ℕ)
borne_where awaits root identified given base = if awaits then [] else named root given ++ named identified base

-- what one bears
abbrev borne : Standing → List (List ℕ)
borne s = borne_where (is_some s.place.awaits) (is_root s.place.path) (is_some (identifier s.place.dialect s.place.contents)) (uri_in s.document) s.place.base

in_named : (b : Bool) (x uri : List ℕ) (rest : List (List ℕ)) → (b && bytes_eq x uri) ≡ true → In uri (named b x ++ rest)
in_named true x uri rest e = (let same : uri ≡ x = sym ((bytes_eq-Decides x uri).0 e) in subst (λ (u : List ℕ). In u (x ∷ rest)) (sym same) first)
in_named false x uri rest e = (let no : false ≡ true = e in absurd (cc))

behind_named : (b : Bool) (x uri : List ℕ) (rest : List (List ℕ)) → In uri rest → In uri (named b x ++ rest)
behind_named true x uri rest i = later i
behind_named false x uri rest i = i

alone_named : (b : Bool) (x uri : List ℕ) → (b && bytes_eq x uri) ≡ true → In uri (named b x)
alone_named true x uri e = (let same : uri ≡ x = sym ((bytes_eq-Decides x uri).0 e) in subst (λ (u : List ℕ). In u (x ∷ [])) (sym same) first)
alone_named false x uri e = (let no : false ≡ true = e in absurd (cc))

is_borne : (a b c : Bool) (x y uri : List ℕ) → (not a && ((b && bytes_eq x uri) || (c && bytes_eq y uri))) ≡ true → In uri (borne_where a b c x y)
is_borne true b c x y uri e = (let no : false ≡ true = e in absurd (cc))
is_borne false b c x y uri e = by (b && bytes_eq x uri) refl e
  where
    by : (h : Bool) → (b && bytes_eq x uri) ≡ h → (h || (c && bytes_eq y uri)) ≡ true → In uri (named b x ++ named c y)
    by true is f = in_named b x uri (named c y) is
    by false is f = behind_named b x uri (named c y) (alone_named c y uri f)

bears_borne : (uri : List ℕ) (s : Standing) → bears uri s ≡ true → In uri (borne s)
bears_borne uri s e =
    is_borne (is_some s.place.awaits) (is_root s.place.path) (is_some (identifier s.place.dialect s.place.contents)) (uri_in s.document) s.place.base uri e

either_so : (a b : Bool) → b ≡ true → (a || b) ≡ true
either_so true b e = refl
either_so false b e = e

first_so : (a b : Bool) → a ≡ true → (a || b) ≡ true
first_so true b e = refl
first_so false b e = (let no : false ≡ true = e in absurd (cc))

any_so : {A : Type 0} (f : A → Bool) (x : A) (xs : List A) → In x xs → f x ≡ true → list_any f xs ≡ true
any_so f x [] i e = elim i [ ]
any_so f _ (y ∷ ys) first e = first_so (f y) (list_any f ys) e
any_so f x (y ∷ ys) (later i) e = either_so (f y) (list_any f ys) (any_so f x ys i e)

pub both_first : (a b : Bool) → (a && b) ≡ true → a ≡ true
both_first true b e = refl
both_first false b e = e

pub both_second : (a b : Bool) → (a && b) ≡ true → b ≡ true
both_second true b e = e
both_second false b e = (let no : false ≡ true = e in absurd (cc))

pub each_so : {A : Type 0} (f : A → Bool) (x : A) (xs : List A) → In x xs → list_all f xs ≡ true → f x ≡ true
each_so f x [] i e = elim i [ ]
each_so f _ (y ∷ ys) first e = both_first (f y) (list_all f ys) e
each_so f x (y ∷ ys) (later i) e = each_so f x ys i (both_second (f y) (list_all f ys) e)

-- whether two lists have a URI in common
abbrev share : List (List ℕ) → List (List ℕ) → Bool
share xs ys = list_any (λ x. has_text x ys) xs

in_both : (uri : List ℕ) (xs ys : List (List ℕ)) → In uri xs → In uri ys → share xs ys ≡ true
in_both uri xs ys i j = any_so (λ x. has_text x ys) uri xs i (any_so (bytes_eq uri) uri ys j ((bytes_eq-Decides uri uri).1 refl))

both_so : (a b : Bool) → a ≡ true → b ≡ true → (a && b) ≡ true
both_so true b e f = f
both_so false b e f = e

-- ---- two by two

abbrev pub no_two : {A : Type 0} (clash : A → A → Bool) → List A → Bool
no_two clash [] = true
no_two clash (s ∷ ss) = list_all (λ t. not (clash s t)) ss && no_two clash ss

module _ {A : Type 0} (clash : A → A → Bool) (test : A → Bool) (both : (s t : A) → test s ≡ true → test t ≡ true → clash s t ≡ true) where
  never_both : (s t : A) (ss : List A) → list_all (λ t. not (clash s t)) ss ≡ true → In t ss → test s ≡ true → test t ≡ true → ⊥
  never_both s t ss apart i e f =
      let none : not (clash s t) ≡ true = each_so (λ t. not (clash s t)) t ss i apart in
      let no : false ≡ true = sym (ap not (both s t e f)) ∙ none in
      absurd (cc)

  one_has : (ss : List A) → no_two clash ss ≡ true → (s t : A) → In s ss → In t ss → test s ≡ true → test t ≡ true → s ≡ t
  one_has [] apart s t i j e f = elim i [ ]
  one_has (x ∷ ss) apart _ _ first first e f = refl
  one_has (x ∷ ss) apart _ t first (later j) e f = absurd (never_both x t ss (both_first _ (no_two clash ss) apart) j e f)
  one_has (x ∷ ss) apart s _ (later i) first e f = absurd (never_both x s ss (both_first _ (no_two clash ss) apart) i f e)
  one_has (x ∷ ss) apart s t (later i) (later j) e f = one_has ss (both_second _ (no_two clash ss) apart) s t i j e f

-- ---- URIs, and anchors under one base

abbrev pub share_uri : Standing → Standing → Bool
share_uri s t = share (borne s) (borne t)

abbrev pub share_name : Standing → Standing → Bool
share_name s t = bytes_eq s.place.base t.place.base && share (anchors s.place.dialect s.place.contents) (anchors t.place.dialect t.place.contents)

one_base : (a b base : List ℕ) → bytes_eq a base ≡ true → bytes_eq b base ≡ true → bytes_eq a b ≡ true
one_base a b base e f = (bytes_eq-Decides a b).1 ((bytes_eq-Decides a base).0 e ∙ sym ((bytes_eq-Decides b base).0 f))

text_in : (k : List ℕ) (xs : List (List ℕ)) → has_text k xs ≡ true → In k xs
text_in k [] e = (let no : false ≡ true = e in absurd (cc))
text_in k (x ∷ xs) e = by (text_in k xs) (bytes_eq k x) refl e
  where
    by : (has_text k xs ≡ true → In k xs) → (b : Bool) → bytes_eq k x ≡ b → (b || has_text k xs) ≡ true → In k (x ∷ xs)
    by rest true is f = (let same : k ≡ x = (bytes_eq-Decides k x).0 is in subst (λ (u : List ℕ). In u (x ∷ xs)) (sym same) first)
    by rest false is f = later (rest f)

under_base : (a b c : Bool) → (a && b && c) ≡ true → (b ≡ true) × (c ≡ true)
under_base true true c e = (refl, e)
under_base true false c e = (let no : false ≡ true = e in absurd (cc))
under_base false b c e = (let no : false ≡ true = e in absurd (cc))

both_name : (base k : List ℕ) (s t : Standing) → bears_anchor anchors base k s ≡ true → bears_anchor anchors base k t ≡ true → share_name s t ≡ true
both_name base k s t e f =
    let xs = anchors s.place.dialect s.place.contents in
    let ys = anchors t.place.dialect t.place.contents in
    let here = under_base (not (is_some s.place.awaits)) (bytes_eq s.place.base base) (has_text k xs) e in
    let there = under_base (not (is_some t.place.awaits)) (bytes_eq t.place.base base) (has_text k ys) f in
    both_so (bytes_eq s.place.base t.place.base) (share xs ys) (one_base s.place.base t.place.base base here.0 there.0) (in_both k xs ys (text_in k xs here.1) (text_in k ys there.1))

-- no two have a URI in common, nor an anchor under one base
abbrev pub no_clash : List Standing → Bool
no_clash ss = no_two share_uri ss && no_two share_name ss

pub born_once : (told : List ℕ → Option Dialect) (docs : Documents) → no_clash (standings told docs) ≡ true → BornOnce told docs
born_once told docs apart =
    let all = standings told docs in
    record {
      uris = λ uri. one_has share_uri (bears uri) (λ s t e f. in_both uri (borne s) (borne t) (bears_borne uri s e) (bears_borne uri t f)) all (both_first _ (no_two share_name all) apart);
      names = λ base k. one_has share_name (bears_anchor anchors base k) (both_name base k) all (both_second (no_two share_uri all) _ apart);
    }
