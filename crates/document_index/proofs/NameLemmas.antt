-- Names by their first occurrence, one more at a time.
use Rattle.std.proofs.Common.{◌≡◌, ◌∙◌, ℕ, List, [], ◌∷◌, ◌++◌, Bool, true, false, ◌||◌, cond, if◌then◌else◌, refl, ap, bytes_eq, append-nil}
use Rattle.std.specs.List.{list_any, flat_map}
use Rattle.std.specs.Cmp.Lexicographic.{nat_list_eq_equiv}
use Rattle.std.proofs.lemmas.List.Folds.{list_any-append}
use Rattle.std.proofs.lemmas.Grind.{flat_map-append}
use Rattle.schema_definitions.specs.Words.{has_text}
use Rattle.schema_definitions.specs.Bearers.{Standing}
use Rattle.schema_definitions.specs.CompileKeys.{first_ones, names_at}
use Rattle.document_index.specs.Indexes.{dynamic_names_among}

-- one more noted among texts
or-cond : (b o : Bool) → cond b true o ≡ (b || o)
or-cond true o = refl
or-cond false o = refl

pub noted : (t q : List ℕ) (o : Bool) → cond (bytes_eq t q) true o ≡ (bytes_eq q t || o)
noted t q o = or-cond (bytes_eq t q) o ∙ ap (λ b. b || o) (nat_list_eq_equiv.symm t q)

-- ---- one more text behind the others

unless : (u : List ℕ) (a : Bool) → (if a then [] else u ∷ []) ≡ (if a || false then [] else u ∷ [])
unless u true = refl
unless u false = refl

moved : (p a f : Bool) → ((p || a) || f) ≡ (a || (p || f))
moved true true f = refl
moved true false f = refl
moved false true f = refl
moved false false f = refl

abbrev With : List ℕ → Bool → List (List ℕ) → List (List ℕ)
With u a xs = xs ++ (if a || list_any (bytes_eq u) xs then [] else u ∷ [])

one_in_front : (u x : List ℕ) (a b : Bool) (xs ys xs' ys' : List (List ℕ)) → xs' ≡ With u a xs → ys' ≡ With u (bytes_eq u x || a) ys
    → (if b then xs' else x ∷ ys') ≡ With u a (if b then xs else x ∷ ys)
one_in_front u x a true xs ys xs' ys' old new = old
one_in_front u x a false xs ys xs' ys' old new =
    ap (λ zs. x ∷ zs) new ∙ ap (λ t. x ∷ (ys ++ (if t then [] else u ∷ []))) (moved (bytes_eq u x) a (list_any (bytes_eq u) ys))

one_behind : (u : List ℕ) (seen xs : List (List ℕ)) → first_ones seen (xs ++ u ∷ []) ≡ With u (list_any (bytes_eq u) seen) (first_ones seen xs)
one_behind u seen [] = unless u (list_any (bytes_eq u) seen)
one_behind u seen (x ∷ xs) =
    one_in_front u x (list_any (bytes_eq u) seen) (list_any (bytes_eq x) seen) (first_ones seen xs) (first_ones (x ∷ seen) xs) (first_ones seen (xs ++ u ∷ [])) (first_ones (x ∷ seen) (xs ++ u ∷ []))
    (one_behind u seen xs) (one_behind u (x ∷ seen) xs)

-- ---- one more schema place: it bears no name, one that others bear, or one that no other bears

names_behind : (ss : List Standing) (s : Standing) → flat_map names_at (ss ++ s ∷ []) ≡ flat_map names_at ss ++ names_at s
names_behind ss s = flat_map-append names_at ss (s ∷ []) ∙ ap (λ ns. flat_map names_at ss ++ ns) (append-nil (names_at s))

pub no_name : (ss : List Standing) (s : Standing) → names_at s ≡ [] → dynamic_names_among (ss ++ s ∷ []) ≡ dynamic_names_among ss
no_name ss s e = ap (first_ones []) (names_behind ss s ∙ ap (λ ns. flat_map names_at ss ++ ns) e ∙ append-nil (flat_map names_at ss))

one_name : (ss : List Standing) (s : Standing) (u : List ℕ) (b : Bool) → names_at s ≡ u ∷ [] → has_text u (dynamic_names_among ss) ≡ b
    → dynamic_names_among (ss ++ s ∷ []) ≡ dynamic_names_among ss ++ (if b then [] else u ∷ [])
one_name ss s u b e is =
    ap (first_ones []) (names_behind ss s ∙ ap (λ ns. flat_map names_at ss ++ ns) e)
    ∙ one_behind u [] (flat_map names_at ss)
    ∙ ap (λ t. dynamic_names_among ss ++ (if t then [] else u ∷ [])) is

pub old_name : (ss : List Standing) (s : Standing) (u : List ℕ) → names_at s ≡ u ∷ [] → has_text u (dynamic_names_among ss) ≡ true
    → dynamic_names_among (ss ++ s ∷ []) ≡ dynamic_names_among ss
old_name ss s u e is = one_name ss s u true e is ∙ append-nil (dynamic_names_among ss)

pub new_name : (ss : List Standing) (s : Standing) (u : List ℕ) → names_at s ≡ u ∷ [] → has_text u (dynamic_names_among ss) ≡ false
    → dynamic_names_among (ss ++ s ∷ []) ≡ dynamic_names_among ss ++ u ∷ []
new_name ss s u e is = one_name ss s u false e is

-- a text is among some with one more where it is that one or was among them
or-turned : (a b : Bool) → (a || (b || false)) ≡ (b || a)
or-turned true true = refl
or-turned true false = refl
or-turned false true = refl
or-turned false false = refl

pub among_more : (q u : List ℕ) (ns : List (List ℕ)) → has_text q (ns ++ u ∷ []) ≡ (bytes_eq q u || has_text q ns)
among_more q u ns = list_any-append (bytes_eq q) ns (u ∷ []) ∙ or-turned (list_any (bytes_eq q) ns) (bytes_eq q u)
