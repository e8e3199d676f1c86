-- An obliged step that is refused refuses its keyword.
use Rattle.std.proofs.Common.{◌≡◌, ◌==◌, List, [], ◌∷◌, Bool, true, false, ◌&&◌, map, Option, Some, None, refl, sym, ap, ap₂, ◌∙◌, subst}
use Rattle.schema_meaning.specs.Members.{In, first, later, is_empty, all_true, some_true, count_true, known_too, all_known}
use Rattle.schema_meaning.specs.Questions.{Question, each_name}
use Rattle.schema_meaning.specs.Rules.{Rule, every, together, each_named, some_branch, one_branch, refusal, counted, conditional, asks, accepts, obliged, lone, chosen, if_same, consequents}
use Rattle.meaning_laws.proofs.Known.{known_head}
use Rattle.meaning_laws.proofs.Verdicts.{chosen-map}

pub in_map : {A B : Type 0} (f : A → B) (x : A) (xs : List A) → In x xs → In (f x) (map f xs)
in_map f x [] i = elim i [ ]
in_map f x (y ∷ xs) first = first
in_map f x (y ∷ xs) (later i) = later (in_map f x xs i)

pub one_false : (bs : List Bool) → In false bs → all_true bs ≡ false
one_false [] i = elim i [ ]
one_false (b ∷ bs) first = refl
one_false (true ∷ bs) (later i) = one_false bs i
one_false (false ∷ bs) (later i) = refl

pub not_all : {A : Type 0} (o : A → Bool) (q : A) (qs : List A) → In q qs → o q ≡ false → all_true (map o qs) ≡ false
not_all o q qs i e = one_false (map o qs) (subst (λ b. In b (map o qs)) e (in_map o q qs i))

and_false : (b c : Bool) → c ≡ false → (b && c) ≡ false
and_false true c e = e
and_false false c e = refl

some_lone : {A : Type 0} (o : A → Bool) (q : A) (qs : List A) → In q (lone qs) → o q ≡ false → some_true (map o qs) ≡ false
some_lone o q [] i e = elim i [ ]
some_lone o q (x ∷ []) first e = rw e refl
some_lone o q (x ∷ []) (later i) e = elim i [ ]
some_lone o q (x ∷ y ∷ qs) i e = elim i [ ]

one_lone : {A : Type 0} (o : A → Bool) (q : A) (qs : List A) → In q (lone qs) → o q ≡ false → (count_true (map o qs) == 1) ≡ false
one_lone o q [] i e = elim i [ ]
one_lone o q (x ∷ []) first e = rw e refl
one_lone o q (x ∷ []) (later i) e = elim i [ ]
one_lone o q (x ∷ y ∷ qs) i e = elim i [ ]

pub refused_when_obliged : {S : Type 0} (o : Question S → Bool) (k : Rule S) (q : Question S) → In q (obliged k (map o (asks k))) → o q ≡ false
    → accepts k (map o (asks k)) ≡ false
refused_when_obliged o (every p notes qs) q i e = and_false (is_empty notes) _ (not_all o q qs i e)
refused_when_obliged o (together p note qs) q i e = not_all o q qs i e
refused_when_obliged o (each_named p s names) q i e = not_all o q (each_name p s names) i e
refused_when_obliged o (some_branch p qs) q i e = some_lone o q qs i e
refused_when_obliged o (one_branch p qs) q i e = one_lone o q qs i e
refused_when_obliged o (refusal p schema r) q i e = elim i [ ]
refused_when_obliged o (counted least most qs) q i e = elim i [ ]
refused_when_obliged o (conditional r cs) q i e =
    ap all_true (sym (chosen-map o (o r) cs (consequents cs))) ∙ not_all o q (chosen (o r) cs (consequents cs)) i e

-- ---- an obliged step is a question

lone_in : {A : Type 0} (q : A) (qs : List A) → In q (lone qs) → In q qs
lone_in q [] i = elim i [ ]
lone_in q (x ∷ []) i = i
lone_in q (x ∷ y ∷ qs) i = elim i [ ]

if_same_in : {A : Type 0} (b c : Bool) (q x : A) (xs : List A) → In q (if_same b c x xs) → In q (x ∷ xs)
if_same_in true true q x xs i = i
if_same_in true false q x xs i = later i
if_same_in false true q x xs i = later i
if_same_in false false q x xs i = i

in_cons : {A : Type 0} (q x : A) (xs ys : List A) → In q (x ∷ xs) → (In q xs → In q ys) → In q (x ∷ ys)
in_cons q x xs ys first f = first
in_cons q x xs ys (later i) f = later (f i)

chosen_in : {S : Type 0} (b : Bool) (cs : List (Bool × Question S)) (q : Question S) → In q (chosen b cs (consequents cs)) → In q (consequents cs)
chosen_in b [] q i = elim i [ ]
chosen_in b (c ∷ cs) q i = in_cons q c.1 _ _ (if_same_in b c.0 q c.1 _ i) (chosen_in b cs q)

chosen_steps_in : {S : Type 0} (q r : Question S) (cs : List (Bool × Question S)) (bs : List Bool) → In q (obliged (conditional r cs) bs) → In q (consequents cs)
chosen_steps_in q r cs [] i = elim i [ ]
chosen_steps_in q r cs (b ∷ bs) i = chosen_in b cs q i

pub obliged_in : {S : Type 0} (k : Rule S) (bs : List Bool) (q : Question S) → In q (obliged k bs) → In q (asks k)
obliged_in (every p notes qs) bs q i = i
obliged_in (together p note qs) bs q i = i
obliged_in (each_named p s names) bs q i = i
obliged_in (some_branch p qs) bs q i = lone_in q qs i
obliged_in (one_branch p qs) bs q i = lone_in q qs i
obliged_in (refusal p schema r) bs q i = elim i [ ]
obliged_in (counted least most qs) bs q i = elim i [ ]
obliged_in (conditional r cs) bs q i = later (chosen_steps_in q r cs bs i)

-- ---- answers that are known

-- the answer, `x` where there is none
abbrev pub or : {A : Type 0} → A → Option A → A
or x None = x
or x (Some y) = y

none_too : {A : Type 0} (o : Option A) (os : Option (List A)) → known_too o os ≡ Some [] → ⊥
none_too None os e = cc
none_too (Some y) None e = cc
none_too (Some y) (Some ys) e = cc

pub answers_are : {A B : Type 0} (x : B) (f : A → Option B) (qs : List A) (bs : List B) → all_known (map f qs) ≡ Some bs → bs ≡ map (λ q. or x (f q)) qs
answers_are x f [] bs e = cc
answers_are x f (q ∷ qs) [] e = absurd (none_too (f q) (all_known (map f qs)) e)
answers_are x f (q ∷ qs) (b ∷ bs) e =
    let h = known_head (f q) (all_known (map f qs)) b bs e in
    ap₂ (λ y ys. y ∷ ys) (sym (ap (or x) h.0)) (answers_are x f qs bs h.1)
