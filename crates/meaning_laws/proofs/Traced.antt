-- Where a keyword's faults come from.
use Rattle.std.proofs.Common.{◌≡◌, ◌++◌, ℕ, List, [], ◌∷◌, Bool, true, false, ◌&&◌, map, refl, sym, ap, ◌∙◌, subst, ◌⊎◌, inl, inr}
use Rattle.schema_meaning.specs.Members.{In, first, later, is_empty}
use Rattle.json_values.specs.Parts.{Part}
use Rattle.schema_meaning.specs.Places.{Spot, to_name}
use Rattle.schema_meaning.specs.Faults.{Fault, fault, Faults, none, also, joined, join, is_none, instance_path, evaluation_path, Told, told_first, told_later}
use Rattle.schema_meaning.specs.Questions.{Question, at, each_name}
use Rattle.schema_meaning.specs.Rules.{Note, Rule, every, together, each_named, some_branch, one_branch, refusal, counted, conditional, asks, accepts, refuses_at, obliged, faults, own_fault, own_faults, one_fault, of_object, each_of_object, chosen, if_same, consequents}

-- a fault is the keyword's own, which refuses; or one below, by an obliged step; or told of the object for one of a name
pub data Traced {S : Type 0} (k : Rule S) (w : Spot) (g : Question S → Faults) (f : Fault) : Type 0 where
  own : accepts k (map is_none (map g (asks k))) ≡ false → instance_path f ≡ w.path → evaluation_path f ≡ refuses_at k (map is_none (map g (asks k))) ++ w.road → Traced k w g f
  below : (q : Question S) → In q (obliged k (map is_none (map g (asks k)))) → Told f (g q) → Traced k w g f
  named : (q : Question S) (name : List ℕ) (h : Fault) → In q (obliged k (map is_none (map g (asks k)))) → Told h (g q) → q.step ≡ to_name name
      → instance_path f ≡ w.path → evaluation_path f ≡ evaluation_path h → Traced k w g f

-- ---- members of bags

pub told_joined : (f : Fault) (fs gs : Faults) → Told f (joined fs gs) → Told f fs ⊎ Told f gs
told_joined f none gs h = inr h
told_joined f (also g fs) gs told_first = inl told_first
told_joined f (also g fs) gs (told_later h) = elim (told_joined f fs gs h) [ inl x ↦ inl (told_later x) | inr y ↦ inr y ]

-- a fault of a join stands in one of the bags
pub told_join : (f : Fault) (answers : List Faults) → Told f (join answers) → (fs : Faults) × In fs answers × Told f fs
told_join f [] h = elim h [ ]
told_join f (fs ∷ rest) h =
    elim (told_joined f fs (join rest) h) [
      | inl x ↦ (fs, first, x)
      | inr y ↦ (let r = told_join f rest y in (r.0, later r.1, r.2))
    ]

pub in_mapped : {A B : Type 0} (g : A → B) (qs : List A) (y : B) → In y (map g qs) → (q : A) × In q qs × (g q ≡ y)
in_mapped g [] y i = elim i [ ]
in_mapped g (q ∷ qs) y first = (q, first, refl)
in_mapped g (q ∷ qs) y (later i) = let r = in_mapped g qs y i in (r.0, later r.1, r.2)

-- a fault of all answers comes from one question
pub told_asked : {A : Type 0} (g : A → Faults) (qs : List A) (f : Fault) → Told f (join (map g qs)) → (q : A) × In q qs × Told f (g q)
told_asked g qs f h =
    let a = told_join f (map g qs) h in
    let b = in_mapped g qs a.0 a.1 in (b.0, b.1, subst (Told f) (sym b.2) a.2)

told_own : (w : Spot) (above p : List Part) (notes : List Note) (f : Fault) → Told f (own_faults w above p notes)
    → (is_empty notes ≡ false) × (instance_path f ≡ w.path) × (evaluation_path f ≡ p ++ w.road)
told_own w above p [] f h = elim h [ ]
told_own w above p (note ∷ notes) f told_first = (refl, refl, refl)
told_own w above p (note ∷ notes) f (told_later h) = let r = told_own w above p notes f h in (refl, r.1, r.2)

told_one : (b : Bool) (f g : Fault) → Told f (one_fault b g) → (b ≡ false) × (f ≡ g)
told_one true f g h = elim h [ ]
told_one false f g told_first = (refl, refl)
told_one false f g (told_later h) = elim h [ ]

told_of_object : (w : Spot) (fs : Faults) (f : Fault) → Told f (each_of_object w fs) → (h : Fault) × Told h fs × (instance_path f ≡ w.path) × (evaluation_path f ≡ evaluation_path h)
told_of_object w none f t = elim t [ ]
told_of_object w (also h fs) f told_first = (h, told_first, of_path h, of_road h)
  where
    of_path : (h : Fault) → instance_path (of_object w h) ≡ w.path
    of_path (fault k d i s e) = refl

    of_road : (h : Fault) → evaluation_path (of_object w h) ≡ evaluation_path h
    of_road (fault k d i s e) = refl
told_of_object w (also h fs) f (told_later t) = let r = told_of_object w fs f t in (r.0, told_later r.1, r.2, r.3)

and_false : (b c : Bool) → b ≡ false → (b && c) ≡ false
and_false true c e = cc
and_false false c e = refl

if_same-map : {A B : Type 0} (g : A → B) (b c : Bool) (x : A) (xs : List A) → if_same b c (g x) (map g xs) ≡ map g (if_same b c x xs)
if_same-map g true true x xs = refl
if_same-map g true false x xs = refl
if_same-map g false true x xs = refl
if_same-map g false false x xs = refl

chosen-asked : {S A : Type 0} (g : Question S → A) (b : Bool) (cs : List (Bool × Question S)) → chosen b cs (map g (consequents cs)) ≡ map g (chosen b cs (consequents cs))
chosen-asked g b [] = refl
chosen-asked g b (c ∷ cs) = ap (λ ys. if_same b c.0 (g c.1) ys) (chosen-asked g b cs) ∙ if_same-map g b c.0 c.1 (chosen b cs (consequents cs))

name_steps : {S : Type 0} (p : List Part) (s : S) (names : List (List ℕ)) (q : Question S) → In q (each_name p s names) → (name : List ℕ) × (q.step ≡ to_name name)
name_steps p s [] q i = elim i [ ]
name_steps p s (k ∷ names) q first = (k, refl)
name_steps p s (k ∷ names) q (later i) = name_steps p s names q i

-- one fault of the keyword
traced_one : {S : Type 0} (k : Rule S) (w : Spot) (above : List Part) (g : Question S → Faults) (f : Fault) (b : Bool) (p : List Part) (note : Note)
    → accepts k (map is_none (map g (asks k))) ≡ b → refuses_at k (map is_none (map g (asks k))) ≡ p → Told f (one_fault b (own_fault w above p note)) → Traced k w g f
traced_one k w above g f b p note e at h =
    let o = told_one b f (own_fault w above p note) h in
    own (e ∙ o.0) (ap instance_path o.1) (ap evaluation_path o.1 ∙ ap (λ x. x ++ w.road) (sym at))

pub traced : {S : Type 0} (k : Rule S) (w : Spot) (above : List Part) (g : Question S → Faults) (f : Fault) → Told f (faults k w above (map g (asks k))) → Traced k w g f
traced (every p notes qs) w above g f h =
    elim (told_joined f (own_faults w above p notes) (join (map g qs)) h) [
      | inl x ↦ (let r = told_own w above p notes f x in own (and_false (is_empty notes) _ r.0) r.1 r.2)
      | inr y ↦ (let r = told_asked g qs f y in below r.0 r.1 r.2)
    ]
traced (together p note qs) w above g f h = traced_one (together p note qs) w above g f _ p note refl refl h
traced (each_named p s names) w above g f h =
    let r = told_of_object w (join (map g (each_name p s names))) f h in
    let a = told_asked g (each_name p s names) r.0 r.1 in
    let n = name_steps p s names a.0 a.1 in
    named a.0 n.0 r.0 a.1 a.2 n.1 r.2 r.3
traced (some_branch p qs) w above g f h = traced_one (some_branch p qs) w above g f _ p _ refl refl h
traced (one_branch p qs) w above g f h = traced_one (one_branch p qs) w above g f _ p _ refl refl h
traced (refusal p schema q) w above g f h = traced_one (refusal p schema q) w above g f _ p _ refl refl h
traced (counted least most qs) w above g f h = traced_one (counted least most qs) w above g f _ _ _ refl refl h
traced (conditional q cs) w above g f h =
    let r = told_asked g (chosen (is_none (g q)) cs (consequents cs)) f (subst (λ xs. Told f (join xs)) (chosen-asked g (is_none (g q)) cs) h) in
    below r.0 r.1 r.2
