-- What is known of lists of answers, each decided or out.
use Rattle.std.proofs.Common.{◌≡◌, List, [], ◌∷◌, map, Option, Some, None, option_map, refl, sym, ap, ap₂, ◌∙◌, subst}
use Rattle.schema_meaning.specs.Members.{In, first, later, known_too, all_known}

-- where the one is known, the other is the same
abbrev pub Below : {A : Type 0} → Option A → Option A → Type 0
Below {A} o p = (x : A) → o ≡ Some x → p ≡ Some x

pub nothing_below : {A : Type 0} (p : Option A) → Below None p
nothing_below p x e = cc

pub Below-option_map : {A B : Type 0} (f : A → B) (o p : Option A) → Below o p → Below (option_map f o) (option_map f p)
Below-option_map f None p h x e = cc
Below-option_map f (Some y) p h x e = rw (h y refl) e

Below-known_too : {A : Type 0} (o p : Option A) (os ps : Option (List A)) → Below o p → Below os ps → Below (known_too o os) (known_too p ps)
Below-known_too None p os ps h hs x e = cc
Below-known_too (Some y) p None ps h hs x e = cc
Below-known_too (Some y) p (Some ys) ps h hs x e = rw (h y refl, hs ys refl) e

-- for the elements of a list
pub Below-all_in : {A B : Type 0} (f g : A → Option B) (qs : List A) → ((a : A) → In a qs → Below (f a) (g a)) → Below (all_known (map f qs)) (all_known (map g qs))
Below-all_in f g [] h x e = e
Below-all_in f g (a ∷ qs) h x e = Below-known_too (f a) (g a) _ _ (h a first) (Below-all_in f g qs (λ b i. h b (later i))) x e

pub Below-all_known : {A B : Type 0} (f g : A → Option B) → ((a : A) → Below (f a) (g a)) → (qs : List A) → Below (all_known (map f qs)) (all_known (map g qs))
Below-all_known f g h qs = Below-all_in f g qs (λ a i. h a)

option_map-known_too : {A B : Type 0} (f : A → B) (o : Option A) (os : Option (List A)) → option_map (map f) (known_too o os) ≡ known_too (option_map f o) (option_map (map f) os)
option_map-known_too f None os = refl
option_map-known_too f (Some x) None = refl
option_map-known_too f (Some x) (Some xs) = refl

-- what is known by way of h
pub all_known-through : {A B C : Type 0} (h : B → C) (f : A → Option B) (g : A → Option C) → ((a : A) → option_map h (f a) ≡ g a) → (qs : List A)
    → option_map (map h) (all_known (map f qs)) ≡ all_known (map g qs)
all_known-through h f g e [] = refl
all_known-through h f g e (a ∷ qs) = option_map-known_too h (f a) _ ∙ rw (e a, all_known-through h f g e qs) refl

pub option_map-twice : {A B C : Type 0} (f : A → B) (g : B → C) (o : Option A) → option_map g (option_map f o) ≡ option_map (λ x. g (f x)) o
option_map-twice f g None = refl
option_map-twice f g (Some x) = refl

pub option_map-same : {A B : Type 0} (f g : A → B) → ((x : A) → f x ≡ g x) → (o : Option A) → option_map f o ≡ option_map g o
option_map-same f g h None = refl
option_map-same f g h (Some x) = ap Some (h x)

-- what an `option_map` makes was made of something
pub option_map-some : {A B : Type 0} (f : A → B) (o : Option A) (y : B) → option_map f o ≡ Some y → (x : A) × (o ≡ Some x) × (f x ≡ y)
option_map-some f None y e = cc
option_map-some f (Some x) y e = (x, refl, cc)

known_too-some : {A : Type 0} (o : Option A) (os : Option (List A)) (zs : List A) → known_too o os ≡ Some zs → (x : A) × (xs : List A) × (o ≡ Some x) × (os ≡ Some xs) × (zs ≡ x ∷ xs)
known_too-some None os zs e = cc
known_too-some (Some x) None zs e = cc
known_too-some (Some x) (Some xs) zs e = (x, xs, refl, refl, cc)

pub known_head : {A : Type 0} (o : Option A) (os : Option (List A)) (x : A) (xs : List A) → known_too o os ≡ Some (x ∷ xs) → (o ≡ Some x) × (os ≡ Some xs)
known_head None os x xs e = cc
known_head (Some y) None x xs e = cc
known_head (Some y) (Some ys) x xs e = (cc, cc)

-- each of the answers was known
pub all_known-in : {A B : Type 0} (f : A → Option B) (qs : List A) (xs : List B) → all_known (map f qs) ≡ Some xs → (q : A) → In q qs → (x : B) × (f q ≡ Some x) × In x xs
all_known-in f [] xs e q i = elim i [ ]
all_known-in f (p ∷ qs) xs e q first =
    let k = known_too-some (f p) (all_known (map f qs)) xs e in (k.0, k.2, subst (In k.0) (sym k.4) first)
all_known-in f (p ∷ qs) xs e q (later i) =
    let k = known_too-some (f p) (all_known (map f qs)) xs e in
    let r = all_known-in f qs k.1 k.3 q i in (r.0, r.1, subst (In r.0) (sym k.4) (later r.2))

-- where each answer is known, all are
pub all_known-map : {A B : Type 0} (ask : A → Option B) (f : A → B) (xs : List A) → ((x : A) → In x xs → ask x ≡ Some (f x)) → all_known (map ask xs) ≡ Some (map f xs)
all_known-map ask f [] h = refl
all_known-map ask f (x ∷ xs) h = rw (h x first, all_known-map ask f xs (λ y i. h y (later i))) refl

pub map_in : {A B : Type 0} (f g : A → B) (xs : List A) → ((x : A) → In x xs → f x ≡ g x) → map f xs ≡ map g xs
map_in f g [] h = refl
map_in f g (x ∷ xs) h = ap₂ (λ y ys. y ∷ ys) (h x first) (map_in f g xs (λ y i. h y (later i)))

pub map_through : {A B C : Type 0} (h : B → C) (f : A → B) (g : A → C) → ((a : A) → h (f a) ≡ g a) → (xs : List A) → map h (map f xs) ≡ map g xs
map_through h f g e [] = refl
map_through h f g e (x ∷ xs) = ap₂ (λ y ys. y ∷ ys) (e x) (map_through h f g e xs)
