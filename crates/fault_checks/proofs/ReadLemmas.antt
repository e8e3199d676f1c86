-- Patterns that checks of faults go by.
use Rattle.std.proofs.Common.{◌≡◌, ◌<◌, ◌+◌, ◌++◌, ◌∷◌, ◌∙◌, inl, inr, ℕ, zero, suc, List, [], length, map, take, Bool, true, true≢false, Option, Some, None, Ok, refl, sym, ap, ap₂, subst, slice_get, arith}
use Rattle.std.specs.List.{list_all}
use Rattle.schema_definitions.specs.Bearers.{Document, Documents}
use Rattle.schema_definitions.specs.Lookup.{Target, lookup}
use Rattle.schema_definitions.specs.Sites.{root_site}
use Rattle.schema_patterns.specs.Tables.{texts_of_table}
use Rattle.schema_patterns.specs.declared.table.PatternTable.{PatternTable}
use Rattle.document_laws.specs.TargetLaws.{are_apart, contents_rise, by_reference}
use Rattle.reading_laws.specs.Asked.{AreAmong}
use Rattle.reached_sites.specs.Roots.{IsPlaced}
use Rattle.reached_sites.specs.Causes.{RefusesWithin}
use Rattle.reached_sites.specs.declared.cause.BuildCause.{BuildCause}
use Rattle.schema_registries.specs.Roots.{Root, Patterns}
use Rattle.schema_registries.proofs.Found.{finds_one}
use Rattle.fault_checks.specs.Checked.{AreReached, HoldsAt, HasCauseAt, is_of_schemas}

-- a root before which nothing was entered
abbrev root_from : List Document → List ℕ → List ℕ → Root
root_from own base reference = record { documents = own; base = base; reference = reference; before = [] }

-- what is held of a target is held of each root that leads there
held_from : {M : Type 0} (finds : M → List ℕ → Option Bool) (p : Patterns) (own : List Document) (base reference : List ℕ) (t : Target) (table : Option (PatternTable M))
    → lookup own base reference ≡ Ok t → HoldsAt finds p own t table → AreReached finds p (root_from own base reference) table
held_from finds p own base reference t None found h = λ sound. sound.right t found h.cause h.stands
held_from finds p own base reference t (Some table) found h = record {
  hold = λ target there. subst (λ u. AreAmong own p.makes (root_site u) (texts_of_table table)) (finds_one (root_from own base reference) t target found there) h.among;
  made = h.made;
}

pub one_root : {own other : List Document} {base other_base : List ℕ} (reference : List ℕ) → own ≡ other → base ≡ other_base → root_from own base reference ≡ root_from other other_base reference
one_root reference d b = rw (d, b) refl

-- in documents that were prepared
pub held_there : {M : Type 0} (finds : M → List ℕ → Option Bool) (own : List Document) (base reference : List ℕ) (t : Target) → lookup own base reference ≡ Ok t
    → are_apart own ≡ true → list_all contents_rise own ≡ true
    → (p : Patterns) (table : Option (PatternTable M)) → (IsPlaced own t → HoldsAt finds p own t table) → (r : Root) → root_from own base reference ≡ r → AreReached finds p r table
held_there finds own base reference t found apart rise p table h r e =
    subst (λ (x : Root). AreReached finds p x table) e
    (held_from finds p own base reference t table found (h (record { apart = apart; rise = rise; target = by_reference base reference found })))

-- a refusal that names a cause at the schemas
pub has_cause : (p : Patterns) (docs : Documents) (t : Target) (limit : ℕ) (e : BuildCause) → RefusesWithin docs p.makes (root_site t) limit e → is_of_schemas e ≡ true → HasCauseAt p docs t
has_cause p docs t limit e h is = elim h [
  | inl x ↦ absurd (true≢false (sym is ∙ ap is_of_schemas x.named))
  | inr r ↦ elim r [ inl m ↦ absurd (true≢false (sym is ∙ ap is_of_schemas m)) | inr c ↦ record { cause = c.0; stands = c.2 } ]
]

-- ---- the texts of a table

map_push : {A B : Type 0} (f : A → B) (xs : List A) (x : A) → map f (xs ++ x ∷ []) ≡ map f xs ++ f x ∷ []
map_push f [] x = refl
map_push f (y ∷ xs) x = ap (λ zs. f y ∷ zs) (map_push f xs x)

take_push : {A B : Type 0} (f : A → B) (xs : List A) (n : ℕ) (x : A) → slice_get xs n ≡ Some x → take (suc n) (map f xs) ≡ take n (map f xs) ++ f x ∷ []
take_push f [] n x e = cc
take_push f (y ∷ xs) zero x e = let same : y ≡ x = cc in ap (λ z. f z ∷ []) same
take_push f (y ∷ xs) (suc n) x e = ap (λ zs. f y ∷ zs) (take_push f xs n x e)

-- one more of them
pub more_texts : {A S : Type 0} (entries : List (List ℕ × A)) (n : ℕ) (p : List ℕ) (x : A) (old new : List S) (s : S) (bytes : S → List ℕ) → slice_get entries n ≡ Some (p, x)
    → new ≡ old ++ s ∷ [] → bytes s ≡ p → map bytes old ≡ take n (map (λ e. e.0) entries) → map bytes new ≡ take (n + 1) (map (λ e. e.0) entries)
more_texts entries n p x old new s bytes found pushed is so_far =
    let next : n + 1 ≡ suc n = omega arith in
    ap (map bytes) pushed ∙ map_push bytes old s ∙ ap₂ (λ ts t. ts ++ t ∷ []) so_far is ∙ sym (take_push (λ e. e.0) entries n (p, x) found) ∙ ap (λ k. take k (map (λ e. e.0) entries)) (sym next)

pub none_past : {A : Type 0} (xs : List A) (n : ℕ) → n < length xs → slice_get xs n ≡ None → ⊥
none_past [] n short none = omega (arith, short)
none_past (x ∷ xs) zero short none = cc
none_past (x ∷ xs) (suc n) short none = none_past xs n (omega (arith, short)) none
