-- Entries of compiled keywords, and what is asked of members, one after another.
use Rattle.std.proofs.Common.{◌≡◌, ◌<◌, ◌+◌, ◌∙◌, ◌++◌, ℕ, List, [], ◌∷◌, map, drop, length, get_or, true, false, Option, None, Some, is_some, option_map, refl, ap}
use Rattle.std.proofs.lemmas.Option.{slice_get_read, slice_get-map}
use Rattle.serde_json.specs.Data.{Data}
use Rattle.serde_json.specs.Find.{get}
use Rattle.schema_meaning.specs.Keywords.{Dependency, needs, applies, applied, each_dependency}
use Rattle.schema_meaning.specs.Places.{stay, to_member}
use Rattle.schema_meaning.specs.Questions.{question, at_name, if_member, each_declared, each_triggered}
use Rattle.compiled_keywords.specs.Forms.{alone, name_at, named_part}
use Rattle.compiled_keywords.specs.Members.{applied_node}
use Rattle.compiled_keywords.specs.Owned.{named, depending}
use Rattle.compiled_keywords.specs.declared.subschemas.NamedNode.{NamedNode}
use Rattle.compiled_keywords.specs.declared.subschemas.NamedDependency.{NamedDependency}
use Rattle.compiled_keywords.proofs.AcceptLemmas.{next_of}

pub found_so : (o : Option Data) → is_some o ≡ true → (e : Data) × (o ≡ Some e)
found_so None h = absurd (cc (h))
found_so (Some e) h = (e, refl)

pub found_not : (o : Option Data) → is_some o ≡ false → o ≡ None
found_not None h = refl
found_not (Some e) h = absurd (cc (h))

-- the parts of the i-th entry
pub name_there : {A X : Type 0} (k : List ℕ) (f : X → List ℕ × A) (xs : List X) (i : ℕ) (x : X) → i < length xs → x ≡ get_or xs i x → name_at k (map f xs) i ≡ at_name k (f x).0
name_there k f xs i x short is = ap (named_part k) (slice_get-map f xs i ∙ ap (option_map f) (slice_get_read xs (length xs) i x refl short is))

module _ (k : List ℕ) (d : Data) (nodes : List NamedNode) (i : ℕ) (p : NamedNode) (short : i < length nodes) (is : p ≡ get_or nodes i p) where
  pub declared_absent : get (named p).0 d ≡ None → map alone (each_declared k d (map named (drop i nodes))) ≡ map alone (each_declared k d (map named (drop (i + 1) nodes)))
  declared_absent none = ap (λ ps. map alone (each_declared k d (map named ps))) (next_of i nodes p short is) ∙ rw none refl

  pub declared_there : (e : Data) → get (named p).0 d ≡ Some e
      → map alone (each_declared k d (map named (drop i nodes))) ≡ alone (question p.node (to_member (named p).0 e) (at_name k (named p).0)) ∷ map alone (each_declared k d (map named (drop (i + 1) nodes)))
  declared_there e there = ap (λ ps. map alone (each_declared k d (map named ps))) (next_of i nodes p short is) ∙ rw there refl

  pub triggered_absent : get (named p).0 d ≡ None → map alone (each_triggered k d (map named (drop i nodes))) ≡ map alone (each_triggered k d (map named (drop (i + 1) nodes)))
  triggered_absent none = ap (λ ps. map alone (each_triggered k d (map named ps))) (next_of i nodes p short is) ∙ rw none refl

  pub triggered_there : (e : Data) → get (named p).0 d ≡ Some e
      → map alone (each_triggered k d (map named (drop i nodes))) ≡ alone (question p.node stay (at_name k (named p).0)) ∷ map alone (each_triggered k d (map named (drop (i + 1) nodes)))
  triggered_there e there = ap (λ ps. map alone (each_triggered k d (map named ps))) (next_of i nodes p short is) ∙ rw there refl

some_same : (t s : ℕ) → Some t ≡ Some s → t ≡ s
some_same t s h = cc (h)

module _ (k : List ℕ) (name : List ℕ) where
  unapplied : (o : Option Data) (n : Dependency ℕ) → applied_node o n ≡ None → if_member o (λ e. applied k name n) ≡ []
  unapplied None n none = refl
  unapplied (Some e) (needs names) none = refl
  unapplied (Some e) (applies s) none = absurd (cc (none))

  applied_so : (o : Option Data) (n : Dependency ℕ) (s : ℕ) → applied_node o n ≡ Some s → if_member o (λ e. applied k name n) ≡ question s stay (at_name k name) ∷ []
  applied_so None n s h = absurd (cc (h))
  applied_so (Some e) (needs names) s h = absurd (cc (h))
  applied_so (Some e) (applies t) s h = ap (λ m. question m stay (at_name k name) ∷ []) (some_same t s h)

module _ (k : List ℕ) (d : Data) (entries : List NamedDependency) (i : ℕ) (p : NamedDependency) (short : i < length entries) (is : p ≡ get_or entries i p) where
  next : map alone (each_dependency k d (map depending (drop i entries))) ≡ map alone (if_member (get (depending p).0 d) (λ e. applied k (depending p).0 (depending p).1) ++ each_dependency k d (map depending (drop (i + 1) entries)))
  next = ap (λ ps. map alone (each_dependency k d (map depending ps))) (next_of i entries p short is)

  pub unapplied_next : applied_node (get (depending p).0 d) (depending p).1 ≡ None → map alone (each_dependency k d (map depending (drop i entries))) ≡ map alone (each_dependency k d (map depending (drop (i + 1) entries)))
  unapplied_next none = next ∙ ap (λ xs. map alone (xs ++ each_dependency k d (map depending (drop (i + 1) entries)))) (unapplied k (depending p).0 (get (depending p).0 d) (depending p).1 none)

  pub applied_next : (s : ℕ) → applied_node (get (depending p).0 d) (depending p).1 ≡ Some s
      → map alone (each_dependency k d (map depending (drop i entries))) ≡ alone (question s stay (at_name k (depending p).0)) ∷ map alone (each_dependency k d (map depending (drop (i + 1) entries)))
  applied_next s there = next ∙ ap (λ xs. map alone (xs ++ each_dependency k d (map depending (drop (i + 1) entries)))) (applied_so k (depending p).0 (get (depending p).0 d) (depending p).1 s there)
