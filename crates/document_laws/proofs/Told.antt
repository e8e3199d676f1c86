-- What a stage tells anew, and what all the stages that are counted tell.
use Rattle.std.proofs.Common.{◌≡◌, ◌∙◌, ◌<◌, ◌≤◌, ◌++◌, ◌==◌, ℕ, suc, List, [], ◌∷◌, Bool, true, false, if◌then◌else◌, Option, Some, None, refl, sym, ap, ap₂, subst, arith}
use Rattle.std.proofs.lemmas.Bool.{eqb-true, eqb-false}
use Rattle.std.specs.List.{flat_map, AllByRecursion}
use Rattle.schema_definitions.specs.Words.{listed}
use Rattle.schema_definitions.specs.Places.{Dialect, named_meta_schema}
use Rattle.schema_definitions.specs.Bearers.{Documents, Standing, standings, is_root, dialects, how_many}
use Rattle.schema_definitions.specs.DocumentCauses.{circular_metaschema, is_told_alike}
use Rattle.document_laws.specs.Agreeing.{Agrees}
use Rattle.document_laws.proofs.Alike.{all_stand}
use Rattle.document_laws.specs.Stages.{unless_alike, anew_at, AtRest, OnlyRestTellsNoneAnew, RestIsTold, MetaIsFixed}
use Rattle.document_laws.proofs.Same.{told_alike_is_same}
use Rattle.document_laws.proofs.Resting.{rest_stays, rest_is_fixed}

pub first_empty : {X : Type 0} (xs ys : List X) → xs ++ ys ≡ [] → xs ≡ []
first_empty [] ys h = refl
first_empty (x ∷ xs) ys h = (let no : x ∷ (xs ++ ys) ≡ [] = h in cc)

pub second_empty : {X : Type 0} (xs ys : List X) → xs ++ ys ≡ [] → ys ≡ []
second_empty [] ys h = h
second_empty (x ∷ xs) ys h = (let no : x ∷ (xs ++ ys) ≡ [] = h in cc)

module _ (told after : List ℕ → Option Dialect) where
  -- ---- one place

  alike_none : (uri : List ℕ) → after uri ≡ told uri → unless_alike told after uri ≡ []
  alike_none uri e = ap (λ b. if b then [] else circular_metaschema uri ∷ []) ((told_alike_is_same (told uri) (after uri)).1 (sym e))

  none_alike : (uri : List ℕ) → unless_alike told after uri ≡ [] → after uri ≡ told uri
  none_alike uri h = sym ((told_alike_is_same (told uri) (after uri)).0 (by (is_told_alike (told uri) (after uri)) h))
    where
      by : (b : Bool) → (if b then [] else circular_metaschema uri ∷ []) ≡ [] → b ≡ true
      by true h = refl
      by false h = (let no : circular_metaschema uri ∷ [] ≡ [] = h in cc)

  of_named : (o : Option (List ℕ)) → ((uri : List ℕ) → o ≡ Some uri → after uri ≡ told uri) → flat_map (unless_alike told after) (listed o) ≡ []
  of_named None h = refl
  of_named (Some uri) h = ap (λ cs. cs ++ []) (alike_none uri (h uri refl))

  named_alike : (o : Option (List ℕ)) → flat_map (unless_alike told after) (listed o) ≡ [] → (uri : List ℕ) → o ≡ Some uri → after uri ≡ told uri
  named_alike None h uri e = (let no : None ≡ Some uri = e in cc)
  named_alike (Some named) h uri e =
      let it : named ≡ uri = cc in
      none_alike uri (ap (unless_alike told after) (sym it) ∙ first_empty (unless_alike told after named) [] h)

  -- ---- all places

  pub none_at : (ss : List Standing) → AllByRecursion (Agrees told after) ss → flat_map (anew_at told after) ss ≡ []
  none_at [] h = refl
  none_at (s ∷ ss) h = ap₂ (λ cs ds. cs ++ ds) (of_named (named_meta_schema s.place.dialect.siblings (is_root s.place.path) s.place.contents) h.0.agrees) (none_at ss h.1)

  pub agreeing_at : (ss : List Standing) → flat_map (anew_at told after) ss ≡ [] → AllByRecursion (Agrees told after) ss
  agreeing_at [] h = tt
  agreeing_at (s ∷ ss) h = (
    record { agrees = named_alike (named_meta_schema s.place.dialect.siblings (is_root s.place.path) s.place.contents) (first_empty (anew_at told after s) (flat_map (anew_at told after) ss) h) },
    agreeing_at ss (second_empty (anew_at told after s) (flat_map (anew_at told after) ss) h),
  )

pub only_rest_tells_none_anew : OnlyRestTellsNoneAnew
only_rest_tells_none_anew docs = record {
  none = λ n. none_at (dialects docs n) (dialects docs (suc n)) (standings (dialects docs n) docs);
  rests = λ n. agreeing_at (dialects docs n) (dialects docs (suc n)) (standings (dialects docs n) docs);
  last = refl;
}

-- ---- a stage before the last

module _ (docs : Documents) where
  all_at_rest : (n : ℕ) → ((uri : List ℕ) → dialects docs (suc n) uri ≡ dialects docs n uri) → AtRest docs n
  all_at_rest n same = all_stand (dialects docs (suc n)) (dialects docs n) same (standings (dialects docs n) docs)

  -- after a stage at rest each is
  rest_after : (n m : ℕ) → AtRest docs n → n < m → AtRest docs m
  rest_after n m rest less = all_at_rest m (λ uri. rest_stays docs n rest (suc m) (omega (arith, less)) uri ∙ sym (rest_stays docs n rest m less uri))

  pub rest_from : (n m : ℕ) → AtRest docs n → n ≤ m → AtRest docs m
  rest_from n m rest less = by (n == m) refl
    where
      by : (b : Bool) → (n == m) ≡ b → AtRest docs m
      by true is = subst (λ (k : ℕ). AtRest docs k) (eqb-true n m is) rest
      by false is = rest_after n m rest (omega (arith, less, eqb-false n m is))

pub rest_is_told : RestIsTold
rest_is_told docs n rest less = record {
  told = λ uri. rest_stays docs n rest (suc (how_many docs)) (omega (arith, less)) uri;
  none_anew = (only_rest_tells_none_anew docs).none (how_many docs) (rest_from docs n (how_many docs) rest less);
}

pub meta_is_fixed : MetaIsFixed
meta_is_fixed docs h uri = rest_is_fixed docs (how_many docs) ((only_rest_tells_none_anew docs).rests (how_many docs) h) (suc (how_many docs)) (omega arith) uri
