-- One stage, and one after another.
use Rattle.std.proofs.Common.{◌≡◌, ◌∙◌, ◌≤◌, ◌++◌, ℕ, suc, List, [], ◌∷◌, Bool, true, false, not, ◌&&◌, ◌||◌, is_some, if◌then◌else◌, Option, Some, None, option_map, map, refl, sym, ap, ap₂, subst, arith}
use Rattle.std.proofs.lemmas.Bool.{false≢true}
use Rattle.std.specs.Prelude.{Decides, Result, Ok, Err, IfOk, slice_get}
use Rattle.std.specs.List.{AllByRecursion, flat_map}
use Rattle.schema_definitions.specs.Words.{last_that, listed}
use Rattle.schema_definitions.specs.Places.{named_meta_schema}
use Rattle.schema_definitions.specs.Places as places
use Rattle.schema_definitions.specs.Bearers.{Documents, Standing, standings, is_root, bears, dialect_by, dialects, meta}
use Rattle.schema_definitions.specs.DocumentCauses.{circular_metaschema, is_told_alike}
use Rattle.schema_dialects.specs.Dialects.{dialect_of, dialects_in}
use Rattle.schema_dialects.specs.declared.dialect.Dialect.{Dialect}
use Rattle.schema_dialects.specs.declared.meta_schemas.MetaSchemas.{MetaSchemas}
use Rattle.schema_dialects.proofs.Dialects.{same_dialects}
use Rattle.document_index.proofs.LastLemmas.{last_that-push}
use Rattle.document_laws.proofs.Alike.{alike_tell}
use Rattle.document_laws.specs.Stages.{unless_alike, anew_at, anew_after, AtRest}
use Rattle.document_laws.proofs.Same.{told_alike_is_same}
use Rattle.document_laws.proofs.Resting.{rest_stays}
use Rattle.document_laws.specs.Agreeing.{Agrees}
use Rattle.document_laws.proofs.Told.{agreeing_at, only_rest_tells_none_anew, rest_from}
use Rattle.document_index.specs.Told.{Tells}
use Rattle.document_index.specs.Standings.{AreUnder, AreTold}
use Rattle.document_index.specs.Seen.{standing_of}
use Rattle.document_index.specs.declared.standing.Standing as code
use Rattle.document_index.proofs.LocatedLemmas.{stand-located, located-alike, located-same}

-- ---- what places bear

if-map : (b : Bool) (s : Standing) (o : Option Standing) → (if b then Some (dialect_by s) else option_map dialect_by o) ≡ option_map dialect_by (if b then Some s else o)
if-map true s o = refl
if-map false s o = refl

-- a URI given and a base, one after the other
pub both-put : (waits a b : Bool) (d : places.Dialect) (old mid new : Option places.Dialect) → waits ≡ false
    → mid ≡ (if a then Some d else old) → new ≡ (if b then Some d else mid) → new ≡ (if not waits && (a || b) then Some d else old)
both-put true a b d old mid new settled one other = absurd (false≢true (sym settled))
both-put false true true d old mid new settled one other = other
both-put false true false d old mid new settled one other = other ∙ one
both-put false false true d old mid new settled one other = other
both-put false false false d old mid new settled one other = other ∙ one

-- one place more
pub borne-push : (q : List ℕ) (ss : List Standing) (s : Standing) (o : Option places.Dialect) → o ≡ option_map dialect_by (last_that (bears q) ss)
    → (if bears q s then Some (dialect_by s) else o) ≡ option_map dialect_by (last_that (bears q) (ss ++ s ∷ []))
borne-push q ss s o h =
    ap (λ p. if bears q s then Some (dialect_by s) else p) h
    ∙ if-map (bears q s) s (last_that (bears q) ss)
    ∙ ap (option_map dialect_by) (sym (last_that-push (bears q) ss s))

-- ---- what is told anew

pub alike-by : (d e : Dialect) (b : Bool) → Decides b (d ≡ e) → b ≡ is_told_alike (Some (dialect_of d)) (Some (dialect_of e))
alike-by d e true is = sym ((told_alike_is_same (Some (dialect_of d)) (Some (dialect_of e))).1 (ap (λ x. Some (dialect_of x)) (is.0 refl)))
alike-by d e false is = by (is_told_alike (Some (dialect_of d)) (Some (dialect_of e))) refl
  where
    by : (a : Bool) → is_told_alike (Some (dialect_of d)) (Some (dialect_of e)) ≡ a → false ≡ a
    by true told =
        let same : Some d ≡ Some e = same_dialects (Some d) (Some e) ((told_alike_is_same (Some (dialect_of d)) (Some (dialect_of e))).0 told) in
        let one : d ≡ e = cc in
        is.1 one
    by false told = refl

pub not_some : {X : Type 0} (o : Option X) (b : Bool) → b ≡ is_some o → b ≡ false → o ≡ None
not_some None b is e = refl
not_some (Some x) b is e = absurd (false≢true (sym e ∙ is))

pub no_first : {X : Type 0} (xs : List X) → slice_get xs 0 ≡ None → xs ≡ []
no_first [] h = refl
no_first (x ∷ xs) h = (let no : Some x ≡ None = h in cc)

module _ (told told' after after' : List ℕ → Option places.Dialect) (t : (uri : List ℕ) → told uri ≡ told' uri) (a : (uri : List ℕ) → after uri ≡ after' uri) where
  named-alike : (us : List (List ℕ)) → flat_map (unless_alike told after) us ≡ flat_map (unless_alike told' after') us
  named-alike [] = refl
  named-alike (u ∷ us) = ap₂ (λ cs ds. cs ++ ds) (ap₂ (λ d e. if is_told_alike d e then [] else circular_metaschema u ∷ []) (t u) (a u)) (named-alike us)

  pub anew-alike : (ss : List Standing) → flat_map (anew_at told after) ss ≡ flat_map (anew_at told' after') ss
  anew-alike [] = refl
  anew-alike (s ∷ ss) = ap₂ (λ cs ds. cs ++ ds) (named-alike (listed (named_meta_schema s.place.dialect.siblings (is_root s.place.path) s.place.contents))) (anew-alike ss)

-- ---- one stage more

module _ (docs : Documents) (n : ℕ) (told after : MetaSchemas) (ss : List Standing) (tells : Tells told (dialects docs n))
    (stand : ss ≡ standings (dialects_in told) docs) (borne : (q : List ℕ) → dialects_in after q ≡ option_map dialect_by (last_that (bears q) ss)) where
  same : ss ≡ standings (dialects docs n) docs
  same = stand ∙ (alike_tell (dialects_in told) (dialects docs n) tells).standing docs

  pub next : Tells after (dialects docs (suc n))
  unfolding dialects
  next uri = borne uri ∙ ap (λ l. option_map dialect_by (last_that (bears uri) l)) same

  pub anew : flat_map (anew_at (dialects_in told) (dialects_in after)) ss ≡ anew_after docs n
  anew =
      let told' = dialects docs n in
      let after' = dialects docs (suc n) in
      anew-alike (dialects_in told) told' (dialects_in after) after' tells next ss
      ∙ ap (flat_map (anew_at told' after')) same

-- where it tells none anew, the places are those under what it tells, too
pub stays-under : (docs : Documents) (told after : MetaSchemas) (found : List code.Standing) → AreUnder told docs found
    → flat_map (anew_at (dialects_in told) (dialects_in after)) (map standing_of found) ≡ [] → AreUnder after docs found
stays-under docs told after found under none =
    let agree = subst (AllByRecursion (Agrees (dialects_in told) (dialects_in after))) (stand-located (dialects_in told) docs found under)
    (agreeing_at (dialects_in told) (dialects_in after) (map standing_of found) none) in
    under ∙ sym (located-alike (dialects_in told) (dialects_in after) docs agree)

-- and where all is told, those under all that is told
pub under-all : (docs : Documents) (known : MetaSchemas) (found : List code.Standing) → Tells known (meta docs) → AreUnder known docs found → AreTold docs found
under-all docs known found tells under = under ∙ located-same (meta docs) (dialects_in known) tells docs

-- nothing is told by no stage
pub none_told : (k : MetaSchemas) (docs : Documents) → ((uri : List ℕ) → dialects_in k uri ≡ None) → Tells k (dialects docs 0)
unfolding dialects
none_told k docs e uri = e uri

-- ---- all stages

-- where none is told anew any later stage tells the same, and tells none anew
module _ (docs : Documents) (n m : ℕ) (none : slice_get (anew_after docs n) 0 ≡ None) (less : n ≤ m) where
  rest : AtRest docs n
  rest = (only_rest_tells_none_anew docs).rests n (no_first (anew_after docs n) none)

  pub later_told : (k : MetaSchemas) → Tells k (dialects docs (suc n)) → Tells k (dialects docs (suc m))
  later_told k tells uri = tells uri ∙ sym (rest_stays docs n rest (suc m) (omega (arith, less)) uri)

  pub later_none : slice_get (anew_after docs m) 0 ≡ None
  later_none = ap (λ cs. slice_get cs 0) ((only_rest_tells_none_anew docs).none m (rest_from docs n m rest less))

pub if_ok_weaker : {T E : Type 0} {P Q : T → Type 0} (r : Result T E) → ((t : T) → P t → Q t) → IfOk r P → IfOk r Q
if_ok_weaker (Ok t) f h = f t h
if_ok_weaker (Err e) f h = tt
