-- Scopes with one key are alike.
use Rattle.std.proofs.Common.{◌≡◌, ℕ, List, [], ◌∷◌, Bool, true, false, ◌&&◌, ◌||◌, if◌then◌else◌, map, Option, Some, None, option_and_then, is_some, Result, Ok, Err, refl, sym, ap, ap₂, subst, ◌∙◌, bytes_eq}
use Rattle.std.specs.List.{list_any}
use Rattle.std.proofs.lemmas.Slice.Eq.{bytes_eq-Decides}
use Rattle.uri_grammar.specs.Texts.{cut_at}
use Rattle.schema_definitions.specs.Words.{or, or_else, last_that, has_text, result_map, ok_or, and_then}
use Rattle.schema_definitions.specs.Identifiers.{is_name, dynamic_anchors}
use Rattle.schema_definitions.specs.Bearers.{Documents, bearer, dynamically_anchored}
use Rattle.schema_definitions.specs.Lookup.{unretrievable, no_such_anchor, target_of, lookup}
use Rattle.schema_definitions.specs.Scopes.{outermost, dynamic_lookup, recurs, end_of_run}
use Rattle.schema_definitions.specs.CompileKeys.{ScopeKey, dynamic_names, outermost_bearer, run_end, scope_key}
use Rattle.document_laws.specs.ScopeLaws.{IsPresent, KeysDecide, EnteredIsPresent}
use Rattle.document_laws.proofs.Firsts.{borne_are_named}

-- ---- the present resource

present-first : (base v : List ℕ) (us : List (List ℕ)) → IsPresent base (v ∷ us) → v ≡ base
present-first base v us here = cc

pub entered-present : (new base : List ℕ) (scope : List (List ℕ)) (b : Bool) → bytes_eq new base ≡ b → IsPresent base scope → IsPresent new (if b then scope else new ∷ scope)
entered-present new base scope true e here = here ∙ ap Some (sym ((bytes_eq-Decides new base).0 e))
entered-present new base scope false e here = refl

pub entered_is_present : EnteredIsPresent
entered_is_present new base scope here = entered-present new base scope (bytes_eq new base) refl here

-- ---- what is said of each of some texts

-- one that is among them
same_at : {X : Type 0} (f g : List ℕ → X) (k : List ℕ) (ns : List (List ℕ)) → has_text k ns ≡ true → map f ns ≡ map g ns → f k ≡ g k
same_at f g k [] among same = absurd (cc (among))
same_at f g k (n ∷ ns) among same = by (bytes_eq k n) refl among (same_at f g k ns)
  where
    by : (b : Bool) → bytes_eq k n ≡ b → (b || list_any (bytes_eq k) ns) ≡ true → (has_text k ns ≡ true → map f ns ≡ map g ns → f k ≡ g k) → f k ≡ g k
    by true is e later = (let here : f n ≡ g n = cc (same) in let one = (bytes_eq-Decides k n).0 is in ap f one ∙ here ∙ sym (ap g one))
    by false is e later = (let rest : map f ns ≡ map g ns = cc (same) in later e rest)

-- more of each
same_more : {X Y : Type 0} (f g : List ℕ → X) (more : X → List ℕ → Y) (ns : List (List ℕ)) → map f ns ≡ map g ns → map (λ n. more (f n) n) ns ≡ map (λ n. more (g n) n) ns
same_more f g more [] same = refl
same_more f g more (n ∷ ns) same =
    let here : f n ≡ g n = cc (same) in
    let rest : map f ns ≡ map g ns = cc (same) in
    ap₂ (λ x ys. more x n ∷ ys) here (same_more f g more ns rest)

-- none of some passes
none_passes : (test : List ℕ → Bool) → ((u : List ℕ) → test u ≡ false) → (us : List (List ℕ)) → last_that test us ≡ None
none_passes test fails [] = refl
none_passes test fails (u ∷ us) = ap₂ (λ o (b : Bool). or_else o (if b then Some u else None)) (none_passes test fails us) (fails u)

module _ (docs : Documents) where
  -- ---- dynamic references

  abbrev bearers_in : List (List ℕ) → List (Option (List ℕ))
  bearers_in scope = map (outermost_bearer docs scope) (dynamic_names docs)

  not_borne : (k : List ℕ) → has_text k (dynamic_names docs) ≡ false → (u : List ℕ) (b : Bool) → is_some (dynamically_anchored docs u k) ≡ b → b ≡ false
  not_borne k not_named u true e = (let named = borne_are_named docs u k e in absurd (cc (not_named, named)))
  not_borne k not_named u false e = refl

  same_bearer : (k : List ℕ) (left right : List (List ℕ)) → bearers_in left ≡ bearers_in right → (b : Bool) → has_text k (dynamic_names docs) ≡ b
      → outermost_bearer docs left k ≡ outermost_bearer docs right k
  same_bearer k left right e true named = same_at (outermost_bearer docs left) (outermost_bearer docs right) k (dynamic_names docs) named e
  same_bearer k left right e false named =
      let test = λ (u : List ℕ). is_some (dynamically_anchored docs u k) in
      let fails = λ (u : List ℕ). not_borne k named u (test u) refl in
      none_passes test fails left ∙ sym (none_passes test fails right)

  same_outermost : (k base : List ℕ) (left right : List (List ℕ)) → bearers_in left ≡ bearers_in right → outermost docs k (base ∷ left) ≡ outermost docs k (base ∷ right)
  same_outermost k base left right e =
      let test = λ (u : List ℕ). is_some (dynamically_anchored docs u k) in
      ap (λ o. result_map target_of (ok_or (no_such_anchor k) (option_and_then (λ u. dynamically_anchored docs u k) (or_else o (if test base then Some base else None)))))
      (same_bearer k left right e (has_text k (dynamic_names docs)) refl)

  same_behind : {X Y E : Type 0} (r : Result X E) (f g : X → Result Y E) → ((x : X) → f x ≡ g x) → and_then r f ≡ and_then r g
  same_behind (Ok x) f g h = h x
  same_behind (Err e) f g h = refl

  same_dynamic : (base : List ℕ) (left right : List (List ℕ)) → bearers_in left ≡ bearers_in right
      → (reference : List ℕ) → dynamic_lookup docs base left reference ≡ dynamic_lookup docs base right reference
  same_dynamic base left right same reference =
      let k = or [] (cut_at 35 reference).1 in
      same_behind (lookup docs base reference)
      (λ t. if is_name k && has_text k (dynamic_anchors t.dialect t.contents) then outermost docs k (t.base ∷ left) else Ok t)
      (λ t. if is_name k && has_text k (dynamic_anchors t.dialect t.contents) then outermost docs k (t.base ∷ right) else Ok t)
      (λ t. ap (λ r. if is_name k && has_text k (dynamic_anchors t.dialect t.contents) then r else Ok t) (same_outermost k t.base left right same))

  -- ---- runs

  thrice : {X : Type 0} (r : Bool) (a b n : X) → (if r then a else n) ≡ (if r then (if r then (if r then a else b) else b) else n)
  thrice true a b n = refl
  thrice false a b n = refl

  ran : (new base : List ℕ) (scope : List (List ℕ)) → IsPresent base scope → end_of_run docs new scope ≡ (if recurs docs base then run_end docs base scope else new)
  ran new base [] here = absurd (cc (here))
  ran new base (v ∷ us) here =
      subst (λ b. end_of_run docs new (v ∷ us) ≡ (if recurs docs b then run_end docs b (v ∷ us) else new)) (present-first base v us here)
      (thrice (recurs docs v) (end_of_run docs v us) v new)

  same_run : (new base : List ℕ) (left right : List (List ℕ)) → IsPresent base left → IsPresent base right → run_end docs base left ≡ run_end docs base right
      → run_end docs new (new ∷ left) ≡ run_end docs new (new ∷ right)
  same_run new base left right here there e =
      let same : end_of_run docs new left ≡ end_of_run docs new right = ran new base left here ∙ ap (λ u. if recurs docs base then u else new) e ∙ sym (ran new base right there) in
      ap (λ u. if recurs docs new then (if recurs docs new then u else new) else new) same

  -- ---- one more entry

  same_entered : (new base : List ℕ) (left right : List (List ℕ)) → IsPresent base left → IsPresent base right → scope_key docs base left ≡ scope_key docs base right
      → (b : Bool) → bytes_eq new base ≡ b → scope_key docs new (if b then left else new ∷ left) ≡ scope_key docs new (if b then right else new ∷ right)
  same_entered new base left right here there e true is = subst (λ u. scope_key docs u left ≡ scope_key docs u right) (sym ((bytes_eq-Decides new base).0 is)) e
  same_entered new base left right here there e false is =
      let more = λ (o : Option (List ℕ)) (k : List ℕ). or_else o (if is_some (dynamically_anchored docs new k) then Some new else None) in
      ap₂ (λ os u. record { bearers = os; run = u })
      (same_more (outermost_bearer docs left) (outermost_bearer docs right) more (dynamic_names docs) (ap (λ (k : ScopeKey). k.bearers) e))
      (same_run new base left right here there (ap (λ (k : ScopeKey). k.run) e))

pub keys_decide : KeysDecide
keys_decide docs base left right here there e = record {
  dynamic = same_dynamic docs base left right (ap (λ (k : ScopeKey). k.bearers) e);
  recursive = ap (λ (k : ScopeKey). result_map target_of (ok_or (unretrievable k.run) (bearer docs k.run))) e;
  entered = λ new. same_entered docs new base left right here there e (bytes_eq new base) refl;
}
