-- A reference that leads somewhere, in the two documents and in the one with the other inside, leads to corresponding places.
use Rattle.std.proofs.Common.{◌≡◌, ◌∙◌, ◌==◌, ◌&&◌, ◌||◌, ℕ, List, [], ◌∷◌, ◌++◌, not, Bool, true, false, if◌then◌else◌, bytes_eq, codes, Option, Some, None, is_some, option_and_then, Result, Ok, Err, refl, sym, ap, ap₂, subst}
use Rattle.std.specs.List.{list_any}
use Rattle.std.specs.Str.{is_utf8}
use Rattle.percent_encoding.specs.Percent.{percent_decode}
use Rattle.serde_json.specs.Data.{Data}
use Rattle.serde_json.specs.Find.{get, as_bool}
use Rattle.json_values.specs.Parts.{Part}
use Rattle.uri_grammar.specs.Texts.{cut_at, has, pieces}
use Rattle.schema_drafts.specs.declared.draft.Draft.{Draft}
use Rattle.schema_definitions.specs.Words.{or, or_else, last_that, has_text, result_map, ok_or, and_then}
use Rattle.schema_definitions.specs.Identifiers.{resolved, is_name, anchors_by, anchors, dynamic_anchors}
use Rattle.schema_definitions.specs.Places.{Dialect}
use Rattle.schema_definitions.specs.Bearers.{Documents, Standing, bears, bears_anchor, bearer_under, bearer, anchored_under, dynamically_anchored}
use Rattle.schema_definitions.specs.DocumentCauses.{document_causes}
use Rattle.schema_definitions.specs.Lookup.{LookupCause, unretrievable, invalid_percent_encoding, no_such_anchor, invalid_anchor, invalid_uri, Target, Walk, at_place, walk, is_at_place, ended, behind_first, by_pointer, target_of, by_anchor, by_fragment, lookup_under, lookup}
use Rattle.schema_definitions.specs.Scopes.{outermost, dynamic_lookup, recurs, end_of_run, recursive_lookup}
use Rattle.moved_documents.specs.Forms.{Pair, added, inside}
use Rattle.moved_documents.specs.Premises.{CanMove}
use Rattle.moved_documents.specs.Linked.{SamePlace, of_root, of_moved, TargetAlike, Together}
use Rattle.moved_documents.proofs.Twins.{Paths}
use Rattle.moved_documents.proofs.NearTexts.{anchors_near, dynamic_near, recurring_near}
use Rattle.moved_documents.proofs.Standings.{Alike, BothFound, neither_found, each_found, both_found}
use Rattle.moved_documents.proofs.Told.{told, tell}
use Rattle.moved_documents.proofs.Walks.{came, WalkAlike, walk_alike}

-- ---- the same places

pub next_place : {p : Pair} {document document' : List ℕ} {path path' : List Part} (part : Part) → SamePlace p document path document' path'
    → SamePlace p document (part ∷ path) document' (part ∷ path')
next_place part of_root = of_root
next_place part of_moved = of_moved

pub further_place : {p : Pair} {document document' : List ℕ} {path path' : List Part} (parts : List Part) → SamePlace p document path document' path'
    → SamePlace p document (parts ++ path) document' (parts ++ path')
further_place [] h = h
further_place (part ∷ parts) h = next_place part (further_place parts h)

-- ---- texts of anchors

any_behind : (f : List ℕ → Bool) (xs ys : List (List ℕ)) → list_any f ys ≡ true → list_any f (xs ++ ys) ≡ true
any_behind f [] ys e = e
any_behind f (x ∷ xs) ys e = by (f x) (any_behind f xs ys e)
  where
    by : (b : Bool) {c : Bool} → c ≡ true → (b || c) ≡ true
    by true h = refl
    by false h = h

third_so : (a b c d : Bool) → (c ≡ true → d ≡ true) → (a && b && c) ≡ true → (a && b && d) ≡ true
third_so true true c d f e = f e
third_so true false c d f e = cc
third_so false b c d f e = cc

-- a dynamic anchor is an anchor
dynamic_bears : (base k : List ℕ) (s : Standing) → bears_anchor dynamic_anchors base k s ≡ true → bears_anchor anchors base k s ≡ true
dynamic_bears base k s e =
    third_so (not (is_some s.place.awaits)) (bytes_eq s.place.base base) (has_text k (dynamic_anchors s.place.dialect s.place.contents)) (has_text k (anchors s.place.dialect s.place.contents))
    (any_behind (bytes_eq k) (anchors_by s.place.dialect.draft s.place.dialect s.place.contents) (dynamic_anchors s.place.dialect s.place.contents)) e

-- the last that passes is the same by tests that answer alike
last_same : {A : Type 0} (f g : A → Bool) → ((x : A) → f x ≡ g x) → (xs : List A) → last_that f xs ≡ last_that g xs
last_same f g same [] = refl
last_same f g same (x ∷ xs) = ap₂ (λ o (b : Bool). or_else o (if b then Some x else None)) (last_same f g same xs) (same x)

module _ (p : Pair) (draft : Draft) (whole : Data) (can : CanMove p draft whole) (accepted : document_causes (inside p whole) ≡ []) where
  abbrev AlikeHere : Standing → Standing → Type 0
  AlikeHere s t = Alike p s t

  abbrev LedAlike : Result Target LookupCause → Result Target LookupCause → Type 0
  LedAlike r q = Together p r q

  abbrev there : List ℕ → Option Dialect
  there = told p draft whole can

  abbrev old : Documents
  old = added p

  abbrev new : Documents
  new = inside p whole

  -- ---- bearers

  abbrev Found : Option Standing → Option Standing → Type 0
  Found o q = BothFound p o q

  bearer_found : (uri : List ℕ) → Found (bearer_under there old uri) (bearer_under there new uri)
  bearer_found uri = both_found p draft whole can there (bears uri) (λ s t a. a.bears_alike uri) (can.once.uris uri)

  anchor_alike : (base k : List ℕ) (s t : Standing) → AlikeHere s t → bears_anchor anchors base k s ≡ bears_anchor anchors base k t
  anchor_alike base k s t a =
      ap (λ (xs : List (List ℕ)). not (is_some s.place.awaits) && bytes_eq s.place.base base && has_text k xs)
      (sym (anchors_near p.fresh p.moved can.fresh s.place.contents t.place.contents a.near s.place.dialect))
      ∙ rw (a.base, a.dialect, a.awaits) refl

  dynamic_anchor_alike : (base k : List ℕ) (s t : Standing) → AlikeHere s t → bears_anchor dynamic_anchors base k s ≡ bears_anchor dynamic_anchors base k t
  dynamic_anchor_alike base k s t a =
      ap (λ (xs : List (List ℕ)). not (is_some s.place.awaits) && bytes_eq s.place.base base && has_text k xs)
      (sym (dynamic_near p.fresh p.moved can.fresh s.place.contents t.place.contents a.near s.place.dialect))
      ∙ rw (a.base, a.dialect, a.awaits) refl

  anchor_found : (base k : List ℕ) → Found (anchored_under there old base k) (anchored_under there new base k)
  anchor_found base k = both_found p draft whole can there (bears_anchor anchors base k) (anchor_alike base k) (can.once.names base k)

  dynamic_found : (base k : List ℕ) → Found (dynamically_anchored old base k) (dynamically_anchored new base k)
  dynamic_found base k =
      subst (λ o. Found o (dynamically_anchored new base k)) (sym ((tell p draft whole can accepted).dynamic old base k))
      (both_found p draft whole can there (bears_anchor dynamic_anchors base k) (dynamic_anchor_alike base k)
      (λ s t i j e f. can.once.names base k s t i j (dynamic_bears base k s e) (dynamic_bears base k t f)))

  borne_found : (uri : List ℕ) → Found (bearer old uri) (bearer new uri)
  borne_found uri = subst (λ o. Found o (bearer new uri)) (sym ((tell p draft whole can accepted).bearers old uri)) (bearer_found uri)

  -- ---- what a place leads to

  -- the paths of two documents that are of the same places
  abbrev spelled : Standing → Standing → Paths
  spelled s t = record { along = λ path path'. SamePlace p s.document path t.document path'; next = λ part path path' h. next_place part h }

  standing_target : (s t : Standing) → AlikeHere s t → TargetAlike p (target_of s) (target_of t)
  standing_target s t a = record { place = a.place; contents = a.near; base = a.base; dialect = a.dialect; is_place = refl }

  of_found : (cause : LookupCause) (o q : Option Standing) → Found o q → LedAlike (result_map target_of (ok_or cause o)) (result_map target_of (ok_or cause q))
  of_found cause _ _ neither_found x y f g = absurd (cc)
  of_found cause _ _ (each_found {s = s} {t = t} a) x y f g =
      let one : target_of s ≡ x = cc in
      let other : target_of t ≡ y = cc in
      subst (λ z. TargetAlike p x z) other (subst (λ z. TargetAlike p z (target_of t)) one (standing_target s t a))

  ended_together : (s t : Standing) (r q : Result Walk LookupCause)
      → ((x y : Walk) → r ≡ Ok x → q ≡ Ok y → WalkAlike p.fresh p.moved can.fresh there (spelled s t) x y) → LedAlike (result_map (ended s) r) (result_map (ended t) q)
  ended_together s t (Err c) q h x y f g = absurd (cc)
  ended_together s t (Ok w) (Err c) h x y f g = absurd (cc)
  ended_together s t (Ok w) (Ok v) h x y f g =
      let a = h w v refl refl in
      let one : ended s w ≡ x = cc in
      let other : ended t v ≡ y = cc in
      let alike : TargetAlike p (ended s w) (ended t v) = record { place = a.along; contents = a.near; base = a.last.base; dialect = a.last.dialect; is_place = ap is_at_place a.within } in
      subst (λ z. TargetAlike p x z) other (subst (λ z. TargetAlike p z (ended t v)) one alike)

  if_text : (cause : LookupCause) (b : Bool) (r q : Result Target LookupCause) → LedAlike r q → LedAlike (if b then r else Err cause) (if b then q else Err cause)
  if_text cause true r q h x y f g = h x y f g
  if_text cause false r q h x y f g = absurd (cc)

  unless_slash : (cause : LookupCause) (b : Bool) (r q : Result Target LookupCause) → LedAlike r q → LedAlike (if b then Err cause else r) (if b then Err cause else q)
  unless_slash cause true r q h x y f g = absurd (cc)
  unless_slash cause false r q h x y f g = h x y f g

  pointer_alike : (s t : Standing) → AlikeHere s t → (written decoded : List ℕ) → LedAlike (by_pointer there s written decoded) (by_pointer there t written decoded)
  pointer_alike s t a written decoded =
      let from : Walk = record { path = s.place.path; contents = s.place.contents; last = s.place; within = at_place } in
      let to : Walk = record { path = t.place.path; contents = t.place.contents; last = t.place; within = at_place } in
      let tokens = behind_first (pieces 47 decoded) in
      let start : WalkAlike p.fresh p.moved can.fresh there (spelled s t) from to =
      record { along = a.place; within = refl; near = a.near; last = record { along = a.place; base = a.base; dialect = a.dialect; contents = a.near } } in
      if_text (invalid_percent_encoding written) (is_utf8 decoded) (result_map (ended s) (walk there written tokens from)) (result_map (ended t) (walk there written tokens to))
      (ended_together s t (walk there written tokens from) (walk there written tokens to) (walk_alike p.fresh p.moved can.fresh there (spelled s t) written tokens from to start))

  anchor_led : (s t : Standing) → AlikeHere s t → (k : List ℕ) → LedAlike (by_anchor there old s k) (by_anchor there new t k)
  anchor_led s t a k =
      subst (λ (b : List ℕ). LedAlike (by_anchor there old s k) (if has 47 k then Err (invalid_anchor k) else result_map target_of (ok_or (no_such_anchor k) (anchored_under there new b k)))) a.base
      (unless_slash (invalid_anchor k) (has 47 k) _ _ (of_found (no_such_anchor k) _ _ (anchor_found s.place.base k)))

  either_led : (b : Bool) (r r' q q' : Result Target LookupCause) → LedAlike r q → LedAlike r' q' → LedAlike (if b then r else r') (if b then q else q')
  either_led true r r' q q' h g = h
  either_led false r r' q q' h g = g

  fragment_led : (s t : Standing) → AlikeHere s t → (f : List ℕ) → LedAlike (by_fragment there old s f) (by_fragment there new t f)
  fragment_led s t a [] = of_found (no_such_anchor []) (Some s) (Some t) (each_found a)
  fragment_led s t a (b ∷ f) = either_led (b == 47) _ _ _ _ (pointer_alike s t a (b ∷ f) (percent_decode (b ∷ f))) (anchor_led s t a (b ∷ f))

  bearer_led : (cause : LookupCause) (f : List ℕ) (o q : Option Standing) → Found o q
      → LedAlike (and_then (ok_or cause o) (λ s. by_fragment there old s f)) (and_then (ok_or cause q) (λ s. by_fragment there new s f))
  bearer_led cause f _ _ neither_found x y e g = absurd (cc)
  bearer_led cause f _ _ (each_found {s = s} {t = t} a) x y e g = fragment_led s t a f x y e g

  resolved_led : (cause : LookupCause) (f : List ℕ) (o : Option (List ℕ))
      → LedAlike (and_then (ok_or cause o) (λ uri. and_then (ok_or (unretrievable uri) (bearer_under there old uri)) (λ s. by_fragment there old s f)))
      (and_then (ok_or cause o) (λ uri. and_then (ok_or (unretrievable uri) (bearer_under there new uri)) (λ s. by_fragment there new s f)))
  resolved_led cause f None x y e g = absurd (cc)
  resolved_led cause f (Some uri) x y e g = bearer_led (unretrievable uri) f _ _ (bearer_found uri) x y e g

  under_led : (base reference : List ℕ) → LedAlike (lookup_under there old base reference) (lookup_under there new base reference)
  unfolding lookup_under
  under_led base reference =
      let c = cut_at 35 reference in
      resolved_led (invalid_uri c.0) (or [] c.1) (resolved base c.0)

  pub static_led : (base reference : List ℕ) → LedAlike (lookup old base reference) (lookup new base reference)
  static_led base reference =
      subst (λ r. LedAlike r (lookup new base reference)) (sym ((tell p draft whole can accepted).lookups old base reference)) (under_led base reference)

  -- ---- by the dynamic scope

  some_alike : (o q : Option Standing) → Found o q → is_some o ≡ is_some q
  some_alike _ _ neither_found = refl
  some_alike _ _ (each_found a) = refl

  outermost_led : (k : List ℕ) (us : List (List ℕ)) → LedAlike (outermost old k us) (outermost new k us)
  outermost_led k us =
      let first = last_that (λ u. is_some (dynamically_anchored old u k)) us in
      let second = last_that (λ u. is_some (dynamically_anchored new u k)) us in
      let same : first ≡ second = last_same (λ u. is_some (dynamically_anchored old u k)) (λ u. is_some (dynamically_anchored new u k)) (λ u. some_alike _ _ (dynamic_found u k)) us in
      subst (λ o. LedAlike (outermost old k us) (result_map target_of (ok_or (no_such_anchor k) (option_and_then (λ u. dynamically_anchored new u k) o)))) same (by first)
    where
      by : (o : Option (List ℕ)) → LedAlike (result_map target_of (ok_or (no_such_anchor k) (option_and_then (λ u. dynamically_anchored old u k) o)))
          (result_map target_of (ok_or (no_such_anchor k) (option_and_then (λ u. dynamically_anchored new u k) o)))
      by None x y f g = absurd (cc)
      by (Some u) x y f g = of_found (no_such_anchor k) _ _ (dynamic_found u k) x y f g

  abbrev on_target : List ℕ → List (List ℕ) → Documents → Target → Result Target LookupCause
  on_target k scope docs t = if is_name k && has_text k (dynamic_anchors t.dialect t.contents) then outermost docs k (t.base ∷ scope) else Ok t

  itself_led : (t u : Target) → TargetAlike p t u → LedAlike (Ok t) (Ok u)
  itself_led t u a x y f g =
      let one : t ≡ x = cc in
      let other : u ≡ y = cc in
      subst (λ z. TargetAlike p x z) other (subst (λ z. TargetAlike p z u) one a)

  target_led : (k : List ℕ) (scope : List (List ℕ)) (t u : Target) → TargetAlike p t u → LedAlike (on_target k scope old t) (on_target k scope new u)
  target_led k scope t u a =
      let test : Target → Bool = λ (x : Target). is_name k && has_text k (dynamic_anchors x.dialect x.contents) in
      let same : test t ≡ test u =
      ap (λ (xs : List (List ℕ)). is_name k && has_text k xs)
      (sym (dynamic_near p.fresh p.moved can.fresh t.contents u.contents a.contents t.dialect) ∙ ap (λ (x : Dialect). dynamic_anchors x u.contents) a.dialect) in
      subst (λ (b : Bool). LedAlike (on_target k scope old t) (if b then outermost new k (u.base ∷ scope) else Ok u)) same
      (either_led (test t) _ _ _ _
      (subst (λ (b : List ℕ). LedAlike (outermost old k (t.base ∷ scope)) (outermost new k (b ∷ scope))) a.base (outermost_led k (t.base ∷ scope)))
      (itself_led t u a))

  pub dynamic_led : (base : List ℕ) (scope : List (List ℕ)) (reference : List ℕ) → LedAlike (dynamic_lookup old base scope reference) (dynamic_lookup new base scope reference)
  dynamic_led base scope reference x y f g =
      let k = or [] (cut_at 35 reference).1 in
      let h = came (lookup old base reference) (on_target k scope old) x f in
      let l = came (lookup new base reference) (on_target k scope new) y g in
      target_led k scope h.from l.from (static_led base reference h.from l.from h.right l.right) x y h.is l.is

  -- ---- by the run of resources

  abbrev says : Option Standing → Bool
  says o = or false (option_and_then (λ s. option_and_then as_bool (get (codes "$recursiveAnchor") s.place.contents)) o)

  says_alike : (o q : Option Standing) → Found o q → says o ≡ says q
  says_alike _ _ neither_found = refl
  says_alike _ _ (each_found {s = s} {t = t} a) =
      ap (λ o. or false o) (sym (recurring_near p.fresh p.moved can.fresh s.place.contents t.place.contents a.near))

  recurs_same : (u : List ℕ) → recurs old u ≡ recurs new u
  recurs_same u = says_alike (bearer old u) (bearer new u) (borne_found u)

  end_same : (us : List (List ℕ)) (last : List ℕ) → end_of_run old last us ≡ end_of_run new last us
  end_same [] last = refl
  end_same (u ∷ us) last = ap₂ (λ (b : Bool) (v : List ℕ). if b then v else last) (recurs_same u) (end_same us u)

  pub recursive_led : (base : List ℕ) (scope : List (List ℕ)) → LedAlike (recursive_lookup old base scope) (recursive_lookup new base scope)
  recursive_led base scope =
      let first = if recurs old base then end_of_run old base scope else base in
      let second = if recurs new base then end_of_run new base scope else base in
      let same : first ≡ second = ap₂ (λ (b : Bool) (v : List ℕ). if b then v else base) (recurs_same base) (end_same scope base) in
      subst (λ (u : List ℕ). LedAlike (recursive_lookup old base scope) (result_map target_of (ok_or (unretrievable u) (bearer new u)))) same
      (of_found (unretrievable first) _ _ (borne_found first))
