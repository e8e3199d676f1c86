-- Where no added document bears a URI that an old one bears, references that lead somewhere lead to the same targets.
use Rattle.std.proofs.Common.{◌≡◌, ◌∙◌, ◌==◌, ℕ, List, [], ◌∷◌, Bool, true, false, not, ◌&&◌, if◌then◌else◌, Option, Some, None, is_some, option_and_then, bytes_eq, Result, Ok, Err, IfOk, IfSome, codes, refl, sym, ap, ap₂, subst}
use Rattle.std.specs.Cmp.{first_so}
use Rattle.std.specs.Str.{is_utf8}
use Rattle.std.specs.List.{AllByRecursion}
use Rattle.percent_encoding.specs.Percent.{percent_decode}
use Rattle.serde_json.specs.Data.{Data}
use Rattle.serde_json.specs.Find.{get, as_bool}
use Rattle.uri_grammar.specs.Texts.{cut_at, has, pieces}
use Rattle.schema_definitions.specs.Words.{or, or_else, last_that, has_text, result_map, ok_or, and_then}
use Rattle.schema_definitions.specs.Identifiers.{resolved, is_name, anchors, dynamic_anchors}
use Rattle.schema_definitions.specs.Places.{Dialect}
use Rattle.schema_definitions.specs.Bearers.{Documents, Standing, meta, bears, bears_anchor, last_standing, bearer, anchored_under, dynamically_anchored}
use Rattle.schema_definitions.specs.Lookup.{LookupCause, unretrievable, invalid_percent_encoding, no_such_anchor, invalid_anchor, invalid_uri, Target, Walk, at_place, walk, ended, behind_first, by_pointer, target_of, by_anchor, by_fragment, lookup_under, lookup}
use Rattle.schema_definitions.specs.Scopes.{outermost, dynamic_lookup, recurs, end_of_run, recursive_lookup}
use Rattle.document_laws.proofs.Lists.{of_last}
use Rattle.document_laws.proofs.Results.{ok_map, ok_some, some_next, of_ok}
use Rattle.added_documents.specs.Added.{IsFree, LeftAlone}
use Rattle.added_documents.specs.DocumentLaws.{TargetsStay}
use Rattle.added_documents.proofs.Bases.{none_anchored, found_passes, base_borne}
use Rattle.added_documents.proofs.Joining.{joined_last}
use Rattle.added_documents.proofs.Walking.{Alike, AlikeAt, last_alike, same_last, SameStep, same_walk}

nothing_awaited : (o : Option (List ℕ)) (b : Bool) → (not (is_some o) && b) ≡ true → o ≡ None
nothing_awaited None b e = refl
nothing_awaited (Some t) b e = cc

module _ (old more new : Documents) (alone : LeftAlone old more new) where
  abbrev before : List ℕ → Option Dialect
  before = meta old

  abbrev after : List ℕ → Option Dialect
  after = meta new

  abbrev Free : List ℕ → Type 0
  Free q = IsFree more new q

  abbrev pub Known : Data → Type 0
  Known d = Alike (meta old) (meta new) d

  last_free : (test : Standing → Bool) → last_standing test after more ≡ None → last_standing test after new ≡ last_standing test before old
  last_free test e = joined_last test after old more new alone.joined e ∙ same_last before after test old alone.told

  bearer_free : (q : List ℕ) → Free q → bearer new q ≡ bearer old q
  bearer_free q f = last_free (bears q) f

  anchor_free : (of : Dialect → Data → List (List ℕ)) (k q : List ℕ) → Free q
      → last_standing (bears_anchor of q k) after new ≡ last_standing (bears_anchor of q k) before old
  anchor_free of k q f = last_free (bears_anchor of q k) (none_anchored q of k after more f)

  -- what is found in the old documents
  record Settled (f : List ℕ) (t : Target) : Type 0 where
    known : Known t.contents
    borne : is_name f ≡ true → is_some (bearer old t.base) ≡ true

  record SameResult (f : List ℕ) (r s : Result Target LookupCause) : Type 0 where
    same : r ≡ s
    settled : IfOk s (Settled f)

  found_alike : (test : Standing → Bool) (s : Standing) → last_standing test before old ≡ Some s → AlikeAt before after s
  found_alike test s e = subst (λ o. IfSome o (AlikeAt before after)) e (last_alike before after test old alone.told)

  -- ---- by a fragment

  mapped : (f : List ℕ) → is_name f ≡ false → (s : Standing) (r q : Result Walk LookupCause) → SameStep before after r q
      → SameResult f (result_map (ended s) r) (result_map (ended s) q)
  mapped f none s r (Ok w) h = record {
    same = ap (result_map (ended s)) h.same;
    settled = record { known = h.alike.is; borne = λ e. (let no : false ≡ true = sym none ∙ e in cc) };
  }
  mapped f none s r (Err cause) h = record { same = ap (result_map (ended s)) h.same; settled = tt }

  if_text : (f : List ℕ) (cause : LookupCause) (b : Bool) (r q : Result Target LookupCause) → SameResult f r q
      → SameResult f (if b then r else Err cause) (if b then q else Err cause)
  if_text f cause true r q h = h
  if_text f cause false r q h = record { same = refl; settled = tt }

  same_pointer : (s : Standing) → AlikeAt before after s → (f decoded : List ℕ) → is_name f ≡ false → SameResult f (by_pointer after s f decoded) (by_pointer before s f decoded)
  same_pointer s a f decoded none =
      let from : Walk = record { path = s.place.path; contents = s.place.contents; last = s.place; within = at_place } in
      let tokens = behind_first (pieces 47 decoded) in
      if_text f (invalid_percent_encoding f) (is_utf8 decoded) (result_map (ended s) (walk after f tokens from)) (result_map (ended s) (walk before f tokens from))
      (mapped f none s (walk after f tokens from) (walk before f tokens from) (same_walk before after f tokens from (record { is = a.is })))

  anchor_settled : (q k : List ℕ) (o : Option Standing) → anchored_under before old q k ≡ o → IfOk (result_map target_of (ok_or (no_such_anchor k) o)) (Settled k)
  anchor_settled q k None is = tt
  anchor_settled q k (Some s) is =
      let test = bears_anchor anchors q k in
      record {
        known = (found_alike test s is).is;
        borne = λ e.
            base_borne before test old s is
            (nothing_awaited s.place.awaits (bytes_eq s.place.base q)
            (first_so (not (is_some s.place.awaits) && bytes_eq s.place.base q) (has_text k (anchors s.place.dialect s.place.contents)) (found_passes before test old s is)));
      }

  unless_slash : (k : List ℕ) (b : Bool) (r : Result Target LookupCause) → IfOk r (Settled k) → IfOk (if b then Err (invalid_anchor k) else r) (Settled k)
  unless_slash k true r h = tt
  unless_slash k false r h = h

  same_anchor : (s : Standing) → Free s.place.base → (k : List ℕ) → SameResult k (by_anchor after new s k) (by_anchor before old s k)
  same_anchor s free k = record {
    same = ap (λ o. if has 47 k then Err (invalid_anchor k) else result_map target_of (ok_or (no_such_anchor k) o)) (anchor_free anchors k s.place.base free);
    settled = unless_slash k (has 47 k) _ (anchor_settled s.place.base k (anchored_under before old s.place.base k) refl);
  }

  no_name : (b : ℕ) (f : List ℕ) → (b == 47) ≡ true → is_name (b ∷ f) ≡ false
  no_name b f e = rw e refl

  same_fragment : (s : Standing) → AlikeAt before after s → is_some (bearer old s.place.base) ≡ true → (f : List ℕ)
      → SameResult f (by_fragment after new s f) (by_fragment before old s f)
  same_fragment s a borne [] = record { same = refl; settled = record { known = a.is; borne = λ e. borne } }
  same_fragment s a borne (b ∷ f) = by (b == 47) refl
    where
      by : (x : Bool) → (b == 47) ≡ x
          → SameResult (b ∷ f) (if x then by_pointer after s (b ∷ f) (percent_decode (b ∷ f)) else by_anchor after new s (b ∷ f))
          (if x then by_pointer before s (b ∷ f) (percent_decode (b ∷ f)) else by_anchor before old s (b ∷ f))
      by true is = same_pointer s a (b ∷ f) (percent_decode (b ∷ f)) (no_name b f is)
      by false is = same_anchor s (alone.apart s.place.base borne) (b ∷ f)

  -- ---- lookup

  record Looked (f : List ℕ) (r : Result Target LookupCause) (t : Target) : Type 0 where
    same : r ≡ Ok t
    settled : Settled f t

  same_behind : (uri f : List ℕ) (t : Target) → and_then (ok_or (unretrievable uri) (bearer old uri)) (λ s. by_fragment before old s f) ≡ Ok t
      → Looked f (and_then (ok_or (unretrievable uri) (bearer new uri)) (λ s. by_fragment after new s f)) t
  same_behind uri f t e = by (bearer old uri) refl
    where
      by : (o : Option Standing) → bearer old uri ≡ o → Looked f (and_then (ok_or (unretrievable uri) (bearer new uri)) (λ s. by_fragment after new s f)) t
      by None is =
          let no : Err (unretrievable uri) ≡ Ok t = ap (λ o. and_then (ok_or (unretrievable uri) o) (λ s. by_fragment before old s f)) (sym is) ∙ e in cc
      by (Some s) is =
          let there : bearer new uri ≡ Some s = bearer_free uri (alone.apart uri (ap is_some is)) ∙ is in
          let borne = base_borne before (bears uri) old s is (nothing_awaited s.place.awaits _ (found_passes before (bears uri) old s is)) in
          let next = same_fragment s (found_alike (bears uri) s is) borne f in
          let here : by_fragment before old s f ≡ Ok t = ap (λ o. and_then (ok_or (unretrievable uri) o) (λ s. by_fragment before old s f)) (sym is) ∙ e in
          record {
            same = ap (λ o. and_then (ok_or (unretrievable uri) o) (λ s. by_fragment after new s f)) there ∙ next.same ∙ here;
            settled = of_ok (Settled f) (by_fragment before old s f) t next.settled here;
          }

  same_resolved : (cause : LookupCause) (o : Option (List ℕ)) (f : List ℕ) (t : Target)
      → and_then (ok_or cause o) (λ uri. and_then (ok_or (unretrievable uri) (bearer old uri)) (λ s. by_fragment before old s f)) ≡ Ok t
      → Looked f (and_then (ok_or cause o) (λ uri. and_then (ok_or (unretrievable uri) (bearer new uri)) (λ s. by_fragment after new s f))) t
  same_resolved cause None f t e = (let no : Err cause ≡ Ok t = e in absurd (cc))
  same_resolved cause (Some uri) f t e = same_behind uri f t e

  same_lookup : (base reference : List ℕ) (t : Target) → lookup old base reference ≡ Ok t → Looked (or [] (cut_at 35 reference).1) (lookup new base reference) t
  unfolding lookup_under
  same_lookup base reference t e =
      let c = cut_at 35 reference in
      same_resolved (invalid_uri c.0) (resolved base c.0) (or [] c.1) t e

  -- a result that is the same, with a value that both tell alike
  pub record SameTarget (r : Result Target LookupCause) (t : Target) : Type 0 where
    pub same : r ≡ Ok t
    pub known : Known t.contents

  pub static_same : (base reference : List ℕ) (t : Target) → lookup old base reference ≡ Ok t → SameTarget (lookup new base reference) t
  static_same base reference t e = (let l = same_lookup base reference t e in record { same = l.same; known = l.settled.known })

  -- ---- by dynamic scope

  last_same : (k : List ℕ) (us : List (List ℕ)) → AllByRecursion Free us
      → last_that (λ u. is_some (dynamically_anchored new u k)) us ≡ last_that (λ u. is_some (dynamically_anchored old u k)) us
  last_same k [] h = refl
  last_same k (u ∷ us) h =
      ap₂ (λ o b. or_else o (if b then Some u else None)) (last_same k us h.1) (ap is_some (anchor_free dynamic_anchors k u h.0))

  found_same : (k : List ℕ) (o : Option (List ℕ)) → IfSome o Free → option_and_then (λ u. dynamically_anchored new u k) o ≡ option_and_then (λ u. dynamically_anchored old u k) o
  found_same k None h = refl
  found_same k (Some u) h = anchor_free dynamic_anchors k u h

  record KnownTarget (t : Target) : Type 0 where
    is : Known t.contents

  outermost_same : (k : List ℕ) (us : List (List ℕ)) → AllByRecursion Free us → outermost new k us ≡ outermost old k us
  outermost_same k us h =
      ap (λ o. result_map target_of (ok_or (no_such_anchor k) o))
      (ap (λ o. option_and_then (λ u. dynamically_anchored new u k) o) (last_same k us h)
      ∙ found_same k (last_that (λ u. is_some (dynamically_anchored old u k)) us) (of_last Free (λ u. is_some (dynamically_anchored old u k)) us h))

  outermost_known : (k : List ℕ) (us : List (List ℕ)) → IfOk (outermost old k us) KnownTarget
  outermost_known k us =
      let last = last_that (λ u. is_some (dynamically_anchored old u k)) us in
      let found = option_and_then (λ u. dynamically_anchored old u k) last in
      ok_map (AlikeAt before after) KnownTarget (ok_or (no_such_anchor k) found) target_of
      (ok_some (AlikeAt before after) (no_such_anchor k) found
      (some_next (AlikeAt before after) last (λ u. dynamically_anchored old u k) (λ u. last_alike before after (bears_anchor dynamic_anchors u k) old alone.told)))
      (λ s a. record { is = a.is })

  on_found : (k : List ℕ) (scope : List (List ℕ)) (u t : Target) (named borne : Bool) → AllByRecursion Free scope → Settled k u → is_name k ≡ named
      → (if named && borne then outermost old k (u.base ∷ scope) else Ok u) ≡ Ok t → SameTarget (if named && borne then outermost new k (u.base ∷ scope) else Ok u) t
  on_found k scope u t true true h s is e =
      let frees : AllByRecursion Free (u.base ∷ scope) = (alone.apart u.base (s.borne is), h) in
      record {
        same = outermost_same k (u.base ∷ scope) frees ∙ e;
        known = (of_ok KnownTarget (outermost old k (u.base ∷ scope)) t (outermost_known k (u.base ∷ scope)) e).is;
      }
  on_found k scope u t true false h s is e = (let value : u ≡ t = cc in record { same = e; known = subst (λ (x : Target). Known x.contents) value s.known })
  on_found k scope u t false borne h s is e = (let value : u ≡ t = cc in record { same = e; known = subst (λ (x : Target). Known x.contents) value s.known })

  abbrev on_target : List ℕ → List (List ℕ) → Documents → Target → Result Target LookupCause
  on_target k scope docs u = if is_name k && has_text k (dynamic_anchors u.dialect u.contents) then outermost docs k (u.base ∷ scope) else Ok u

  pub dynamic_same : (base : List ℕ) (scope : List (List ℕ)) (reference : List ℕ) (t : Target) → AllByRecursion Free scope
      → dynamic_lookup old base scope reference ≡ Ok t → SameTarget (dynamic_lookup new base scope reference) t
  dynamic_same base scope reference t h e = by (lookup old base reference) refl
    where
      by : (r : Result Target LookupCause) → lookup old base reference ≡ r → SameTarget (dynamic_lookup new base scope reference) t
      by (Err cause) is =
          let next = on_target (or [] (cut_at 35 reference).1) scope in
          let no : Err cause ≡ Ok t = ap (λ r. and_then r (next old)) (sym is) ∙ e in absurd (cc)
      by (Ok u) is =
          let k = or [] (cut_at 35 reference).1 in
          let next = on_target k scope in
          let l = same_lookup base reference u is in
          let here : next old u ≡ Ok t = ap (λ r. and_then r (next old)) (sym is) ∙ e in
          let there = on_found k scope u t (is_name k) (has_text k (dynamic_anchors u.dialect u.contents)) h l.settled refl here in
          record { same = ap (λ r. and_then r (next new)) l.same ∙ there.same; known = there.known }

  -- ---- by the run of resources

  recurs_same : (u : List ℕ) → Free u → recurs new u ≡ recurs old u
  recurs_same u f = ap (λ o. or false (option_and_then (λ s. option_and_then as_bool (get (codes "$recursiveAnchor") s.place.contents)) o)) (bearer_free u f)

  end_same : (us : List (List ℕ)) → AllByRecursion Free us → (last : List ℕ) → end_of_run new last us ≡ end_of_run old last us
  end_same [] h last = refl
  end_same (u ∷ us) h last =
      ap (λ b. if b then end_of_run new u us else last) (recurs_same u h.0)
      ∙ ap (λ v. if recurs old u then v else last) (end_same us h.1 u)

  borne_same : (u : List ℕ) (t : Target) → result_map target_of (ok_or (unretrievable u) (bearer old u)) ≡ Ok t
      → SameTarget (result_map target_of (ok_or (unretrievable u) (bearer new u))) t
  borne_same u t e = by (bearer old u) refl
    where
      by : (o : Option Standing) → bearer old u ≡ o → SameTarget (result_map target_of (ok_or (unretrievable u) (bearer new u))) t
      by None is = (let no : Err (unretrievable u) ≡ Ok t = ap (λ o. result_map target_of (ok_or (unretrievable u) o)) (sym is) ∙ e in absurd (cc))
      by (Some s) is =
          let there : bearer new u ≡ Some s = bearer_free u (alone.apart u (ap is_some is)) ∙ is in
          let here : Ok (target_of s) ≡ Ok t = ap (λ o. result_map target_of (ok_or (unretrievable u) o)) (sym is) ∙ e in
          let value : target_of s ≡ t = cc in
          record {
            same = ap (λ o. result_map target_of (ok_or (unretrievable u) o)) there ∙ here;
            known = subst (λ (x : Target). Known x.contents) value (found_alike (bears u) s is).is;
          }

  abbrev of_base : Documents → List ℕ → Result Target LookupCause
  of_base docs u = result_map target_of (ok_or (unretrievable u) (bearer docs u))

  abbrev end : List ℕ → List (List ℕ) → Documents → Bool → List ℕ
  end base scope docs b = if b then end_of_run docs base scope else base

  pub recursive_same : (base : List ℕ) (scope : List (List ℕ)) (t : Target) → AllByRecursion Free scope
      → recursive_lookup old base scope ≡ Ok t → SameTarget (recursive_lookup new base scope) t
  recursive_same base scope t h e = by (bearer old base) refl
    where
      by : (o : Option Standing) → bearer old base ≡ o → SameTarget (recursive_lookup new base scope) t
      by None is =
          let quiet : recurs old base ≡ false = ap (λ o. or false (option_and_then (λ s. option_and_then as_bool (get (codes "$recursiveAnchor") s.place.contents)) o)) is in
          let there : of_base old base ≡ Ok t = ap (λ b. of_base old (end base scope old b)) (sym quiet) ∙ e in
          let no : Err (unretrievable base) ≡ Ok t = ap (λ o. result_map target_of (ok_or (unretrievable base) o)) (sym is) ∙ there in absurd (cc)
      by (Some s) is =
          let one : end base scope new (recurs new base) ≡ end base scope new (recurs old base) = ap (end base scope new) (recurs_same base (alone.apart base (ap is_some is))) in
          let two : end base scope new (recurs old base) ≡ end base scope old (recurs old base) = ap (λ v. if recurs old base then v else base) (end_same scope h base) in
          let there = borne_same (end base scope old (recurs old base)) t e in
          record { same = ap (of_base new) (one ∙ two) ∙ there.same; known = there.known }

pub targets_stay : TargetsStay
targets_stay old more new alone = record {
  static = λ base reference t e. (static_same old more new alone base reference t e).same;
  dynamic = λ base scope reference t h e. (dynamic_same old more new alone base scope reference t h e).same;
  recursive = λ base scope t h e. (recursive_same old more new alone base scope t h e).same;
}
