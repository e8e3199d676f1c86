-- Under two that tell the same of the meta-schemas named inside values, these have the same places, and walks in them are the same.
use Rattle.std.proofs.Common.{◌≡◌, ◌∙◌, ℕ, List, [], ◌∷◌, Bool, true, false, ◌||◌, if◌then◌else◌, Option, Some, None, is_some, option_and_then, Result, Ok, Err, IfOk, IfSome, codes, map, refl, ap}
use Rattle.std.specs.List.{flat_map, AllByRecursion}
use Rattle.serde_json.specs.Data.{Data, null, boolean, number, string, array, object, Items}
use Rattle.serde_json.specs.Find.{get_member, get_item, unescape}
use Rattle.json_values.specs.Parts.{Part, name, index}
use Rattle.json_values.specs.Pointers.{index_of}
use Rattle.schema_drafts.specs.Drafts.{draft_named}
use Rattle.schema_drafts.specs.Subschemas.{Holds}
use Rattle.schema_definitions.specs.Words.{text_at, last_that, result_map, ok_or, and_then}
use Rattle.schema_definitions.specs.Identifiers.{identifier}
use Rattle.schema_definitions.specs.Places.{Dialect, SchemaPlace, standard, uri_named, draft_beside, schema_in_force, placed, entered, places}
use Rattle.schema_definitions.specs.Bearers.{Documents, document_name, Standing, standing_in, standings, is_root, last_standing}
use Rattle.schema_definitions.specs.Lookup.{LookupCause, pointer_to_nowhere, Walk, at_place, part_of, holds_schema, in_element, in_member, arrived, item_at, step_to, walk}
use Rattle.document_laws.specs.Agreeing.{Agrees}
use Rattle.document_laws.proofs.Lists.{joined, of_last}
use Rattle.document_laws.proofs.Agreeing.{by_text, agreeing_tell_places}
use Rattle.added_documents.specs.Added.{EachNamed, EachNamedBy, IsToldAlike}
use Rattle.added_documents.proofs.Named.{item_named, member_named}
use Rattle.added_documents.proofs.Children.{NamedAt, places_named}

module _ (told after : List ℕ → Option Dialect) where
  -- what both tell alike
  abbrev pub Alike : Data → Type 0
  Alike d = EachNamed (IsToldAlike told after) d

  by_text_kept : (t : List ℕ) (kept : Bool) → IsToldAlike told after t
      → (u : List ℕ) → option_and_then (λ t. uri_named t (draft_named t)) (if kept then Some t else None) ≡ Some u → after u ≡ told u
  by_text_kept t true h u e = h u e
  by_text_kept t false h u e = cc

  by_text_there : (kept : List ℕ → Bool) (o : Option (List ℕ)) → IfSome o (IsToldAlike told after)
      → (u : List ℕ) → option_and_then (λ t. uri_named t (draft_named t)) (option_and_then (λ t. if kept t then Some t else None) o) ≡ Some u → after u ≡ told u
  by_text_there kept None h u e = cc
  by_text_there kept (Some t) h u e = by_text_kept t (kept t) h u e

  pub in_force : (siblings at_root : Bool) (d : Data) → Alike d
      → (u : List ℕ) → option_and_then (λ t. uri_named t (draft_named t)) (schema_in_force siblings at_root d) ≡ Some u → after u ≡ told u
  in_force siblings at_root null h u e = cc
  in_force siblings at_root (boolean b) h u e = cc
  in_force siblings at_root (number n) h u e = cc
  in_force siblings at_root (string s) h u e = cc
  in_force siblings at_root (array ds) h u e = cc
  in_force siblings at_root (object ms) h u e =
      by_text_there (λ t. at_root || is_some (identifier (standard siblings (draft_beside t)) (object ms))) (text_at (codes "$schema") (object ms)) h.0 u e

  pub same_entered : (outer : List ℕ) (around : Dialect) (path : List Part) (d : Data) → Alike d → entered after outer around path d ≡ entered told outer around path d
  same_entered outer around path d h =
      ap (placed outer around path d) (by_text told after around (schema_in_force around.siblings false d) (in_force around.siblings false d h))

  -- ---- standings

  pub record AlikeAt (s : Standing) : Type 0 where
    pub is : Alike s.place.contents

  at_standings : (document : List ℕ) (ps : List SchemaPlace) → AllByRecursion (NamedAt (IsToldAlike told after) told) ps
      → AllByRecursion AlikeAt (map (λ p. record { document = document; place = p }) ps)
  at_standings document [] h = tt
  at_standings document (p ∷ ps) h = (record { is = h.0.each }, at_standings document ps h.1)

  each_alike : (docs : Documents) → EachNamedBy (IsToldAlike told after) docs → AllByRecursion AlikeAt (flat_map (standing_in told) docs)
  each_alike [] h = tt
  each_alike (d ∷ docs) h =
      joined AlikeAt (standing_in told d) (flat_map (standing_in told) docs)
      (at_standings (document_name d) (places told d.uri d.default d.contents) (places_named (IsToldAlike told after) told d.uri d.default d.contents h.0))
      (each_alike docs h.1)

  stand_alike : (docs : Documents) → EachNamedBy (IsToldAlike told after) docs → AllByRecursion AlikeAt (standings told docs)
  unfolding standings
  stand_alike docs h = each_alike docs h

  each_agrees : (ss : List Standing) → AllByRecursion AlikeAt ss → AllByRecursion (Agrees told after) ss
  each_agrees [] h = tt
  each_agrees (s ∷ ss) h = (record { agrees = in_force s.place.dialect.siblings (is_root s.place.path) s.place.contents h.0.is }, each_agrees ss h.1)

  pub same_last : (test : Standing → Bool) (docs : Documents) → EachNamedBy (IsToldAlike told after) docs → last_standing test after docs ≡ last_standing test told docs
  same_last test docs h = ap (last_that test) (agreeing_tell_places told after docs (each_agrees (standings told docs) (stand_alike docs h)))

  pub last_alike : (test : Standing → Bool) (docs : Documents) → EachNamedBy (IsToldAlike told after) docs → IfSome (last_standing test told docs) AlikeAt
  last_alike test docs h = of_last AlikeAt test (standings told docs) (stand_alike docs h)

  -- ---- walks

  pub record AlikeWalk (w : Walk) : Type 0 where
    pub is : Alike w.contents

  either_walk : (b : Bool) (v w : Walk) → AlikeWalk v → AlikeWalk w → AlikeWalk (if b then v else w)
  either_walk true v w h g = h
  either_walk false v w h g = g

  pub record SameStep (r s : Result Walk LookupCause) : Type 0 where
    pub same : r ≡ s
    pub alike : IfOk s AlikeWalk

  arrived_alike : (w : Walk) (h : Holds) (part : Part) (e : Data) → Alike e → AlikeWalk (arrived told w h part e)
  arrived_alike w h part e a =
      either_walk (holds_schema h e)
      (record { path = part ∷ w.path; contents = e; last = entered told w.last.base w.last.dialect (part ∷ w.path) e; within = at_place })
      (record { path = part ∷ w.path; contents = e; last = w.last; within = part_of h })
      (record { is = a }) (record { is = a })

  same_arrived : (w : Walk) (h : Holds) (part : Part) (e : Data) → Alike e → arrived after w h part e ≡ arrived told w h part e
  same_arrived w h part e a =
      ap (λ q. if holds_schema h e
      then record { path = part ∷ w.path; contents = e; last = q; within = at_place }
      else record { path = part ∷ w.path; contents = e; last = w.last; within = part_of h })
      (same_entered w.last.base w.last.dialect (part ∷ w.path) e a)

  if_found : (cause : LookupCause) (o : Option Data) (w : Walk) (h : Holds) (part : Part) → ((e : Data) → o ≡ Some e → Alike e)
      → SameStep (result_map (arrived after w h part) (ok_or cause o)) (result_map (arrived told w h part) (ok_or cause o))
  if_found cause None w h part each = record { same = refl; alike = tt }
  if_found cause (Some e) w h part each = record { same = ap Ok (same_arrived w h part e (each e refl)); alike = arrived_alike w h part e (each e refl) }

  same_item : (written token : List ℕ) (w : Walk) (ds : Items) (i : Option ℕ) → Alike (array ds)
      → SameStep (item_at after written token w (array ds) i) (item_at told written token w (array ds) i)
  same_item written token w ds None a = record { same = refl; alike = tt }
  same_item written token w ds (Some i) a =
      if_found (pointer_to_nowhere written) (get_item i ds) w (in_element w.within) (index i) (λ e g. item_named (IsToldAlike told after) i ds e g a)

  same_step : (written token : List ℕ) (w : Walk) (d : Data) → Alike d → SameStep (step_to after written token w d) (step_to told written token w d)
  same_step written token w null a = record { same = refl; alike = tt }
  same_step written token w (boolean b) a = record { same = refl; alike = tt }
  same_step written token w (number n) a = record { same = refl; alike = tt }
  same_step written token w (string s) a = record { same = refl; alike = tt }
  same_step written token w (array ds) a = same_item written token w ds (index_of token) a
  same_step written token w (object ms) a =
      let k = unescape token in
      if_found (pointer_to_nowhere written) (get_member k ms) w (in_member w.last w.within k) (name k) (λ e g. member_named (IsToldAlike told after) k ms e g a.1)

  same_rest : (r s : Result Walk LookupCause) → SameStep r s → (f g : Walk → Result Walk LookupCause) → ((w : Walk) → AlikeWalk w → SameStep (f w) (g w))
      → SameStep (and_then r f) (and_then s g)
  same_rest r (Ok w) h f g each = (let next = each w h.alike in record { same = ap (λ x. and_then x f) h.same ∙ next.same; alike = next.alike })
  same_rest r (Err cause) h f g each = record { same = ap (λ x. and_then x f) h.same; alike = tt }

  pub same_walk : (written : List ℕ) (tokens : List (List ℕ)) (w : Walk) → AlikeWalk w → SameStep (walk after written tokens w) (walk told written tokens w)
  same_walk written [] w a = record { same = refl; alike = a }
  same_walk written (token ∷ tokens) w a =
      same_rest (step_to after written token w w.contents) (step_to told written token w w.contents) (same_step written token w w.contents a.is)
      (walk after written tokens) (walk told written tokens) (same_walk written tokens)
