-- A walk along a pointer has the base and the dialect of the schema place that it passed last, which is the nearest one.
use Rattle.std.proofs.Common.{◌≡◌, ◌∙◌, ◌++◌, ℕ, List, [], ◌∷◌, Bool, true, false, if◌then◌else◌, Option, Some, None, refl, sym, ap, subst, append-nil}
use Rattle.std.specs.List.{list_all}
use Rattle.std.specs.Prelude.{IfSome, option_map, option_and_then}
use Rattle.serde_json.specs.Data.{Data}
use Rattle.json_values.specs.Parts.{Part}
use Rattle.json_values.specs.Pointers.{value_in}
use Rattle.schema_drafts.specs.Subschemas.{Holds}
use Rattle.schema_meaning.specs.Members.{In}
use Rattle.schema_definitions.specs.Places.{Dialect, SchemaPlace, by_schema, schema_in_force, root_place, entered}
use Rattle.schema_definitions.specs.Bearers.{Document, Documents, document_name, Standing, standings, meta}
use Rattle.schema_definitions.specs.DocumentCauses.{document_causes}
use Rattle.schema_definitions.specs.Lookup.{Walk, at_place, part_of, holds_schema, arrived, Target}
use Rattle.document_laws.specs.TargetLaws.{are_apart, contents_rise}
use Rattle.document_laws.proofs.Depths.{placed_path}
use Rattle.document_laws.proofs.Results.{of_some}
use Rattle.document_laws.proofs.Levels.{IsAmong, root_among, places_closed}
use Rattle.document_laws.proofs.Passing.{Stands}
use Rattle.document_laws.proofs.Reaching.{start, stops, held_in, onward, one_further, reach, reach_stands}
use Rattle.document_laws.proofs.Placing.{places_in, from_root, standing, is_listed, placed_with}
use Rattle.document_laws.proofs.LookedUp.{of_target}
use Rattle.document_laws.proofs.Finding.{target_at, Found, all_found}
use Rattle.document_laws.proofs.TargetsListed.{stands_there, causeless_await_nothing}
use Rattle.json_schema_validator.specs.Bases.{LeadsFrom, IsBased, BasesAreListed}

-- ---- paths

itself : (path : List Part) → LeadsFrom path path
itself path = record { parts = []; is = refl }

one_more : (outer path : List Part) (part : Part) → LeadsFrom outer path → LeadsFrom outer (part ∷ path)
one_more outer path part f = record { parts = part ∷ f.parts; is = ap (λ (p : List Part). part ∷ p) f.is }

-- ---- along a path

module _ (told : List ℕ → Option Dialect) (outer : List Part) where
  -- a walk stands at or below the place that it passed last, and that place at or below a path
  record Grown (w : Walk) : Type 0 where
    path : LeadsFrom outer w.path
    last : LeadsFrom outer w.last.path
    below : LeadsFrom w.last.path w.path

  arrived_grown : (w : Walk) (part : Part) (e : Data) (p : SchemaPlace) (h : Holds) → p.path ≡ part ∷ w.path → Grown w → (b : Bool)
      → Grown (if b then record { path = part ∷ w.path; contents = e; last = p; within = at_place } else record { path = part ∷ w.path; contents = e; last = w.last; within = part_of h })
  arrived_grown w part e p h at g true =
      let further = one_more outer w.path part g.path in record {
        path = further;
        last = subst (LeadsFrom outer) (sym at) further;
        below = subst (λ (q : List Part). LeadsFrom q (part ∷ w.path)) (sym at) (itself (part ∷ w.path));
      }
  arrived_grown w part e p h at g false =
      record { path = one_more outer w.path part g.path; last = g.last; below = one_more w.last.path w.path part g.below }

  found_grown : (w : Walk) (h : Holds) (part : Part) → Grown w → (o : Option Data) → IfSome (option_map (arrived told w h part) o) Grown
  found_grown w h part g None = tt
  found_grown w h part g (Some e) =
      let path : List Part = part ∷ w.path in
      let p = entered told w.last.base w.last.dialect path e in
      let named = by_schema told w.last.dialect (schema_in_force w.last.dialect.siblings false e) in
      arrived_grown w part e p h (placed_path w.last.base w.last.dialect path e named) g (holds_schema h e)

  further_grown : (w : Walk) (part : Part) → Grown w → (b : Bool) → IfSome (if b then None else onward told w part) Grown
  further_grown w part g true = tt
  further_grown w part g false = found_grown w (held_in w part) part g (value_in part w.contents)

  next_grown : (part : Part) (o : Option Walk) → IfSome o Grown → IfSome (option_and_then (one_further told part) o) Grown
  next_grown part None g = tt
  next_grown part (Some w) g = further_grown w part g (stops w)

  reach_grown : (from : Walk) (path parts : List Part) → IfSome (reach told from path) Grown → IfSome (reach told from (parts ++ path)) Grown
  reach_grown from path [] g = g
  reach_grown from path (part ∷ parts) g = next_grown part (reach told from (parts ++ path)) (reach_grown from path parts g)

start_grown : (told : List ℕ → Option Dialect) (p : SchemaPlace) → Grown told p.path (start p)
start_grown told p = record { path = itself p.path; last = itself p.path; below = itself p.path }

-- behind a schema place that is reached along its path
grown_from : (told : List ℕ → Option Dialect) (from : Walk) (p : SchemaPlace) → reach told from p.path ≡ Some (start p) → (v : Walk) → reach told from v.path ≡ Some v
    → LeadsFrom p.path v.path → Grown told p.path v
grown_from told from p there v met f =
    let G : Walk → Type 0 = Grown told p.path in
    let first : IfSome (reach told from p.path) G = subst (λ (o : Option Walk). IfSome o G) (sym there) (start_grown told p) in
    of_some G (reach told from (f.parts ++ p.path)) v (reach_grown told p.path from p.path f.parts first) (ap (reach told from) (sym f.is) ∙ met)

-- ---- in documents

module _ (told : List ℕ → Option Dialect) (docs : Documents) (d : Document) (i : In d docs) (v : Walk) (met : reach told (from_root told d) v.path ≡ Some v) where
  stood : Stands told (IsAmong (places_in told d)) v
  stood =
      let S : Walk → Type 0 = Stands told (IsAmong (places_in told d)) in
      let root : S (from_root told d) = record { last = root_among told d.uri d.default d.contents; here = (refl, refl) } in
      of_some S (reach told (from_root told d) v.path) v
      (reach_stands told (IsAmong (places_in told d)) (places_closed told d.uri d.default d.contents) (from_root told d) root v.path) met

  last_listed : In (standing (document_name d) v.last) (standings told docs)
  last_listed = is_listed told docs d v.last i stood.last

  below_last : LeadsFrom v.last.path v.path
  below_last =
      let p = root_place told d.uri d.default d.contents in
      let at : p.path ≡ [] = placed_path d.uri d.default [] d.contents (by_schema told d.default (schema_in_force d.default.siblings true d.contents)) in
      let whole : LeadsFrom [] v.path = record { parts = v.path; is = sym (append-nil v.path) } in
      let g = grown_from told (from_root told d) p (ap (reach told (from_root told d)) at) v met (subst (λ (q : List Part). LeadsFrom q v.path) (sym at) whole) in
      g.below

  module _ (rise : list_all contents_rise docs ≡ true) where
    nearest_last : are_apart docs ≡ true → (r : Standing) → In r (standings told docs) → r.document ≡ document_name d → LeadsFrom r.place.path v.path
        → LeadsFrom r.place.path v.last.path
    nearest_last apart r j same f =
        let g = grown_from told (from_root told d) r.place (placed_with told docs rise apart d i r j (sym same)) v met f in
        g.last

module _ (docs : Documents) (rise : list_all contents_rise docs ≡ true) (d : Document) (i : In d docs) (v : Walk)
    (met : reach (meta docs) (from_root (meta docs) d) v.path ≡ Some v) where
  walk_based : IsBased docs (target_at (document_name d) v)
  walk_based = record {
    place = standing (document_name d) v.last;
    nearest = record {
      listed = last_listed (meta docs) docs d i v met;
      document = refl;
      below = below_last (meta docs) docs d i v met;
      nearest = nearest_last (meta docs) docs d i v met rise;
    };
    base = refl;
    dialect = refl;
  }

found_based : (docs : Documents) → list_all contents_rise docs ≡ true → document_causes docs ≡ [] → (t : Target) → Found (meta docs) docs t → IsBased docs t
found_based docs rise causes t f =
    let met = stands_there (meta docs) docs f.document f.among f.walk f.met (λ s j above. causeless_await_nothing docs causes s j) in
    subst (λ (u : Target). IsBased docs u) (sym f.is) (walk_based docs rise f.document f.among f.walk met)

pub bases_are_listed : BasesAreListed
bases_are_listed docs rise causes t i =
    found_based docs rise causes t
    (of_target docs (λ s. In s (standings (meta docs) docs)) (Found (meta docs) docs) (all_found (meta docs) docs rise) t i)
