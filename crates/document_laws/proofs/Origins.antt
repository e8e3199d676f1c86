-- The documents that standings and targets are of.
use Rattle.std.proofs.Common.{◌≡◌, ◌≤◌, ℕ, List, [], ◌∷◌, Bool, Option, refl, subst, map, arith}
use Rattle.std.specs.List.{flat_map, AllByRecursion}
use Rattle.std.specs.Prelude.{IfSome}
use Rattle.serde_json.specs.Data.{Data, depth}
use Rattle.json_values.specs.Parts.{Part}
use Rattle.schema_meaning.specs.Members.{In, first, later}
use Rattle.schema_meaning.specs.Places.{SchemaPlace as ListedPlace}
use Rattle.schema_definitions.specs.Places.{Dialect, SchemaPlace, places}
use Rattle.schema_definitions.specs.Bearers.{Document, Documents, document_name, Standing, standing_in, standings, last_standing}
use Rattle.schema_definitions.specs.Lookup.{Target}
use Rattle.schema_definitions.specs.AllKeys.{paths_in, places_in, places_of}
use Rattle.schema_definitions.specs.Plain.{deepest}
use Rattle.document_laws.proofs.Lists.{joined, of_last}
use Rattle.document_laws.specs.TargetLaws.{Lies}
use Rattle.document_laws.proofs.Listed.{in_map, in_flat_map}
use Rattle.document_laws.proofs.Inside.{Inside, path_itself}
use Rattle.document_laws.proofs.TargetPlaces.{PlaceInside, places_inside}

-- a value at a path in one of the documents, by the name of it
pub record Origin (docs : Documents) (name : List ℕ) (path : List Part) (e : Data) : Type 0 where
  pub document : Document
  pub listed : In document docs
  pub named : document_name document ≡ name
  pub inside : Inside document.contents path e

pub record Stands (docs : Documents) (s : Standing) : Type 0 where
  pub origin : Origin docs s.document s.place.path s.place.contents

pub record Comes (docs : Documents) (t : Target) : Type 0 where
  pub origin : Origin docs t.document t.path t.contents

-- ---- standings

module _ (docs : Documents) where
  stand_in : (d : Document) → In d docs → (ps : List SchemaPlace) → AllByRecursion (PlaceInside d.contents) ps
      → AllByRecursion (Stands docs) (map (λ p. record { document = document_name d; place = p }) ps)
  stand_in d i [] h = tt
  stand_in d i (p ∷ ps) h = (record { origin = record { document = d; listed = i; named = refl; inside = h.0.is } }, stand_in d i ps h.1)

  each_stands : (meta : List ℕ → Option Dialect) (ds : List Document) → ((d : Document) → In d ds → In d docs)
      → AllByRecursion (Stands docs) (flat_map (standing_in meta) ds)
  each_stands meta [] f = tt
  each_stands meta (d ∷ ds) f =
      joined (Stands docs) (standing_in meta d) (flat_map (standing_in meta) ds)
      (stand_in d (f d first) (places meta d.uri d.default d.contents) (places_inside meta d.uri d.default d.contents))
      (each_stands meta ds (λ e i. f e (later i)))

  all_stand : (meta : List ℕ → Option Dialect) → AllByRecursion (Stands docs) (standings meta docs)
  unfolding standings
  all_stand meta = each_stands meta docs (λ d i. i)

  -- of documents, whatever counts
  pub last_stands : (test : Standing → Bool) (meta : List ℕ → Option Dialect) → IfSome (last_standing test meta docs) (Stands docs)
  last_stands test meta = of_last (Stands docs) test (standings meta docs) (all_stand meta)

-- ---- what comes of a document lies among their places

deep_document : (d : Document) (docs : Documents) → In d docs → depth d.contents ≤ deepest docs
deep_document d [] i = elim i [ ]
deep_document d (e ∷ docs) first = omega arith
deep_document d (e ∷ docs) (later i) = omega (arith, deep_document d docs i)

abbrev at_path : List ℕ → List Part → ListedPlace
at_path name path = record { document = name; path = path }

place_listed : (docs : Documents) (d : Document) (path : List Part) → In d docs → In path (paths_in [] d.contents)
    → In (at_path (document_name d) path) (places_of docs)
place_listed docs d path i h =
    let name = document_name d in
    in_flat_map places_in d docs (at_path name path) i (in_map (at_path name) path (paths_in [] d.contents) h)

pub comes_lies : (docs : Documents) (t : Target) → Comes docs t → Lies docs t
comes_lies docs t c =
    let o = c.origin in
    let at = place_listed docs o.document t.path o.listed (o.inside.listed t.path (path_itself t.path t.contents)) in
    let inside = o.inside.shallow in
    let document = deep_document o.document docs o.listed in
    record {
      place = subst (λ (name : List ℕ). In (at_path name t.path) (places_of docs)) o.named at;
      shallow = omega (arith, inside, document);
    }
