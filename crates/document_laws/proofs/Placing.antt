-- The schema places of documents: each is one of a document's list, and is reached along its path.
use Rattle.std.proofs.Common.{◌≡◌, ◌∙◌, ℕ, List, [], ◌∷◌, true, Option, Some, None, map, refl, sym, ap, ap₂, subst}
use Rattle.std.specs.List.{flat_map, AllByRecursion, list_all}
use Rattle.std.specs.Prelude.{is_some}
use Rattle.schema_meaning.specs.Members.{In, first, later}
use Rattle.schema_definitions.specs.Places.{Dialect, SchemaPlace, root_place, places}
use Rattle.schema_definitions.specs.Bearers.{Document, Documents, document_name, Standing, standing_in, standings}
use Rattle.schema_definitions.specs.Lookup.{Walk}
use Rattle.document_laws.specs.TargetLaws.{are_apart, contents_rise}
use Rattle.document_laws.specs.ListedLaws.{StandsAbove, PlacesAreOne}
use Rattle.document_laws.proofs.Lists.{joined}
use Rattle.document_laws.proofs.Listed.{in_map, in_flat_map, of_in}
use Rattle.document_laws.proofs.One.{same_document, each_rises}
use Rattle.document_laws.proofs.Reaching.{start, reach, none_behind, stopped}
use Rattle.document_laws.proofs.Arriving.{Arrives, places_arrive}

abbrev pub places_in : (List ℕ → Option Dialect) → Document → List SchemaPlace
places_in told d = places told d.uri d.default d.contents

-- the walk at the root of a document
abbrev pub from_root : (List ℕ → Option Dialect) → Document → Walk
from_root told d = start (root_place told d.uri d.default d.contents)

abbrev pub standing : List ℕ → SchemaPlace → Standing
standing document p = record { document = document; place = p }

-- a place of one of the documents, which is reached along its path
pub record Placed (told : List ℕ → Option Dialect) (docs : Documents) (s : Standing) : Type 0 where
  pub document : Document
  pub among : In document docs
  pub named : document_name document ≡ s.document
  pub there : reach told (from_root told document) s.place.path ≡ Some (start s.place)

module _ (told : List ℕ → Option Dialect) (docs : Documents) where
  pub is_listed : (d : Document) (p : SchemaPlace) → In d docs → In p (places_in told d) → In (standing (document_name d) p) (standings told docs)
  unfolding standings
  is_listed d p i j = in_flat_map (standing_in told) d docs (standing (document_name d) p) i (in_map (standing (document_name d)) p (places_in told d) j)

  in_document : (d : Document) → In d docs → (ps : List SchemaPlace) → AllByRecursion (Arrives told (root_place told d.uri d.default d.contents)) ps
      → AllByRecursion (Placed told docs) (map (λ p. record { document = document_name d; place = p }) ps)
  in_document d i [] h = tt
  in_document d i (p ∷ ps) h = (record { document = d; among = i; named = refl; there = h.0.there }, in_document d i ps h.1)

  module _ (rise : list_all contents_rise docs ≡ true) where
    each_placed : (ds : List Document) → ((d : Document) → In d ds → In d docs) → AllByRecursion (Placed told docs) (flat_map (standing_in told) ds)
    each_placed [] f = tt
    each_placed (d ∷ ds) f =
        let i : In d docs = f d first in
        joined (Placed told docs) (standing_in told d) (flat_map (standing_in told) ds)
        (in_document d i (places_in told d) (places_arrive told d.uri d.default d.contents (each_rises docs rise d i)))
        (each_placed ds (λ e j. f e (later j)))

    all_placed : AllByRecursion (Placed told docs) (standings told docs)
    unfolding standings
    all_placed = each_placed docs (λ d i. i)

    pub is_placed : (s : Standing) → In s (standings told docs) → Placed told docs s
    is_placed s i = of_in (Placed told docs) s (standings told docs) all_placed i

    module _ (apart : are_apart docs ≡ true) where
      -- places of documents with one name are of one document
      pub placed_with : (d : Document) → In d docs → (s : Standing) → In s (standings told docs) → document_name d ≡ s.document
          → reach told (from_root told d) s.place.path ≡ Some (start s.place)
      placed_with d i s j same =
          let p = is_placed s j in
          let one : p.document ≡ d = same_document docs apart p.document d p.among i (p.named ∙ sym same) in
          subst (λ (e : Document). reach told (from_root told e) s.place.path ≡ Some (start s.place)) one p.there

      same_place : (p q : SchemaPlace) → Some (start p) ≡ Some (start q) → p ≡ q
      same_place p q e = (let same : start p ≡ start q = cc in ap (λ (w : Walk). w.last) same)

      pub same_standing : (r s : Standing) → In r (standings told docs) → In s (standings told docs) → r.document ≡ s.document → r.place.path ≡ s.place.path → r ≡ s
      same_standing r s i j document path =
          let p = is_placed s j in
          let there = placed_with p.document p.among r i (p.named ∙ sym document) in
          ap₂ standing document (same_place r.place s.place (sym there ∙ ap (reach told (from_root told p.document)) path ∙ p.there))

      none_below : (s r : Standing) → In s (standings told docs) → In r (standings told docs) → StandsAbove s.document s.place.path r → r.place.awaits ≡ None
      none_below s r i j above = by r.place.awaits refl
        where
          by : (o : Option (List ℕ)) → r.place.awaits ≡ o → r.place.awaits ≡ None
          by None e = e
          by (Some uri) e =
              let p = is_placed s i in
              let from = from_root told p.document in
              let there = placed_with p.document p.among r j (p.named ∙ sym above.document) in
              let none = none_behind told from above.parts (above.part ∷ r.place.path) (stopped told from (start r.place) r.place.path there (ap is_some e) above.part) in
              let no : Some (start s.place) ≡ None = sym p.there ∙ ap (reach told from) above.behind ∙ none in cc

pub places_are_one : PlacesAreOne
places_are_one docs apart rise told = record {
  once = same_standing told docs rise apart;
  none_below = λ s i r j above. none_below told docs rise apart s r i j above;
}
