-- The list of a document's schema places has the places below each of them.
use Rattle.std.proofs.Common.{◌≡◌, ◌<◌, ◌++◌, ℕ, zero, suc, List, [], ◌∷◌, Bool, true, false, if◌then◌else◌, inl, inr, Option, sym, subst, arith}
use Rattle.std.specs.List.{flat_map, AllByRecursion}
use Rattle.std.specs.Prelude.{is_some}
use Rattle.serde_json.specs.Data.{Data, depth}
use Rattle.schema_meaning.specs.Members.{In, first}
use Rattle.schema_definitions.specs.Words.{levels}
use Rattle.schema_definitions.specs.Places.{Dialect, SchemaPlace, by_schema, schema_in_force, root_place, children_in, children, places}
use Rattle.document_laws.proofs.Lists.{joined}
use Rattle.document_laws.proofs.Listed.{in_first, in_second, in_either, in_flat_map, of_in, each_in}
use Rattle.document_laws.proofs.Depths.{Shallow, children_shallow, placed_contents}

-- a place is among some
abbrev pub IsAmong : List SchemaPlace → SchemaPlace → Type 0
IsAmong ps p = In p ps

wider : (ps qs rs : List SchemaPlace) → AllByRecursion (IsAmong qs) rs → AllByRecursion (IsAmong (ps ++ qs)) rs
wider ps qs [] h = tt
wider ps qs (r ∷ rs) h = (in_second r ps qs h.0, wider ps qs rs h.1)

-- none is less deep than nothing
no_deeper : (ps qs : List SchemaPlace) → AllByRecursion (Shallow 0) ps → AllByRecursion (IsAmong qs) ps
no_deeper [] qs h = tt
no_deeper (p ∷ ps) qs h = (let shallow : depth p.contents < 0 = h.0.is in absurd (omega (arith, shallow)))

module _ (meta : List ℕ → Option Dialect) where
  shallow_below : (n : ℕ) (ps : List SchemaPlace) → AllByRecursion (Shallow (suc n)) ps → AllByRecursion (Shallow n) (flat_map (children meta) ps)
  shallow_below n [] s = tt
  shallow_below n (p ∷ ps) s = joined (Shallow n) (children meta p) (flat_map (children meta) ps) (children_shallow meta n p s.0) (shallow_below n ps s.1)

  next_level : (n : ℕ) (ps : List SchemaPlace) (p : SchemaPlace) → AllByRecursion (Shallow (suc n)) ps → In p ps
      → AllByRecursion (IsAmong (levels (children meta) n (flat_map (children meta) ps))) (children meta p)
  next_level zero ps p s i = no_deeper (children meta p) [] (children_shallow meta 0 p (of_in (Shallow 1) p ps s i))
  next_level (suc n) ps p s i =
      let next = flat_map (children meta) ps in
      each_in (IsAmong (levels (children meta) (suc n) next)) (children meta p)
      (λ q j. in_first q next (levels (children meta) n (flat_map (children meta) next)) (in_flat_map (children meta) p ps q i j))

  closed_levels : (n : ℕ) (ps : List SchemaPlace) (p : SchemaPlace) → AllByRecursion (Shallow n) ps → In p (levels (children meta) n ps)
      → AllByRecursion (IsAmong (levels (children meta) n ps)) (children meta p)
  closed_levels zero ps p s i = elim i [ ]
  closed_levels (suc n) ps p s i =
      let rest = levels (children meta) n (flat_map (children meta) ps) in
      wider ps rest (children meta p)
      (elim (in_either p ps rest i) [
        | inl j ↦ next_level n ps p s j
        | inr j ↦ closed_levels n (flat_map (children meta) ps) p (shallow_below n ps s) j
      ])

  module _ (uri : List ℕ) (default : Dialect) (d : Data) where
    root_shallow : Shallow (suc (depth d)) (root_place meta uri default d)
    root_shallow =
        let root = root_place meta uri default d in
        let same : root.contents ≡ d = placed_contents uri default [] d (by_schema meta default (schema_in_force default.siblings true d)) in
        record { is = subst (λ c. depth c < suc (depth d)) (sym same) (omega arith) }

    pub root_among : In (root_place meta uri default d) (places meta uri default d)
    unfolding places
    root_among = first

    children_among : (p : SchemaPlace) → In p (places meta uri default d) → AllByRecursion (IsAmong (places meta uri default d)) (children meta p)
    unfolding places
    children_among p i = closed_levels (suc (depth d)) (root_place meta uri default d ∷ []) p (root_shallow, tt) i

    -- of a place that awaits nothing
    pub places_closed : (p : SchemaPlace) → In p (places meta uri default d) → is_some p.awaits ≡ false
        → AllByRecursion (IsAmong (places meta uri default d)) (children_in meta p p.contents)
    places_closed p i goes = subst (λ (b : Bool). AllByRecursion (IsAmong (places meta uri default d)) (if b then [] else children_in meta p p.contents)) goes (children_among p i)
