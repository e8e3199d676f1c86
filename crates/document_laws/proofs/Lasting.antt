-- Where no place of a document awaits a meta-schema, none does at any depth below a place.
use Rattle.std.proofs.Common.{◌≡◌, ◌<◌, ℕ, zero, suc, List, [], ◌∷◌, true, map, sym, subst, arith}
use Rattle.std.specs.List.{flat_map, AllByRecursion}
use Rattle.std.specs.Prelude.{⊤}
use Rattle.serde_json.specs.Data.{Data, depth}
use Rattle.schema_definitions.specs.Words.{levels}
use Rattle.schema_definitions.specs.Places.{Dialect, SchemaPlace, by_schema, schema_in_force, root_place, children, places}
use Rattle.schema_definitions.specs.Bearers.{Documents, document_name, Standing, standing_in, standings}
use Rattle.schema_dialects.specs.Unknown.{no_meta}
use Rattle.document_laws.proofs.Lists.{joined, by_levels, first_part, second_part}
use Rattle.document_laws.proofs.Depths.{Shallow, children_shallow, placed_contents}
use Rattle.document_laws.proofs.Unmoved.{Known, AllKnown, KnownStanding, known_places}

-- nothing is awaited within n levels
abbrev pub KnownWithin : ℕ → SchemaPlace → Type 0
KnownWithin zero p = ⊤
KnownWithin (suc n) p = Known p × AllByRecursion (KnownWithin n) (children no_meta p)

-- nor at any level
pub record KnownBelow (p : SchemaPlace) : Type 0 where
  pub within : (n : ℕ) → KnownWithin n p

pub known_itself : (p : SchemaPlace) → KnownBelow p → Known p
known_itself p k = (k.within 1).0

gathered : (ps : List SchemaPlace) → ((n : ℕ) → AllByRecursion (KnownWithin n) ps) → AllByRecursion KnownBelow ps
gathered [] f = tt
gathered (p ∷ ps) f = (record { within = λ n. (f n).0 }, gathered ps (λ n. (f n).1))

pub known_children : (p : SchemaPlace) → KnownBelow p → AllByRecursion KnownBelow (children no_meta p)
known_children p k = gathered (children no_meta p) (λ n. (k.within (suc n)).1)

-- ---- from the list by levels

no_level : (ps : List SchemaPlace) → AllByRecursion (KnownWithin 0) ps
no_level [] = tt
no_level (p ∷ ps) = (tt, no_level ps)

level_more : (n : ℕ) (ps : List SchemaPlace) → AllKnown ps → AllByRecursion (KnownWithin n) (flat_map (children no_meta) ps) → AllByRecursion (KnownWithin (suc n)) ps
level_more n [] k h = tt
level_more n (p ∷ ps) k h = (
  (k.0, first_part (KnownWithin n) (children no_meta p) (flat_map (children no_meta) ps) h),
  level_more n ps k.1 (second_part (KnownWithin n) (children no_meta p) (flat_map (children no_meta) ps) h),
)

from_levels : (n : ℕ) (ps : List SchemaPlace) → AllKnown (levels (children no_meta) n ps) → AllByRecursion (KnownWithin n) ps
from_levels zero ps k = no_level ps
from_levels (suc n) ps k =
    let next = flat_map (children no_meta) ps in
    level_more n ps (first_part Known ps (levels (children no_meta) n next) k) (from_levels n next (second_part Known ps (levels (children no_meta) n next) k))

-- ---- as many levels as a tree is deep are all of them

one_deeper : (n m : ℕ) → ((qs : List SchemaPlace) → AllByRecursion (Shallow m) qs → AllByRecursion (KnownWithin m) qs → AllByRecursion (KnownWithin n) qs)
    → (ps : List SchemaPlace) → AllByRecursion (Shallow (suc m)) ps → AllByRecursion (KnownWithin (suc m)) ps → AllByRecursion (KnownWithin (suc n)) ps
one_deeper n m f [] s k = tt
one_deeper n m f (p ∷ ps) s k = ((k.0.0, f (children no_meta p) (children_shallow no_meta m p s.0) k.0.1), one_deeper n m f ps s.1 k.1)

all_levels : (n m : ℕ) (ps : List SchemaPlace) → AllByRecursion (Shallow m) ps → AllByRecursion (KnownWithin m) ps → AllByRecursion (KnownWithin n) ps
all_levels zero m ps s k = no_level ps
all_levels (suc n) zero [] s k = tt
all_levels (suc n) zero (p ∷ ps) s k = absurd (omega (arith, s.0.is))
all_levels (suc n) (suc m) ps s k = one_deeper n m (all_levels n m) ps s k

-- ---- documents

pub known_below_places : (uri : List ℕ) (default : Dialect) (d : Data) → AllKnown (places no_meta uri default d) → AllByRecursion KnownBelow (places no_meta uri default d)
unfolding places
known_below_places uri default d k =
    let root = root_place no_meta uri default d in
    let m : ℕ = suc (depth d) in
    let same : root.contents ≡ d = placed_contents uri default [] d (by_schema no_meta default (schema_in_force default.siblings true d)) in
    let shallow : Shallow m root = record { is = subst (λ c. depth c < m) (sym same) (omega arith) } in
    let within = from_levels m (root ∷ []) k in
    by_levels KnownBelow (children no_meta) known_children m (root ∷ []) (gathered (root ∷ []) (λ n. all_levels n m (root ∷ []) (shallow, tt) within))

pub record StandsKnown (s : Standing) : Type 0 where
  pub below : KnownBelow s.place

stand_known : (uri : List ℕ) (ps : List SchemaPlace) → AllByRecursion KnownBelow ps → AllByRecursion StandsKnown (map (λ p. record { document = uri; place = p }) ps)
stand_known uri [] k = tt
stand_known uri (p ∷ ps) k = (record { below = k.0 }, stand_known uri ps k.1)

each_stands_known : (docs : Documents) → AllByRecursion KnownStanding (flat_map (standing_in no_meta) docs) → AllByRecursion StandsKnown (flat_map (standing_in no_meta) docs)
each_stands_known [] k = tt
each_stands_known (d ∷ docs) k =
    let ps = places no_meta d.uri d.default d.contents in
    let known = known_places (document_name d) ps (first_part KnownStanding (standing_in no_meta d) (flat_map (standing_in no_meta) docs) k) in
    joined StandsKnown (standing_in no_meta d) (flat_map (standing_in no_meta) docs)
    (stand_known (document_name d) ps (known_below_places d.uri d.default d.contents known))
    (each_stands_known docs (second_part KnownStanding (standing_in no_meta d) (flat_map (standing_in no_meta) docs) k))

pub all_stand_known : (docs : Documents) → AllByRecursion KnownStanding (standings no_meta docs) → AllByRecursion StandsKnown (standings no_meta docs)
unfolding standings
all_stand_known docs k = each_stands_known docs k
