-- The places of a document lie where their paths say.
use Rattle.std.proofs.Common.{◌≡◌, ℕ, suc, ◌+◌, List, [], ◌∷◌, ◌++◌, Bool, true, false, Option, Some, None, option_and_then, refl, sym, ap, ◌∙◌, arith, reverse}
use Rattle.std.proofs.lemmas.Grind.{reverse_onto}
use Rattle.std.proofs.lemmas.List.Elements.{All-from_recursion}
use Rattle.std.specs.Cmp.{first_so, second_so}
use Rattle.std.specs.List.{AllByRecursion}
use Rattle.std.specs.Prelude.{is_some}
use Rattle.serde_json.specs.Data.{Data, null, boolean, number, string, array, object, Items, no_items, item, Members, no_members, member, depth}
use Rattle.serde_json.specs.Find.{get_member, get_item}
use Rattle.json_values.specs.Parts.{Part, name, index}
use Rattle.json_values.specs.Pointers.{value_in, value_at}
use Rattle.json_values.specs.Equality.{rises_from}
use Rattle.json_values.proofs.Names.{get_same, get_other}
use Rattle.json_values.proofs.Kept.{first_rise, behind_none}
use Rattle.schema_drafts.specs.Subschemas.{Holds, nothing, one, several, one_or_several, by_name, held_by}
use Rattle.schema_definitions.specs.Identifiers.{is_hidden}
use Rattle.schema_definitions.specs.Places.{Dialect, SchemaPlace, Named, settled, awaited, by_schema, schema_in_force, placed, entered, root_place, if_schema, each_item, each_member, in_list, in_map, held, children_of, children_in, children, places}
use Rattle.json_values.specs.Rising.{rises, are_rising, items_rise, members_rise}
use Rattle.document_laws.specs.PlaceLaws.{Leads, PlacesLead}
use Rattle.document_laws.proofs.Lists.{joined, unless, by_levels}

-- ---- values at paths

through : (ps qs : List Part) → ((e : Data) → value_at (ps ++ qs) e ≡ option_and_then (value_at qs) (value_at ps e)) → (o : Option Data)
    → option_and_then (value_at (ps ++ qs)) o ≡ option_and_then (value_at qs) (option_and_then (value_at ps) o)
through ps qs f None = refl
through ps qs f (Some e) = f e

pub at_behind : (ps qs : List Part) (d : Data) → value_at (ps ++ qs) d ≡ option_and_then (value_at qs) (value_at ps d)
at_behind [] qs d = refl
at_behind (p ∷ ps) qs d = through ps qs (at_behind ps qs) (value_in p d)

at_part : (part : Part) (d : Data) (o : Option Data) → value_in part d ≡ o → value_at (part ∷ []) d ≡ o
at_part part d None e = ap (option_and_then (value_at [])) e
at_part part d (Some x) e = ap (option_and_then (value_at [])) e

-- one part further
pub further : (whole d e : Data) (path : List Part) (part : Part) → value_at (reverse path) whole ≡ Some d → value_in part d ≡ Some e
    → value_at (reverse (part ∷ path)) whole ≡ Some e
further whole d e path part h g =
    ap (λ ps. value_at ps whole) (reverse_onto path part [])
    ∙ at_behind (reverse path) (part ∷ []) whole
    ∙ ap (option_and_then (value_at (part ∷ []))) h
    ∙ at_part part d (Some e) g

-- ---- members and items that stand in others

-- each member of the first is found in the second
pub record Among (ms all : Members) : Type 0 where
  pub found : (k : List ℕ) (e : Data) → get_member k ms ≡ Some e → get_member k all ≡ Some e

pub among_itself : (ms : Members) → Among ms ms
among_itself ms = record { found = λ k e h. h }

apart : (k l : List ℕ) (ms : Members) (e : Data) → rises_from l ms ≡ true → get_member k ms ≡ Some e → k ≡ l → ⊥
apart k l ms e r h same =
    let none : get_member k ms ≡ None = ap (λ (n : List ℕ). get_member n ms) same ∙ behind_none l ms r in
    let no : None ≡ Some e = sym none ∙ h in cc

pub among_rest : (k : List ℕ) (d : Data) (ms all : Members) → rises_from k ms ≡ true → Among (member k d ms) all → Among ms all
among_rest k d ms all r a = record { found = λ l e h. a.found l e (get_other l k d ms (apart l k ms e r h) ∙ h) }

pub rising_rest : (k : List ℕ) (ms : Members) → rises_from k ms ≡ true → are_rising ms ≡ true
rising_rest k no_members h = refl
rising_rest k (member l e ms) h = (first_rise k l e ms h).1

-- the items stand in the others from i on
pub record From (i : ℕ) (ds all : Items) : Type 0 where
  pub found : (n : ℕ) (e : Data) → get_item n ds ≡ Some e → get_item (n + i) all ≡ Some e

pub from_first : (ds : Items) → From 0 ds ds
from_first ds = record {
  found = λ n e h. (let same : n + 0 ≡ n = omega arith in ap (λ (k : ℕ). get_item k ds) same ∙ h);
}

pub from_rest : (i : ℕ) (d : Data) (ds all : Items) → From i (item d ds) all → From (suc i) ds all
from_rest i d ds all f = record {
  found = λ n e h. (let same : n + suc i ≡ suc n + i = omega arith in ap (λ (k : ℕ). get_item k all) same ∙ f.found (suc n) e h);
}

pub from_here : (i : ℕ) (d : Data) (ds all : Items) → From i (item d ds) all → get_item i all ≡ Some d
from_here i d ds all f = (let same : i ≡ 0 + i = omega arith in ap (λ (k : ℕ). get_item k all) same ∙ f.found 0 d refl)

-- ---- places

-- a place whose contents lie where its path says, with names that rise
pub record Sound (whole : Data) (p : SchemaPlace) : Type 0 where
  pub leads : Leads whole p
  pub rising : rises p.contents ≡ true

module _ (whole : Data) (meta : List ℕ → Option Dialect) where
  placed_sound : (outer : List ℕ) (around : Dialect) (path : List Part) (d : Data) (n : Named) → value_at (reverse path) whole ≡ Some d → rises d ≡ true
      → Sound whole (placed outer around path d n)
  placed_sound outer around path d (settled dialect) h r = record { leads = h; rising = r }
  placed_sound outer around path d (awaited uri) h r = record { leads = h; rising = r }

  entered_sound : (p : SchemaPlace) (path : List Part) (d : Data) → value_at (reverse path) whole ≡ Some d → rises d ≡ true
      → Sound whole (entered meta p.base p.dialect path d)
  entered_sound p path d h r = placed_sound p.base p.dialect path d (by_schema meta p.dialect (schema_in_force p.dialect.siblings false d)) h r

  schema_sound : (p : SchemaPlace) (path : List Part) (d : Data) → value_at (reverse path) whole ≡ Some d → rises d ≡ true
      → AllByRecursion (Sound whole) (if_schema meta p path d)
  schema_sound p path null h r = tt
  schema_sound p path (boolean b) h r = (entered_sound p path (boolean b) h r, tt)
  schema_sound p path (number n) h r = tt
  schema_sound p path (string s) h r = tt
  schema_sound p path (array ds) h r = tt
  schema_sound p path (object ms) h r = (entered_sound p path (object ms) h r, tt)

  items_sound : (p : SchemaPlace) (path : List Part) (all : Items) → value_at (reverse path) whole ≡ Some (array all) → (i : ℕ) (ds : Items) → From i ds all
      → items_rise ds ≡ true → AllByRecursion (Sound whole) (each_item meta p path i ds)
  items_sound p path all h i no_items f r = tt
  items_sound p path all h i (item d ds) f r =
      joined (Sound whole) (if_schema meta p (index i ∷ path) d) (each_item meta p path (suc i) ds)
      (schema_sound p (index i ∷ path) d (further whole (array all) d path (index i) h (from_here i d ds all f)) (first_so (rises d) (items_rise ds) r))
      (items_sound p path all h (suc i) ds (from_rest i d ds all f) (second_so (rises d) (items_rise ds) r))

  member_leads : (path : List Part) (all : Members) → value_at (reverse path) whole ≡ Some (object all) → (k : List ℕ) (d : Data) (ms : Members)
      → Among (member k d ms) all → value_at (reverse (name k ∷ path)) whole ≡ Some d
  member_leads path all h k d ms a = further whole (object all) d path (name k) h (a.found k d (get_same k k d ms refl))

  members_sound : (p : SchemaPlace) (path : List Part) (all : Members) → value_at (reverse path) whole ≡ Some (object all) → (ms : Members) → Among ms all
      → are_rising ms ≡ true → members_rise ms ≡ true → AllByRecursion (Sound whole) (each_member meta p path ms)
  members_sound p path all h no_members a g r = tt
  members_sound p path all h (member k d ms) a g r =
      joined (Sound whole) (if_schema meta p (name k ∷ path) d) (each_member meta p path ms)
      (schema_sound p (name k ∷ path) d (member_leads path all h k d ms a) (first_so (rises d) (members_rise ms) r))
      (members_sound p path all h ms (among_rest k d ms all g a) (rising_rest k ms g) (second_so (rises d) (members_rise ms) r))

  list_sound : (p : SchemaPlace) (path : List Part) (d : Data) → value_at (reverse path) whole ≡ Some d → rises d ≡ true
      → AllByRecursion (Sound whole) (in_list meta p path d)
  list_sound p path null h r = tt
  list_sound p path (boolean b) h r = tt
  list_sound p path (number n) h r = tt
  list_sound p path (string s) h r = tt
  list_sound p path (array ds) h r = items_sound p path ds h 0 ds (from_first ds) r
  list_sound p path (object ms) h r = tt

  map_sound : (p : SchemaPlace) (path : List Part) (d : Data) → value_at (reverse path) whole ≡ Some d → rises d ≡ true
      → AllByRecursion (Sound whole) (in_map meta p path d)
  map_sound p path null h r = tt
  map_sound p path (boolean b) h r = tt
  map_sound p path (number n) h r = tt
  map_sound p path (string s) h r = tt
  map_sound p path (array ds) h r = tt
  map_sound p path (object ms) h r =
      members_sound p path ms h ms (among_itself ms) (first_so (are_rising ms) (members_rise ms) r) (second_so (are_rising ms) (members_rise ms) r)

  held_sound : (p : SchemaPlace) (path : List Part) (h : Holds) (d : Data) → value_at (reverse path) whole ≡ Some d → rises d ≡ true
      → AllByRecursion (Sound whole) (held meta p path h d)
  held_sound p path nothing d h r = tt
  held_sound p path one d h r = schema_sound p path d h r
  held_sound p path several d h r = list_sound p path d h r
  held_sound p path one_or_several d h r = joined (Sound whole) (if_schema meta p path d) (in_list meta p path d) (schema_sound p path d h r) (list_sound p path d h r)
  held_sound p path by_name d h r = map_sound p path d h r

  each_sound : (p : SchemaPlace) (hidden : Bool) (all : Members) → value_at (reverse p.path) whole ≡ Some (object all) → (ms : Members) → Among ms all
      → are_rising ms ≡ true → members_rise ms ≡ true → AllByRecursion (Sound whole) (children_of meta p hidden ms)
  each_sound p hidden all h no_members a g r = tt
  each_sound p hidden all h (member k d ms) a g r =
      joined (Sound whole) (held meta p (name k ∷ p.path) (held_by p.dialect.draft hidden k) d) (children_of meta p hidden ms)
      (held_sound p (name k ∷ p.path) (held_by p.dialect.draft hidden k) d (member_leads p.path all h k d ms a) (first_so (rises d) (members_rise ms) r))
      (each_sound p hidden all h ms (among_rest k d ms all g a) (rising_rest k ms g) (second_so (rises d) (members_rise ms) r))

  inside_sound : (p : SchemaPlace) (d : Data) → value_at (reverse p.path) whole ≡ Some d → rises d ≡ true → AllByRecursion (Sound whole) (children_in meta p d)
  inside_sound p null h r = tt
  inside_sound p (boolean b) h r = tt
  inside_sound p (number n) h r = tt
  inside_sound p (string s) h r = tt
  inside_sound p (array ds) h r = tt
  inside_sound p (object ms) h r =
      each_sound p (is_hidden p.dialect (object ms)) ms h ms (among_itself ms)
      (first_so (are_rising ms) (members_rise ms) r) (second_so (are_rising ms) (members_rise ms) r)

  children_sound : (p : SchemaPlace) → Sound whole p → AllByRecursion (Sound whole) (children meta p)
  children_sound p s = unless (Sound whole) (is_some p.awaits) (children_in meta p p.contents) (inside_sound p p.contents s.leads s.rising)

led : (whole : Data) (ps : List SchemaPlace) → AllByRecursion (Sound whole) ps → AllByRecursion (Leads whole) ps
led whole [] h = tt
led whole (p ∷ ps) h = (h.0.leads, led whole ps h.1)

-- where the names rise, the places lie where their paths say
pub places_lead : (d : Data) → rises d ≡ true → PlacesLead d
unfolding places
places_lead d r meta uri default =
    let first = placed_sound d meta uri default [] d (by_schema meta default (schema_in_force default.siblings true d)) refl r in
    All-from_recursion (Leads d) (places meta uri default d)
    (led d (places meta uri default d) (by_levels (Sound d) (children meta) (children_sound d meta) (suc (depth d)) (root_place meta uri default d ∷ []) (first, tt)))
