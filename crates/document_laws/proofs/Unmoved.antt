-- Where no place awaits a meta-schema, the places are the same whatever is told of meta-schemas.
use Rattle.std.proofs.Common.{◌≡◌, ℕ, zero, suc, List, [], ◌∷◌, ◌++◌, Bool, true, false, Option, Some, None, map, refl, ap, ap₂, ◌∙◌}
use Rattle.std.specs.List.{flat_map, AllByRecursion}
use Rattle.std.specs.Prelude.{is_some, if◌then◌else◌}
use Rattle.serde_json.specs.Data.{Data, null, boolean, number, string, array, object, Items, no_items, item, Members, no_members, member, depth}
use Rattle.json_values.specs.Parts.{Part, name, index}
use Rattle.schema_drafts.specs.Drafts.{draft_named}
use Rattle.schema_drafts.specs.Subschemas.{Holds, nothing, one, several, one_or_several, by_name, held_by}
use Rattle.schema_drafts.specs.declared.draft.Draft.{Draft}
use Rattle.schema_definitions.specs.Words.{levels}
use Rattle.schema_definitions.specs.Identifiers.{is_hidden}
use Rattle.schema_definitions.specs.Places.{Dialect, SchemaPlace, meta_schema_uri, by_meta_schema, by_draft, by_schema, schema_in_force, placed, entered, root_place, if_schema, each_item, each_member, in_list, in_map, held, children_of, children_in, children, places}
use Rattle.schema_definitions.specs.Bearers.{Documents, document_name, Standing, standing_in, standings}
use Rattle.schema_dialects.specs.Unknown.{no_meta}
use Rattle.document_laws.proofs.Lists.{first_part, second_part}

-- a place that awaits no meta-schema
pub record Known (p : SchemaPlace) : Type 0 where
  pub nothing_awaited : p.awaits ≡ None

abbrev pub AllKnown : List SchemaPlace → Type 0
AllKnown ps = AllByRecursion Known ps

module _ (meta : List ℕ → Option Dialect) where
  -- ---- one place

  same_uri : (outer : List ℕ) (around : Dialect) (path : List Part) (d : Data) (uri : Option (List ℕ))
      → Known (placed outer around path d (by_meta_schema no_meta around uri)) → by_meta_schema meta around uri ≡ by_meta_schema no_meta around uri
  same_uri outer around path d None k = refl
  same_uri outer around path d (Some uri) k = (let no : Some uri ≡ None = k.nothing_awaited in cc)

  same_draft : (outer : List ℕ) (around : Dialect) (path : List Part) (d : Data) (t : List ℕ) (draft : Option Draft)
      → Known (placed outer around path d (by_draft no_meta around t draft)) → by_draft meta around t draft ≡ by_draft no_meta around t draft
  same_draft outer around path d t None k = same_uri outer around path d (meta_schema_uri t) k
  same_draft outer around path d t (Some draft) k = refl

  same_named : (outer : List ℕ) (around : Dialect) (path : List Part) (d : Data) (t : Option (List ℕ))
      → Known (placed outer around path d (by_schema no_meta around t)) → by_schema meta around t ≡ by_schema no_meta around t
  same_named outer around path d None k = refl
  same_named outer around path d (Some t) k = same_draft outer around path d t (draft_named t) k

  pub same_entered : (outer : List ℕ) (around : Dialect) (path : List Part) (d : Data) → Known (entered no_meta outer around path d)
      → entered meta outer around path d ≡ entered no_meta outer around path d
  same_entered outer around path d k = ap (placed outer around path d) (same_named outer around path d (schema_in_force around.siblings false d) k)

  same_root : (uri : List ℕ) (default : Dialect) (d : Data) → Known (root_place no_meta uri default d) → root_place meta uri default d ≡ root_place no_meta uri default d
  same_root uri default d k = ap (placed uri default [] d) (same_named uri default [] d (schema_in_force default.siblings true d) k)

  -- ---- the places below a place

  same_schema : (p : SchemaPlace) (path : List Part) (d : Data) → AllKnown (if_schema no_meta p path d) → if_schema meta p path d ≡ if_schema no_meta p path d
  same_schema p path null k = refl
  same_schema p path (boolean b) k = ap (λ q. q ∷ []) (same_entered p.base p.dialect path (boolean b) k.0)
  same_schema p path (number n) k = refl
  same_schema p path (string s) k = refl
  same_schema p path (array ds) k = refl
  same_schema p path (object ms) k = ap (λ q. q ∷ []) (same_entered p.base p.dialect path (object ms) k.0)

  same_items : (p : SchemaPlace) (path : List Part) (i : ℕ) (ds : Items) → AllKnown (each_item no_meta p path i ds) → each_item meta p path i ds ≡ each_item no_meta p path i ds
  same_items p path i no_items k = refl
  same_items p path i (item d ds) k =
      ap₂ (λ ps qs. ps ++ qs)
      (same_schema p (index i ∷ path) d (first_part Known (if_schema no_meta p (index i ∷ path) d) (each_item no_meta p path (suc i) ds) k))
      (same_items p path (suc i) ds (second_part Known (if_schema no_meta p (index i ∷ path) d) (each_item no_meta p path (suc i) ds) k))

  same_members : (p : SchemaPlace) (path : List Part) (ms : Members) → AllKnown (each_member no_meta p path ms) → each_member meta p path ms ≡ each_member no_meta p path ms
  same_members p path no_members k = refl
  same_members p path (member n d ms) k =
      ap₂ (λ ps qs. ps ++ qs)
      (same_schema p (name n ∷ path) d (first_part Known (if_schema no_meta p (name n ∷ path) d) (each_member no_meta p path ms) k))
      (same_members p path ms (second_part Known (if_schema no_meta p (name n ∷ path) d) (each_member no_meta p path ms) k))

  same_list : (p : SchemaPlace) (path : List Part) (d : Data) → AllKnown (in_list no_meta p path d) → in_list meta p path d ≡ in_list no_meta p path d
  same_list p path null k = refl
  same_list p path (boolean b) k = refl
  same_list p path (number n) k = refl
  same_list p path (string s) k = refl
  same_list p path (array ds) k = same_items p path 0 ds k
  same_list p path (object ms) k = refl

  same_map : (p : SchemaPlace) (path : List Part) (d : Data) → AllKnown (in_map no_meta p path d) → in_map meta p path d ≡ in_map no_meta p path d
  same_map p path null k = refl
  same_map p path (boolean b) k = refl
  same_map p path (number n) k = refl
  same_map p path (string s) k = refl
  same_map p path (array ds) k = refl
  same_map p path (object ms) k = same_members p path ms k

  same_held : (p : SchemaPlace) (path : List Part) (h : Holds) (d : Data) → AllKnown (held no_meta p path h d) → held meta p path h d ≡ held no_meta p path h d
  same_held p path nothing d k = refl
  same_held p path one d k = same_schema p path d k
  same_held p path several d k = same_list p path d k
  same_held p path one_or_several d k =
      ap₂ (λ ps qs. ps ++ qs)
      (same_schema p path d (first_part Known (if_schema no_meta p path d) (in_list no_meta p path d) k))
      (same_list p path d (second_part Known (if_schema no_meta p path d) (in_list no_meta p path d) k))
  same_held p path by_name d k = same_map p path d k

  same_each : (p : SchemaPlace) (hidden : Bool) (ms : Members) → AllKnown (children_of no_meta p hidden ms) → children_of meta p hidden ms ≡ children_of no_meta p hidden ms
  same_each p hidden no_members k = refl
  same_each p hidden (member n d ms) k =
      let h = held_by p.dialect.draft hidden n in
      ap₂ (λ ps qs. ps ++ qs)
      (same_held p (name n ∷ p.path) h d (first_part Known (held no_meta p (name n ∷ p.path) h d) (children_of no_meta p hidden ms) k))
      (same_each p hidden ms (second_part Known (held no_meta p (name n ∷ p.path) h d) (children_of no_meta p hidden ms) k))

  same_inside : (p : SchemaPlace) (d : Data) → AllKnown (children_in no_meta p d) → children_in meta p d ≡ children_in no_meta p d
  same_inside p null k = refl
  same_inside p (boolean b) k = refl
  same_inside p (number n) k = refl
  same_inside p (string s) k = refl
  same_inside p (array ds) k = refl
  same_inside p (object ms) k = same_each p (is_hidden p.dialect (object ms)) ms k

  same_unless : (b : Bool) (ps qs : List SchemaPlace) → (AllKnown ps → qs ≡ ps) → AllKnown (if b then [] else ps) → (if b then [] else qs) ≡ (if b then [] else ps)
  same_unless true ps qs f k = refl
  same_unless false ps qs f k = f k

  same_children : (p : SchemaPlace) → AllKnown (children no_meta p) → children meta p ≡ children no_meta p
  same_children p k =
      same_unless (is_some p.awaits) (children_in no_meta p p.contents) (children_in meta p p.contents) (same_inside p p.contents) k

  -- ---- by levels

  same_below : (ps : List SchemaPlace) → AllKnown (flat_map (children no_meta) ps) → flat_map (children meta) ps ≡ flat_map (children no_meta) ps
  same_below [] k = refl
  same_below (p ∷ ps) k =
      ap₂ (λ qs rs. qs ++ rs)
      (same_children p (first_part Known (children no_meta p) (flat_map (children no_meta) ps) k))
      (same_below ps (second_part Known (children no_meta p) (flat_map (children no_meta) ps) k))

  same_levels : (n : ℕ) (ps : List SchemaPlace) → AllKnown (levels (children no_meta) n ps) → levels (children meta) n ps ≡ levels (children no_meta) n ps
  same_levels zero ps k = refl
  same_levels (suc zero) ps k = refl
  same_levels (suc (suc n)) ps k =
      let next = flat_map (children no_meta) ps in
      let deeper = second_part Known ps (levels (children no_meta) (suc n) next) k in
      ap (λ qs. ps ++ levels (children meta) (suc n) qs) (same_below ps (first_part Known next (levels (children no_meta) n (flat_map (children no_meta) next)) deeper))
      ∙ ap (λ qs. ps ++ qs) (same_levels (suc n) next deeper)

  pub same_places : (uri : List ℕ) (default : Dialect) (d : Data) → AllKnown (places no_meta uri default d) → places meta uri default d ≡ places no_meta uri default d
  unfolding places
  same_places uri default d k =
      ap (λ p. levels (children meta) (suc (depth d)) (p ∷ [])) (same_root uri default d k.0)
      ∙ same_levels (suc (depth d)) (root_place no_meta uri default d ∷ []) k

-- ---- documents

pub record KnownStanding (s : Standing) : Type 0 where
  pub known : Known s.place

pub known_places : (uri : List ℕ) (ps : List SchemaPlace) → AllByRecursion KnownStanding (map (λ p. record { document = uri; place = p }) ps) → AllKnown ps
known_places uri [] k = tt
known_places uri (p ∷ ps) k = (k.0.known, known_places uri ps k.1)

same_each_document : (meta : List ℕ → Option Dialect) (docs : Documents) → AllByRecursion KnownStanding (flat_map (standing_in no_meta) docs)
    → flat_map (standing_in meta) docs ≡ flat_map (standing_in no_meta) docs
same_each_document meta [] k = refl
same_each_document meta (d ∷ docs) k =
    let known = known_places (document_name d) (places no_meta d.uri d.default d.contents) (first_part KnownStanding (standing_in no_meta d) (flat_map (standing_in no_meta) docs) k) in
    ap₂ (λ ss ts. ss ++ ts)
    (ap (map (λ p. record { document = document_name d; place = p })) (same_places meta d.uri d.default d.contents known))
    (same_each_document meta docs (second_part KnownStanding (standing_in no_meta d) (flat_map (standing_in no_meta) docs) k))

pub same_standings : (meta : List ℕ → Option Dialect) (docs : Documents) → AllByRecursion KnownStanding (standings no_meta docs) → standings meta docs ≡ standings no_meta docs
unfolding standings
same_standings meta docs k = same_each_document meta docs k
