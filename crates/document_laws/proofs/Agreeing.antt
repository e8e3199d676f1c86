-- Schema places under two that tell the same of all meta-schemas that are named at places.
use Rattle.std.proofs.Common.{◌≡◌, ◌∙◌, ℕ, zero, suc, List, [], ◌∷◌, ◌++◌, Bool, true, false, if◌then◌else◌, Option, Some, None, option_and_then, is_some, map, codes, ◌||◌, refl, sym, ap, ap₂}
use Rattle.std.specs.List.{flat_map, AllByRecursion}
use Rattle.serde_json.specs.Data.{Data, null, boolean, number, string, array, object, Items, no_items, item, Members, no_members, member, depth}
use Rattle.json_values.specs.Parts.{Part, name, index}
use Rattle.schema_drafts.specs.Drafts.{draft_named}
use Rattle.schema_drafts.specs.Subschemas.{Holds, nothing, one, several, one_or_several, by_name, held_by}
use Rattle.schema_drafts.specs.declared.draft.Draft.{Draft}
use Rattle.schema_drafts.specs.declared.draft.Draft.TheVariants.{Unknown}
use Rattle.schema_definitions.specs.Words.{or, levels, text_at}
use Rattle.schema_definitions.specs.Identifiers.{is_hidden, identifier}
use Rattle.schema_definitions.specs.Places.{Dialect, SchemaPlace, standard, Named, settled, awaited, meta_schema_uri, uri_named, named_meta_schema, by_meta_schema, by_draft, by_schema, schema_in_force, placed, entered, root_place, if_schema, each_item, each_member, in_list, in_map, held, children_of, children_in, children, places}
use Rattle.schema_definitions.specs.Bearers.{Documents, document_name, standing_in, standings, is_root}
use Rattle.document_laws.proofs.Lists.{first_part, second_part}
use Rattle.document_laws.specs.Agreeing.{Agrees, AgreeingTellPlaces}

-- ---- what a schema names is the same whether siblings are read: they bear on drafts alone, and these name no meta-schema of one's own

abbrev named_by : Option (List ℕ) → Option (List ℕ)
named_by o = option_and_then (λ t. uri_named t (draft_named t)) o

-- a `$schema` where it counts, by the draft that it names
abbrev counted : (siblings at_root : Bool) (d : Data) (t : List ℕ) → Option Draft → Option (List ℕ)
counted siblings at_root d t draft = if at_root || is_some (identifier (standard siblings (or Unknown draft)) d) then Some t else None

none_named : (t : List ℕ) (draft : Draft) → draft_named t ≡ Some draft → (b : Bool) → named_by (if b then Some t else None) ≡ None
none_named t draft e true = ap (uri_named t) e
none_named t draft e false = refl

named_alike : (a b at_root : Bool) (d : Data) (t : List ℕ) (draft : Option Draft) → draft_named t ≡ draft
    → named_by (counted a at_root d t draft) ≡ named_by (counted b at_root d t draft)
named_alike a b at_root d t None e = refl
named_alike a b at_root d t (Some draft) e =
    none_named t draft e (at_root || is_some (identifier (standard a draft) d))
    ∙ sym (none_named t draft e (at_root || is_some (identifier (standard b draft) d)))

text_alike : (a b at_root : Bool) (d : Data) (o : Option (List ℕ))
    → named_by (option_and_then (λ t. counted a at_root d t (draft_named t)) o) ≡ named_by (option_and_then (λ t. counted b at_root d t (draft_named t)) o)
text_alike a b at_root d None = refl
text_alike a b at_root d (Some t) = named_alike a b at_root d t (draft_named t) refl

pub same_named : (a b at_root : Bool) (d : Data) → named_meta_schema a at_root d ≡ named_meta_schema b at_root d
same_named a b at_root d = text_alike a b at_root d (text_at (codes "$schema") d)

module _ (told after : List ℕ → Option Dialect) where
  -- of what a place names
  pub record AgreesAt (p : SchemaPlace) : Type 0 where
    pub same : (uri : List ℕ) → named_meta_schema p.dialect.siblings (is_root p.path) p.contents ≡ Some uri → after uri ≡ told uri

  unfoldable pub AllAgree : List SchemaPlace → Type 0
  AllAgree ps = AllByRecursion AgreesAt ps

  -- ---- one place

  by_uri : (around : Dialect) (uri : Option (List ℕ)) → ((u : List ℕ) → uri ≡ Some u → after u ≡ told u) → by_meta_schema after around uri ≡ by_meta_schema told around uri
  by_uri around None h = refl
  by_uri around (Some uri) h = ap (λ o. elim o [ None ↦ awaited uri | Some dialect ↦ settled dialect ]) (h uri refl)

  by_named : (around : Dialect) (t : List ℕ) (draft : Option Draft) → ((u : List ℕ) → uri_named t draft ≡ Some u → after u ≡ told u)
      → by_draft after around t draft ≡ by_draft told around t draft
  by_named around t None h = by_uri around (meta_schema_uri t) h
  by_named around t (Some draft) h = refl

  pub by_text : (around : Dialect) (t : Option (List ℕ)) → ((u : List ℕ) → option_and_then (λ t. uri_named t (draft_named t)) t ≡ Some u → after u ≡ told u)
      → by_schema after around t ≡ by_schema told around t
  by_text around None h = refl
  by_text around (Some t) h = by_named around t (draft_named t) h

  names_there : (outer : List ℕ) (around : Dialect) (path : List Part) (d : Data) (n : Named) → AgreesAt (placed outer around path d n)
      → (u : List ℕ) → named_meta_schema around.siblings (is_root path) d ≡ Some u → after u ≡ told u
  names_there outer around path d (settled dialect) a u e = a.same u (same_named dialect.siblings around.siblings (is_root path) d ∙ e)
  names_there outer around path d (awaited uri) a u e = a.same u e

  same_entered : (outer : List ℕ) (around : Dialect) (part : Part) (path : List Part) (d : Data) → AgreesAt (entered told outer around (part ∷ path) d)
      → entered after outer around (part ∷ path) d ≡ entered told outer around (part ∷ path) d
  same_entered outer around part path d a =
      let t = schema_in_force around.siblings false d in
      ap (placed outer around (part ∷ path) d) (by_text around t (names_there outer around (part ∷ path) d (by_schema told around t) a))

  pub same_root : (uri : List ℕ) (default : Dialect) (d : Data) → AgreesAt (root_place told uri default d) → root_place after uri default d ≡ root_place told uri default d
  same_root uri default d a =
      let t = schema_in_force default.siblings true d in
      ap (placed uri default [] d) (by_text default t (names_there uri default [] d (by_schema told default t) a))

  -- ---- the places below a place

  module _ (p : SchemaPlace) where
    same_schema : (part : Part) (path : List Part) (d : Data) → AllAgree (if_schema told p (part ∷ path) d) → if_schema after p (part ∷ path) d ≡ if_schema told p (part ∷ path) d
    unfolding AllAgree
    same_schema part path null k = refl
    same_schema part path (boolean b) k = ap (λ q. q ∷ []) (same_entered p.base p.dialect part path (boolean b) k.0)
    same_schema part path (number n) k = refl
    same_schema part path (string s) k = refl
    same_schema part path (array ds) k = refl
    same_schema part path (object ms) k = ap (λ q. q ∷ []) (same_entered p.base p.dialect part path (object ms) k.0)

    same_items : (path : List Part) (i : ℕ) (ds : Items) → AllAgree (each_item told p path i ds) → each_item after p path i ds ≡ each_item told p path i ds
    unfolding AllAgree
    same_items path i no_items k = refl
    same_items path i (item d ds) k =
        ap₂ (λ ps qs. ps ++ qs)
        (same_schema (index i) path d (first_part AgreesAt (if_schema told p (index i ∷ path) d) (each_item told p path (suc i) ds) k))
        (same_items path (suc i) ds (second_part AgreesAt (if_schema told p (index i ∷ path) d) (each_item told p path (suc i) ds) k))

    same_members : (path : List Part) (ms : Members) → AllAgree (each_member told p path ms) → each_member after p path ms ≡ each_member told p path ms
    unfolding AllAgree
    same_members path no_members k = refl
    same_members path (member n d ms) k =
        ap₂ (λ ps qs. ps ++ qs)
        (same_schema (name n) path d (first_part AgreesAt (if_schema told p (name n ∷ path) d) (each_member told p path ms) k))
        (same_members path ms (second_part AgreesAt (if_schema told p (name n ∷ path) d) (each_member told p path ms) k))

    same_list : (path : List Part) (d : Data) → AllAgree (in_list told p path d) → in_list after p path d ≡ in_list told p path d
    same_list path null k = refl
    same_list path (boolean b) k = refl
    same_list path (number n) k = refl
    same_list path (string s) k = refl
    same_list path (array ds) k = same_items path 0 ds k
    same_list path (object ms) k = refl

    same_map : (path : List Part) (d : Data) → AllAgree (in_map told p path d) → in_map after p path d ≡ in_map told p path d
    same_map path null k = refl
    same_map path (boolean b) k = refl
    same_map path (number n) k = refl
    same_map path (string s) k = refl
    same_map path (array ds) k = refl
    same_map path (object ms) k = same_members path ms k

    same_held : (part : Part) (path : List Part) (h : Holds) (d : Data) → AllAgree (held told p (part ∷ path) h d) → held after p (part ∷ path) h d ≡ held told p (part ∷ path) h d
    unfolding AllAgree
    same_held part path nothing d k = refl
    same_held part path one d k = same_schema part path d k
    same_held part path several d k = same_list (part ∷ path) d k
    same_held part path one_or_several d k =
        ap₂ (λ ps qs. ps ++ qs)
        (same_schema part path d (first_part AgreesAt (if_schema told p (part ∷ path) d) (in_list told p (part ∷ path) d) k))
        (same_list (part ∷ path) d (second_part AgreesAt (if_schema told p (part ∷ path) d) (in_list told p (part ∷ path) d) k))
    same_held part path by_name d k = same_map (part ∷ path) d k

    same_each : (hidden : Bool) (ms : Members) → AllAgree (children_of told p hidden ms) → children_of after p hidden ms ≡ children_of told p hidden ms
    unfolding AllAgree
    same_each hidden no_members k = refl
    same_each hidden (member n d ms) k =
        let h = held_by p.dialect.draft hidden n in
        ap₂ (λ ps qs. ps ++ qs)
        (same_held (name n) p.path h d (first_part AgreesAt (held told p (name n ∷ p.path) h d) (children_of told p hidden ms) k))
        (same_each hidden ms (second_part AgreesAt (held told p (name n ∷ p.path) h d) (children_of told p hidden ms) k))

    same_inside : (d : Data) → AllAgree (children_in told p d) → children_in after p d ≡ children_in told p d
    same_inside null k = refl
    same_inside (boolean b) k = refl
    same_inside (number n) k = refl
    same_inside (string s) k = refl
    same_inside (array ds) k = refl
    same_inside (object ms) k = same_each (is_hidden p.dialect (object ms)) ms k

    same_unless : (b : Bool) (ps qs : List SchemaPlace) → (AllAgree ps → qs ≡ ps) → AllAgree (if b then [] else ps) → (if b then [] else qs) ≡ (if b then [] else ps)
    same_unless true ps qs f k = refl
    same_unless false ps qs f k = f k

    pub same_children : AllAgree (children told p) → children after p ≡ children told p
    same_children k = same_unless (is_some p.awaits) (children_in told p p.contents) (children_in after p p.contents) (same_inside p.contents) k

  -- ---- by levels

  same_below : (ps : List SchemaPlace) → AllAgree (flat_map (children told) ps) → flat_map (children after) ps ≡ flat_map (children told) ps
  unfolding AllAgree
  same_below [] k = refl
  same_below (p ∷ ps) k =
      ap₂ (λ qs rs. qs ++ rs)
      (same_children p (first_part AgreesAt (children told p) (flat_map (children told) ps) k))
      (same_below ps (second_part AgreesAt (children told p) (flat_map (children told) ps) k))

  same_levels : (n : ℕ) (ps : List SchemaPlace) → AllAgree (levels (children told) n ps) → levels (children after) n ps ≡ levels (children told) n ps
  unfolding AllAgree
  same_levels zero ps k = refl
  same_levels (suc zero) ps k = refl
  same_levels (suc (suc n)) ps k =
      let next = flat_map (children told) ps in
      let deeper = second_part AgreesAt ps (levels (children told) (suc n) next) k in
      ap (λ qs. ps ++ levels (children after) (suc n) qs) (same_below ps (first_part AgreesAt next (levels (children told) n (flat_map (children told) next)) deeper))
      ∙ ap (λ qs. ps ++ qs) (same_levels (suc n) next deeper)

  pub same_places : (uri : List ℕ) (default : Dialect) (d : Data) → AllAgree (places told uri default d) → places after uri default d ≡ places told uri default d
  unfolding places AllAgree
  same_places uri default d k =
      ap (λ p. levels (children after) (suc (depth d)) (p ∷ [])) (same_root uri default d k.0)
      ∙ same_levels (suc (depth d)) (root_place told uri default d ∷ []) k

  -- ---- documents

  at_places : (uri : List ℕ) (ps : List SchemaPlace) → AllByRecursion (Agrees told after) (map (λ p. record { document = uri; place = p }) ps) → AllAgree ps
  unfolding AllAgree
  at_places uri [] k = tt
  at_places uri (p ∷ ps) k = (record { same = k.0.agrees }, at_places uri ps k.1)

  same_each_document : (docs : Documents) → AllByRecursion (Agrees told after) (flat_map (standing_in told) docs) → flat_map (standing_in after) docs ≡ flat_map (standing_in told) docs
  same_each_document [] k = refl
  same_each_document (d ∷ docs) k =
      let agree = at_places (document_name d) (places told d.uri d.default d.contents) (first_part (Agrees told after) (standing_in told d) (flat_map (standing_in told) docs) k) in
      ap₂ (λ ss ts. ss ++ ts)
      (ap (map (λ p. record { document = document_name d; place = p })) (same_places d.uri d.default d.contents agree))
      (same_each_document docs (second_part (Agrees told after) (standing_in told d) (flat_map (standing_in told) docs) k))

  pub same_standings : (docs : Documents) → AllByRecursion (Agrees told after) (standings told docs) → standings after docs ≡ standings told docs
  unfolding standings
  same_standings docs k = same_each_document docs k

pub agreeing_tell_places : AgreeingTellPlaces
agreeing_tell_places told after docs = same_standings told after docs
