-- Where more is told of meta-schemas, each schema place that is settled stays; so what is borne once under more is borne once
-- under less.
use Rattle.std.proofs.Common.{◌≡◌, ◌∙◌, ◌&&◌, ℕ, suc, List, [], ◌∷◌, ◌++◌, inl, inr, not, Bool, true, false, if◌then◌else◌, bytes_eq, Option, Some, None, is_some, refl, sym, ap, subst, zero, option_map}
use Rattle.std.specs.List.{flat_map}
use Rattle.serde_json.specs.Data.{Data, null, boolean, number, string, array, object, Items, no_items, item, Members, no_members, member}
use Rattle.json_values.specs.Parts.{Part, name, index}
use Rattle.schema_drafts.specs.Drafts.{draft_named}
use Rattle.schema_drafts.specs.Subschemas.{Holds, nothing, one, several, one_or_several, by_name, held_by}
use Rattle.schema_drafts.specs.declared.draft.Draft.{Draft}
use Rattle.schema_meaning.specs.Members.{In, first, later}
use Rattle.schema_definitions.specs.Words.{has_text}
use Rattle.schema_definitions.specs.Identifiers.{is_hidden, anchors}
use Rattle.schema_definitions.specs.Places.{Dialect, SchemaPlace, Named, settled, awaited, meta_schema_uri, by_meta_schema, by_draft, by_schema, schema_in_force, placed, entered, root_place, is_schema, if_schema, each_item, each_member, in_list, in_map, held, children_of, children_in, children, places}
use Rattle.schema_definitions.specs.Bearers.{Document, Documents, document_name, Standing, standing_in, standings, bears, bears_anchor, last_standing, dialect_by, dialects, meta, bearer}
use Rattle.schema_definitions.specs.DocumentCauses.{told_anew, place_causes, document_causes}
use Rattle.document_laws.proofs.Listed.{in_first, in_second, in_either, in_map as in_mapping}
use Rattle.document_laws.proofs.Levels.{root_among}
use Rattle.document_laws.proofs.Told.{first_empty, meta_is_fixed}
use Rattle.moved_documents.specs.Premises.{BornOnce}
use Rattle.moved_documents.proofs.Placed.{closed, each_place}
use Rattle.moved_documents.proofs.Standings.{standing, in_mapped, found_last, one_passes}

-- what the one tells, the other does
abbrev pub TellsMore : (List ℕ → Option Dialect) → (List ℕ → Option Dialect) → Type 0
TellsMore told after = (uri : List ℕ) (x : Dialect) → told uri ≡ Some x → after uri ≡ Some x

-- ---- lists of which the second has what is settled in the first

abbrev Kept : List SchemaPlace → List SchemaPlace → Type 0
Kept ps qs = (c : SchemaPlace) → In c ps → c.awaits ≡ None → In c qs

none_kept : (qs : List SchemaPlace) → Kept [] qs
none_kept qs c i e = elim i [ ]

one_kept : (p q : SchemaPlace) → (p.awaits ≡ None → q ≡ p) → Kept (p ∷ []) (q ∷ [])
one_kept p q same _ first e = subst (λ (x : SchemaPlace). In p (x ∷ [])) (sym (same e)) first
one_kept p q same c (later i) e = elim i [ ]

both_kept : (ps qs ps' qs' : List SchemaPlace) → Kept ps qs → Kept ps' qs' → Kept (ps ++ ps') (qs ++ qs')
both_kept ps qs ps' qs' h g c i e =
    elim (in_either c ps ps' i) [ inl j ↦ in_first c qs qs' (h c j e) | inr j ↦ in_second c qs qs' (g c j e) ]

module _ (told after : List ℕ → Option Dialect) (more : TellsMore told after) where
  -- ---- one place

  settled_by_uri : (around : Dialect) (o : Option (List ℕ)) (x : Dialect) → by_meta_schema told around o ≡ settled x
      → by_meta_schema after around o ≡ settled x
  settled_by_uri around None x e = e
  settled_by_uri around (Some uri) x e = by (told uri) refl e
    where
      by : (o : Option Dialect) → told uri ≡ o → elim o [ None ↦ awaited uri | Some dialect ↦ settled dialect ] ≡ settled x
          → by_meta_schema after around (Some uri) ≡ settled x
      by None is h = (let no : awaited uri ≡ settled x = h in absurd (cc))
      by (Some y) is h = ap (λ o. elim o [ None ↦ awaited uri | Some dialect ↦ settled dialect ]) (more uri y is) ∙ h

  settled_by_draft : (around : Dialect) (t : List ℕ) (draft : Option Draft) (x : Dialect) → by_draft told around t draft ≡ settled x
      → by_draft after around t draft ≡ settled x
  settled_by_draft around t None x e = settled_by_uri around (meta_schema_uri t) x e
  settled_by_draft around t (Some draft) x e = e

  settled_still : (around : Dialect) (o : Option (List ℕ)) (x : Dialect) → by_schema told around o ≡ settled x
      → by_schema after around o ≡ settled x
  settled_still around None x e = e
  settled_still around (Some t) x e = settled_by_draft around t (draft_named t) x e

  placed_still : (outer : List ℕ) (around : Dialect) (path : List Part) (d : Data) (n m : Named)
      → ((x : Dialect) → n ≡ settled x → m ≡ settled x)
      → (placed outer around path d n).awaits ≡ None → placed outer around path d m ≡ placed outer around path d n
  placed_still outer around path d (settled x) m h e = ap (placed outer around path d) (h x refl)
  placed_still outer around path d (awaited uri) m h e = (let no : Some uri ≡ None = e in absurd (cc))

  entered_still : (outer : List ℕ) (around : Dialect) (path : List Part) (d : Data) → (entered told outer around path d).awaits ≡ None
      → entered after outer around path d ≡ entered told outer around path d
  entered_still outer around path d =
      let t = schema_in_force around.siblings false d in
      placed_still outer around path d (by_schema told around t) (by_schema after around t) (settled_still around t)

  root_still : (uri : List ℕ) (default : Dialect) (d : Data) → (root_place told uri default d).awaits ≡ None
      → root_place after uri default d ≡ root_place told uri default d
  root_still uri default d =
      let t = schema_in_force default.siblings true d in
      placed_still uri default [] d (by_schema told default t) (by_schema after default t) (settled_still default t)

  -- ---- the places below a place

  module _ (p : SchemaPlace) where
    kept_if : (b : Bool) (path : List Part) (d : Data)
        → Kept (if b then entered told p.base p.dialect path d ∷ [] else []) (if b then entered after p.base p.dialect path d ∷ [] else [])
    kept_if true path d =
        one_kept (entered told p.base p.dialect path d) (entered after p.base p.dialect path d) (entered_still p.base p.dialect path d)
    kept_if false path d = none_kept []

    kept_schema : (path : List Part) (d : Data) → Kept (if_schema told p path d) (if_schema after p path d)
    kept_schema path d = kept_if (is_schema d) path d

    kept_items : (path : List Part) (i : ℕ) (ds : Items) → Kept (each_item told p path i ds) (each_item after p path i ds)
    kept_items path i no_items = none_kept []
    kept_items path i (item d ds) =
        both_kept (if_schema told p (index i ∷ path) d) (if_schema after p (index i ∷ path) d) (each_item told p path (suc i) ds)
        (each_item after p path (suc i) ds)
        (kept_schema (index i ∷ path) d) (kept_items path (suc i) ds)

    kept_members : (path : List Part) (ms : Members) → Kept (each_member told p path ms) (each_member after p path ms)
    kept_members path no_members = none_kept []
    kept_members path (member n d ms) =
        both_kept (if_schema told p (name n ∷ path) d) (if_schema after p (name n ∷ path) d) (each_member told p path ms)
        (each_member after p path ms)
        (kept_schema (name n ∷ path) d) (kept_members path ms)

    kept_list : (path : List Part) (d : Data) → Kept (in_list told p path d) (in_list after p path d)
    kept_list path (array ds) = kept_items path 0 ds
    kept_list path null = none_kept []
    kept_list path (boolean b) = none_kept []
    kept_list path (number n) = none_kept []
    kept_list path (string s) = none_kept []
    kept_list path (object ms) = none_kept []

    kept_map : (path : List Part) (d : Data) → Kept (in_map told p path d) (in_map after p path d)
    kept_map path (object ms) = kept_members path ms
    kept_map path null = none_kept []
    kept_map path (boolean b) = none_kept []
    kept_map path (number n) = none_kept []
    kept_map path (string s) = none_kept []
    kept_map path (array ds) = none_kept []

    kept_held : (path : List Part) (h : Holds) (d : Data) → Kept (held told p path h d) (held after p path h d)
    kept_held path nothing d = none_kept []
    kept_held path one d = kept_schema path d
    kept_held path several d = kept_list path d
    kept_held path one_or_several d =
        both_kept (if_schema told p path d) (if_schema after p path d) (in_list told p path d) (in_list after p path d)
        (kept_schema path d) (kept_list path d)
    kept_held path by_name d = kept_map path d

    kept_each : (hidden : Bool) (ms : Members) → Kept (children_of told p hidden ms) (children_of after p hidden ms)
    kept_each hidden no_members = none_kept []
    kept_each hidden (member n d ms) =
        let h = held_by p.dialect.draft hidden n in
        both_kept (held told p (name n ∷ p.path) h d) (held after p (name n ∷ p.path) h d) (children_of told p hidden ms)
        (children_of after p hidden ms) (kept_held (name n ∷ p.path) h d) (kept_each hidden ms)

    kept_inside : (d : Data) → Kept (children_in told p d) (children_in after p d)
    kept_inside (object ms) = kept_each (is_hidden p.dialect (object ms)) ms
    kept_inside null = none_kept []
    kept_inside (boolean b) = none_kept []
    kept_inside (number n) = none_kept []
    kept_inside (string s) = none_kept []
    kept_inside (array ds) = none_kept []

    kept_unless : (b : Bool) → Kept (if b then [] else children_in told p p.contents) (if b then [] else children_in after p p.contents)
    kept_unless true = none_kept []
    kept_unless false = kept_inside p.contents

    kept_children : Kept (children told p) (children after p)
    kept_children = kept_unless (is_some p.awaits)

    -- a place that awaits has none below it
    goes : (c : SchemaPlace) → In c (children told p) → p.awaits ≡ None
    goes c i = by p.awaits refl i
      where
        by : (o : Option (List ℕ)) → p.awaits ≡ o → In c (if is_some o then [] else children_in told p p.contents) → p.awaits ≡ None
        by None is j = is
        by (Some uri) is j = elim j [ ]

  -- ---- all places

  abbrev Stays : List ℕ → Dialect → Data → SchemaPlace → Type 0
  Stays uri default d c = c.awaits ≡ None → In c (places after uri default d)

  place_stays : (uri : List ℕ) (default : Dialect) (d : Data) (c : SchemaPlace) → In c (places told uri default d)
      → Stays uri default d c
  place_stays uri default d =
      each_place told uri default d (Stays uri default d)
      (λ e. subst (λ (q : SchemaPlace). In q (places after uri default d)) (root_still uri default d e) (root_among after uri default d))
      (λ p s c i e. closed after uri default d p (s (goes p c i)) c (kept_children p c i e))

  document_stays : (d : Document) (s : Standing) → In s (standing_in told d) → s.place.awaits ≡ None
      → In s (standing_in after d)
  document_stays d s i e =
      let h = in_mapped (standing (document_name d)) s (places told d.uri d.default d.contents) i in
      let settled_there : h.0.awaits ≡ None = sym (ap (λ (x : Standing). x.place.awaits) h.2) ∙ e in
      subst (λ (x : Standing). In x (standing_in after d)) (sym h.2)
      (in_mapping (standing (document_name d)) h.0 (places after d.uri d.default d.contents)
      (place_stays d.uri d.default d.contents h.0 h.1 settled_there))

  documents_stay : (docs : Documents) (s : Standing) → In s (flat_map (standing_in told) docs) → s.place.awaits ≡ None
      → In s (flat_map (standing_in after) docs)
  documents_stay [] s i e = elim i [ ]
  documents_stay (d ∷ docs) s i e =
      elim (in_either s (standing_in told d) (flat_map (standing_in told) docs) i) [
        | inl j ↦ in_first s (standing_in after d) (flat_map (standing_in after) docs) (document_stays d s j e)
        | inr j ↦ in_second s (standing_in after d) (flat_map (standing_in after) docs) (documents_stay docs s j e)
      ]

  pub standing_stays : (docs : Documents) (s : Standing) → In s (standings told docs) → s.place.awaits ≡ None → In s (standings after docs)
  unfolding standings
  standing_stays docs s i e = documents_stay docs s i e

-- ---- what bears a URI or an anchor is settled

unawaited : (o : Option (List ℕ)) (b : Bool) → (not (is_some o) && b) ≡ true → o ≡ None
unawaited None b e = refl
unawaited (Some uri) b e = (let no : false ≡ true = e in absurd (cc))

pub bears_settled : (uri : List ℕ) (s : Standing) → bears uri s ≡ true → s.place.awaits ≡ None
bears_settled uri s e = unawaited s.place.awaits _ e

unawaited_name : (o : Option (List ℕ)) (b c : Bool) → (not (is_some o) && b && c) ≡ true → o ≡ None
unawaited_name None b c e = refl
unawaited_name (Some uri) b c e = (let no : false ≡ true = e in absurd (cc))

names_settled : (base k : List ℕ) (s : Standing) → bears_anchor anchors base k s ≡ true → s.place.awaits ≡ None
names_settled base k s e =
    unawaited_name s.place.awaits (bytes_eq s.place.base base) (has_text k (anchors s.place.dialect s.place.contents)) e

-- so what is borne once under more is borne once under less
pub once_under_less : (told after : List ℕ → Option Dialect) → TellsMore told after → (docs : Documents) → BornOnce after docs
    → BornOnce told docs
once_under_less told after more docs once =
    let stays = standing_stays told after more docs in
    record {
      uris = λ uri s t i j e f. once.uris uri s t (stays s i (bears_settled uri s e)) (stays t j (bears_settled uri t f)) e f;
      names = λ base k s t i j e f.
          once.names base k s t (stays s i (names_settled base k s e)) (stays t j (names_settled base k t f)) e f;
    }

-- ---- so it is at each stage, where nothing is wrong with the documents: no stage tells more than the last

module _ (docs : Documents) (accepted : document_causes docs ≡ []) (once : BornOnce (meta docs) docs) where
  none_anew : told_anew docs ≡ []
  none_anew = first_empty (told_anew docs) (flat_map (place_causes docs) (standings (meta docs) docs)) accepted

  -- what bears a URI at last is its bearer
  bearer_is : (uri : List ℕ) (s : Standing) → In s (standings (meta docs) docs) → bears uri s ≡ true → bearer docs uri ≡ Some s
  bearer_is uri s i e = by (bearer docs uri) refl (one_passes (bears uri) (standings (meta docs) docs) s i e)
    where
      by : (o : Option Standing) → bearer docs uri ≡ o → is_some o ≡ true → bearer docs uri ≡ Some s
      by None is some = (let no : false ≡ true = some in absurd (cc))
      by (Some t) is some =
          let last = found_last (bears uri) (standings (meta docs) docs) t is in
          is ∙ ap Some (once.uris uri t s last.among i last.passes e)

  next_tells : (told : List ℕ → Option Dialect) → TellsMore told (meta docs) → (uri : List ℕ) (x : Dialect)
      → option_map dialect_by (last_standing (bears uri) told docs) ≡ Some x → meta docs uri ≡ Some x
  next_tells told more uri x e = by (last_standing (bears uri) told docs) refl e
    where
      by : (o : Option Standing) → last_standing (bears uri) told docs ≡ o → option_map dialect_by o ≡ Some x → meta docs uri ≡ Some x
      by None is h = (let no : None ≡ Some x = h in absurd (cc))
      by (Some s) is h =
          let last = found_last (bears uri) (standings told docs) s is in
          let there = standing_stays told (meta docs) more docs s last.among (bears_settled uri s last.passes) in
          meta_is_fixed docs none_anew uri ∙ ap (option_map dialect_by) (bearer_is uri s there last.passes) ∙ h

  last_tells : (n : ℕ) → TellsMore (dialects docs n) (meta docs)
  unfolding dialects
  last_tells zero uri x e = (let no : None ≡ Some x = e in absurd (cc))
  last_tells (suc n) uri x e = next_tells (dialects docs n) (last_tells n) uri x e

  pub once_at_each : (n : ℕ) → BornOnce (dialects docs n) docs
  once_at_each n = once_under_less (dialects docs n) (meta docs) (last_tells n) docs once
