-- The two documents, and the root with the moved one inside, are linked place by place: schema places, what lookups lead to, and what is read.
use Rattle.std.specs.Prelude.{ℕ, ◌≡◌, ◌⊎◌, List, [], ◌∷◌, ◌++◌, Bool, true, false, codes, Option, Some, None, Result, Ok}
use Rattle.serde_json.specs.Data.{Data, object, Members, no_members, member}
use Rattle.serde_json.specs.Find.{get_member}
use Rattle.json_values.specs.Parts.{Part, name}
use Rattle.schema_drafts.specs.declared.draft.Draft.{Draft}
use Rattle.schema_meaning.specs.Members.{In}
use Rattle.schema_definitions.specs.Places.{SchemaPlace, places}
use Rattle.schema_definitions.specs.Bearers.{by_default, document_name, is_root, meta}
use Rattle.schema_definitions.specs.DocumentCauses.{document_causes}
use Rattle.schema_definitions.specs.Lookup.{LookupCause, Target, lookup}
use Rattle.schema_definitions.specs.Scopes.{dynamic_lookup, recursive_lookup}
use Rattle.schema_definitions.specs.Sites.{Site, root_site}
use Rattle.schema_definitions.specs.BuildCauses.{Reached}
use Rattle.schema_definitions.specs.Plain.{plain}
use Rattle.linked_meanings.specs.Related.{AreRelated}
use Rattle.added_documents.specs.ReadingLaws.{Builds}
use Rattle.moved_documents.specs.Forms.{Pair, document_at, added, inside}
use Rattle.moved_documents.specs.Premises.{CanMove}

-- ---- values

-- members of which one has another value, or is further
pub data Changed (k : List ℕ) (e : Data) : Option Data → Members → Members → Type 0 where
  set_new : {ms : Members} → Changed k e None ms (member k e ms)
  set_again : {d : Data} {ms : Members} → Changed k e (Some d) (member k d ms) (member k e ms)
  further : {o : Option Data} {l : List ℕ} {d : Data} {ms ns : Members} → (k ≡ l → ⊥) → Changed k e o ms ns → Changed k e o (member l d ms) (member l d ns)

-- the definitions of the root, and those with the moved document
pub data Extended (fresh : List ℕ) (moved : Data) : Option Data → Members → Type 0 where
  made : Extended fresh moved None (member fresh moved no_members)
  grown : {ds es : Members} → get_member fresh ds ≡ None → Changed fresh moved None ds es → Extended fresh moved (Some (object ds)) es

-- a value of the two documents, and what stands at the same place inside: the same, but for the root and its definitions
pub data Near (fresh : List ℕ) (moved : Data) : Data → Data → Type 0 where
  unmoved : {d : Data} → Near fresh moved d d
  at_definitions : {ds es : Members} → get_member fresh ds ≡ None → Changed fresh moved None ds es → Near fresh moved (object ds) (object es)
  at_root : {o : Option Data} {ms ns es : Members} → get_member (codes "$defs") ms ≡ o → Extended fresh moved o es → Changed (codes "$defs") (object es) o ms ns
      → Near fresh moved (object ms) (object ns)

-- ---- places

-- the names of the two documents
abbrev pub root_document : Pair → List ℕ
root_document p = document_name (document_at p.layer p.root_uri p.root)

abbrev pub moved_document : Pair → List ℕ
moved_document p = document_name (document_at p.layer p.moved_uri p.moved)

-- where the moved document stands inside: `/$defs/NAME`, as paths have their last part first
abbrev pub path_inside : Pair → List Part
path_inside p = name p.fresh ∷ name (codes "$defs") ∷ []

-- a document and a path, and the same place inside: of the root where it was, of the moved document below the name in the root's `$defs`
pub data SamePlace (p : Pair) : List ℕ → List Part → List ℕ → List Part → Type 0 where
  of_root : {path : List Part} → SamePlace p (root_document p) path (root_document p) path
  of_moved : {path : List Part} → SamePlace p (moved_document p) path (root_document p) (path ++ path_inside p)

-- a schema place of the moved document, as it stands inside: with the same contents, base and dialect
abbrev pub put_below : Pair → SchemaPlace → SchemaPlace
put_below p x = record { path = x.path ++ path_inside p; contents = x.contents; base = x.base; dialect = x.dialect; awaits = x.awaits }

abbrev pub root_places : Pair → List SchemaPlace
root_places p = places (meta (added p)) p.root_uri (by_default p.layer) p.root

abbrev pub moved_places : Pair → List SchemaPlace
moved_places p = places (meta (added p)) p.moved_uri (by_default p.layer) p.moved

abbrev pub places_inside : Pair → Data → List SchemaPlace
places_inside p whole = places (meta (inside p whole)) p.root_uri (by_default p.layer) whole

-- ---- lookups

-- targets that correspond
pub record TargetAlike (p : Pair) (t u : Target) : Type 0 where
  pub place : SamePlace p t.document t.path u.document u.path
  pub contents : Near p.fresh p.moved t.contents u.contents
  pub base : t.base ≡ u.base
  pub dialect : t.dialect ≡ u.dialect
  pub is_place : t.is_place ≡ u.is_place

-- where both lead somewhere, to targets that correspond
abbrev pub Together : Pair → Result Target LookupCause → Result Target LookupCause → Type 0
Together p r q = (x y : Target) → r ≡ Ok x → q ≡ Ok y → TargetAlike p x y

-- ---- readings

-- sites that correspond
pub record SiteAlike (p : Pair) (s t : Site) : Type 0 where
  pub place : SamePlace p s.document s.path t.document t.path
  pub contents : Near p.fresh p.moved s.contents t.contents
  pub base : s.base ≡ t.base
  pub scope : s.scope ≡ t.scope
  pub dialect : s.dialect ≡ t.dialect
  pub schema_path : s.schema_path ≡ t.schema_path

-- that are reached as well, each from its root
abbrev pub Correspond : Pair → Data → (List ℕ → Bool) → Target → Target → Site → Site → Type 0
Correspond p whole makes root other s t =
    SiteAlike p s t × Reached (added p) makes (root_site root) s × Reached (inside p whole) makes (root_site other) t

-- the roots correspond, and at sites that correspond stand the same keywords, over sites that correspond
pub record AreLinked (p : Pair) (whole : Data) (makes : List ℕ → Bool) (root other : Target) : Type 0 where
  pub roots : Correspond p whole makes root other (root_site root) (root_site other)
  pub sites : (matches : List ℕ → List ℕ → Bool) → AreRelated (plain (added p) makes matches) (plain (inside p whole) makes matches) (Correspond p whole makes root other)

-- ---- all together

pub record IsLinkedInside (p : Pair) (whole : Data) : Type 0 where
  -- inside, the schema places are the root, those below it as they were, and those of the moved document below the name
  pub kept : (x : SchemaPlace) → In x (root_places p) → is_root x.path ≡ false → In x (places_inside p whole)
  pub moved : (x : SchemaPlace) → In x (moved_places p) → In (put_below p x) (places_inside p whole)
  pub no_more : (y : SchemaPlace) → In y (places_inside p whole)
      → (is_root y.path ≡ true) ⊎ (In y (root_places p) ⊎ ((x : SchemaPlace) × In x (moved_places p) × (put_below p x ≡ y)))
  -- every lookup leads to targets that correspond
  pub static : (base reference : List ℕ) → Together p (lookup (added p) base reference) (lookup (inside p whole) base reference)
  pub dynamic : (base : List ℕ) (scope : List (List ℕ)) (reference : List ℕ)
      → Together p (dynamic_lookup (added p) base scope reference) (dynamic_lookup (inside p whole) base scope reference)
  pub recursive : (base : List ℕ) (scope : List (List ℕ)) → Together p (recursive_lookup (added p) base scope) (recursive_lookup (inside p whole) base scope)
  -- what is read from a root that builds in both forms
  pub readings : (makes : List ℕ → Bool) (base reference : List ℕ) (root other : Target)
      → Builds (added p) makes base reference root → Builds (inside p whole) makes base reference other → AreLinked p whole makes root other

abbrev pub InsideIsLinked : Type 0
InsideIsLinked = (p : Pair) (draft : Draft) (whole : Data) → CanMove p draft whole → document_causes (inside p whole) ≡ [] → IsLinkedInside p whole
