-- Schema places: the parts of a document that are schemas, each with its base URI, its draft and its vocabularies.
use Rattle.std.specs.Prelude.{ℕ, suc, List, [], ◌∷◌, ◌++◌, Bool, true, false, ◌||◌, codes, if◌then◌else◌, Option, Some, None, option_and_then, is_some}
use Rattle.serde_json.specs.Data.{Data, null, boolean, number, string, array, object, Items, no_items, item, Members, no_members, member, depth}
use Rattle.uri_references.specs.Passed.{cut_at}
use Rattle.json_values.specs.Parts.{Part, name, index}
use Rattle.schema_drafts.specs.Drafts.{draft_named}
pub use Rattle.schema_drafts.specs.Vocabularies.{Dialect, standard}
pub use Rattle.schema_drafts.specs.Children.{is_schema}
use Rattle.schema_drafts.specs.Subschemas.{Holds, nothing, one, several, one_or_several, by_name, held_by}
use Rattle.schema_drafts.specs.declared.draft.Draft.{Draft}
use Rattle.schema_drafts.specs.declared.draft.Draft.TheVariants.{Unknown}
use Rattle.schema_definitions.specs.Words.{or, text_at, levels}
use Rattle.schema_definitions.specs.Identifiers.{resolved, is_hidden, identifier}

-- A place where a schema stands. `path` has its last part first.
-- One whose meta-schema is not known awaits it: until then it has no identifier, and no places below it.
pub record SchemaPlace : Type 0 where
  pub path : List Part
  pub contents : Data
  pub base : List ℕ
  pub dialect : Dialect
  pub awaits : Option (List ℕ)

-- ---- the dialect by `$schema` (Core 8.1.1)

-- a meta-schema's URI: no fragment, and relative ones against the URI of documents without one
abbrev pub meta_schema_uri : List ℕ → Option (List ℕ)
meta_schema_uri t = resolved (codes "json-schema:///") (cut_at 35 t).0

-- the draft by which the identifier beside a `$schema` is read
abbrev pub draft_beside : List ℕ → Draft
draft_beside t = or Unknown (draft_named t)

-- the `$schema` that counts: a root's, or one beside an identifier
abbrev pub schema_in_force : Bool → Bool → Data → Option (List ℕ)
schema_in_force siblings is_root d =
    option_and_then (λ t. if is_root || is_some (identifier (standard siblings (draft_beside t)) d) then Some t else None) (text_at (codes "$schema") d)

-- the URI of the meta-schema that a schema names, where it is none of the drafts' own
abbrev pub uri_named : List ℕ → Option Draft → Option (List ℕ)
uri_named t None = meta_schema_uri t
uri_named t (Some draft) = None

abbrev pub named_meta_schema : Bool → Bool → Data → Option (List ℕ)
named_meta_schema siblings at_root d = option_and_then (λ t. uri_named t (draft_named t)) (schema_in_force siblings at_root d)

-- what a `$schema` gives: a dialect, or the URI of a meta-schema that is awaited
pub data Named : Type 0 where
  settled : Dialect → Named
  awaited : List ℕ → Named

abbrev pub by_meta_schema : (List ℕ → Option Dialect) → Dialect → Option (List ℕ) → Named
by_meta_schema meta outer None = settled outer
by_meta_schema meta outer (Some uri) = elim (meta uri) [ None ↦ awaited uri | Some dialect ↦ settled dialect ]

abbrev pub by_draft : (List ℕ → Option Dialect) → Dialect → List ℕ → Option Draft → Named
by_draft meta outer t None = by_meta_schema meta outer (meta_schema_uri t)
by_draft meta outer t (Some draft) = settled (standard outer.siblings draft)

abbrev pub by_schema : (List ℕ → Option Dialect) → Dialect → Option (List ℕ) → Named
by_schema meta outer None = settled outer
by_schema meta outer (Some t) = by_draft meta outer t (draft_named t)

-- ---- one place

abbrev pub own_base : List ℕ → Dialect → Data → List ℕ
own_base outer e d = or outer (option_and_then (resolved outer) (identifier e d))

abbrev pub placed : List ℕ → Dialect → List Part → Data → Named → SchemaPlace
placed outer around path d (settled dialect) = record { path = path; contents = d; base = own_base outer dialect d; dialect = dialect; awaits = None }
placed outer around path d (awaited uri) = record { path = path; contents = d; base = outer; dialect = around; awaits = Some uri }

-- the place of a schema inside another: `meta` tells the dialects of meta-schemas of one's own
abbrev pub entered : (List ℕ → Option Dialect) → List ℕ → Dialect → List Part → Data → SchemaPlace
entered meta outer around path d = placed outer around path d (by_schema meta around (schema_in_force around.siblings false d))

abbrev pub root_place : (List ℕ → Option Dialect) → List ℕ → Dialect → Data → SchemaPlace
root_place meta uri default d = placed uri default [] d (by_schema meta default (schema_in_force default.siblings true d))

-- ---- the places below a place, in the order of its members and their items

abbrev pub if_schema : (List ℕ → Option Dialect) → SchemaPlace → List Part → Data → List SchemaPlace
if_schema meta p path d = if is_schema d then entered meta p.base p.dialect path d ∷ [] else []

abbrev pub each_item : (List ℕ → Option Dialect) → SchemaPlace → List Part → ℕ → Items → List SchemaPlace
each_item meta p path i no_items = []
each_item meta p path i (item d ds) = if_schema meta p (index i ∷ path) d ++ each_item meta p path (suc i) ds

abbrev pub each_member : (List ℕ → Option Dialect) → SchemaPlace → List Part → Members → List SchemaPlace
each_member meta p path no_members = []
each_member meta p path (member k d ms) = if_schema meta p (name k ∷ path) d ++ each_member meta p path ms

abbrev pub in_list : (List ℕ → Option Dialect) → SchemaPlace → List Part → Data → List SchemaPlace
in_list meta p path null = []
in_list meta p path (boolean b) = []
in_list meta p path (number n) = []
in_list meta p path (string s) = []
in_list meta p path (array ds) = each_item meta p path 0 ds
in_list meta p path (object ms) = []

abbrev pub in_map : (List ℕ → Option Dialect) → SchemaPlace → List Part → Data → List SchemaPlace
in_map meta p path null = []
in_map meta p path (boolean b) = []
in_map meta p path (number n) = []
in_map meta p path (string s) = []
in_map meta p path (array ds) = []
in_map meta p path (object ms) = each_member meta p path ms

abbrev pub held : (List ℕ → Option Dialect) → SchemaPlace → List Part → Holds → Data → List SchemaPlace
held meta p path nothing d = []
held meta p path one d = if_schema meta p path d
held meta p path several d = in_list meta p path d
held meta p path one_or_several d = if_schema meta p path d ++ in_list meta p path d
held meta p path by_name d = in_map meta p path d

abbrev pub children_of : (List ℕ → Option Dialect) → SchemaPlace → Bool → Members → List SchemaPlace
children_of meta p hidden no_members = []
children_of meta p hidden (member k d ms) = held meta p (name k ∷ p.path) (held_by p.dialect.draft hidden k) d ++ children_of meta p hidden ms

abbrev pub children_in : (List ℕ → Option Dialect) → SchemaPlace → Data → List SchemaPlace
children_in meta p null = []
children_in meta p (boolean b) = []
children_in meta p (number n) = []
children_in meta p (string s) = []
children_in meta p (array ds) = []
children_in meta p (object ms) = children_of meta p (is_hidden p.dialect (object ms)) ms

abbrev pub children : (List ℕ → Option Dialect) → SchemaPlace → List SchemaPlace
children meta p = if is_some p.awaits then [] else children_in meta p p.contents

-- the schema places of a document, by levels from its root
unfoldable pub places : (List ℕ → Option Dialect) → List ℕ → Dialect → Data → List SchemaPlace
places meta uri default d = levels (children meta) (suc (depth d)) (root_place meta uri default d ∷ [])
