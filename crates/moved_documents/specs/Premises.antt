-- When moving a document is to change nothing.
use Rattle.std.specs.Prelude.{ℕ, ◌≡◌, ◌⊎◌, List, Bool, true, false, codes, Option, Some, None, is_some, option_and_then}
use Rattle.serde_json.specs.Data.{Data}
use Rattle.json_values.specs.Rising.{rises}
use Rattle.schema_meaning.specs.Members.{In}
use Rattle.schema_drafts.specs.Counts.{is_known}
use Rattle.schema_drafts.specs.Drafts.{draft_named}
use Rattle.schema_drafts.specs.declared.draft.Draft.{Draft}
use Rattle.schema_drafts.specs.declared.draft.Draft.TheVariants.{Draft4, Draft6, Draft7, Draft201909, Draft202012, Unknown}
use Rattle.schema_definitions.specs.Words.{text_at}
use Rattle.schema_definitions.specs.Identifiers.{resolved, identifier, anchors}
use Rattle.schema_definitions.specs.Places.{Dialect, standard}
use Rattle.schema_definitions.specs.Bearers.{Documents, Standing, standings, bears, bears_anchor, meta, bearer}
use Rattle.schema_definitions.specs.Lookup.{Target}
use Rattle.schema_definitions.specs.Sites.{Site, root_site}
use Rattle.schema_definitions.specs.BuildCauses.{Reached}
use Rattle.added_documents.specs.Added.{EachNamedBy, IsToldAlike, IsFree}
use Rattle.moved_documents.specs.Forms.{Pair, root_alone, moved_alone, added, joined, inside}

-- a name that is a keyword of no draft, nor another name that one knows
abbrev pub IsFresh : List ℕ → Type 0
IsFresh name = (draft : Draft) → is_known draft name ≡ false

-- a URI in normal form is what it resolves to, whatever the base (RFC 3986, section 5.2)
abbrev pub IsNormal : List ℕ → Type 0
IsNormal uri = (base : List ℕ) → resolved base uri ≡ Some uri

-- the drafts in which a document can be moved: 2019-09 and 2020-12
abbrev pub embeds : Draft → Bool
embeds Draft4 = false
embeds Draft6 = false
embeds Draft7 = false
embeds Draft201909 = true
embeds Draft202012 = true
embeds Unknown = false

-- a schema states its draft
abbrev pub States : Draft → Data → Type 0
States draft d = option_and_then draft_named (text_at (codes "$schema") d) ≡ Some draft

-- no URI is borne by two schema places, and no anchor under one URI
pub record BornOnce (told : List ℕ → Option Dialect) (docs : Documents) : Type 0 where
  pub uris : (uri : List ℕ) (s t : Standing) → In s (standings told docs) → In t (standings told docs) → bears uri s ≡ true → bears uri t ≡ true → s ≡ t
  pub names : (base k : List ℕ) (s t : Standing) → In s (standings told docs) → In t (standings told docs)
      → bears_anchor anchors base k s ≡ true → bears_anchor anchors base k t ≡ true → s ≡ t

-- a pair of which the one document can be moved into the other, which then is `whole`
pub record CanMove (p : Pair) (draft : Draft) (whole : Data) : Type 0 where
  pub joined : joined p ≡ Some whole
  pub fresh : IsFresh p.fresh
  pub embeds : embeds draft ≡ true
  pub root : States draft p.root
  pub moved : States draft p.moved
  -- the moved document's identifier is its URI
  pub normal : IsNormal p.moved_uri
  pub identified : identifier (standard p.layer.siblings draft) p.moved ≡ Some p.moved_uri
  -- in objects the names rise, as they are kept
  pub rises : rises p.root ≡ true
  -- by what the root with the other inside tells of meta-schemas
  pub once : BornOnce (meta (inside p whole)) (inside p whole)

-- ---- where the root by itself wants no document, the moved one is not retrieved

-- A schema has no identifier, or its base is the URI of a schema place of the root, or one that the moved document does not bear. Schema places
-- bear their own; so this is asked of what stands inside a value that is no schema place, and that a pointer makes a schema.
abbrev pub KeepsApart : Pair → Site → Type 0
KeepsApart p s =
    (identifier s.dialect s.contents ≡ None)
    ⊎ ((is_some (bearer (root_alone p) s.base) ≡ true) ⊎ IsFree (moved_alone p) (added p) s.base)

-- The moved document is left out by the root: of each meta-schema that is named inside that, the same dialect is told with the moved document
-- added, and each schema that is reached keeps apart from that.
pub record LeavesOut (p : Pair) (makes : List ℕ → Bool) (root : Target) : Type 0 where
  pub told : EachNamedBy (IsToldAlike (meta (root_alone p)) (meta (added p))) (root_alone p)
  pub reached : (s : Site) → Reached (root_alone p) makes (root_site root) s → KeepsApart p s
