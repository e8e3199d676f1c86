-- References against a base, and the anchors of schemas (Core 8.2; Draft 7, Core 8.2; Draft 4, Core 7.2).
use Rattle.std.specs.Prelude.{ℕ, List, [], ◌∷◌, ◌++◌, ◌==◌, Bool, false, not, ◌&&◌, codes, if◌then◌else◌, Option, Some, None, option_and_then, is_some}
use Rattle.std.specs.List.{flat_map}
use Rattle.serde_json.specs.Data.{Data}
use Rattle.serde_json.specs.Find.{get}
use Rattle.uri_references.specs.Passed.{cut_at, is_empty, has, split, is_reference}
use Rattle.uri_references.specs.Identity.{identity_against}
pub use Rattle.schema_drafts.specs.Identifiers.{is_hidden, identifier_text, begins_with_hash, without_fragment, identifier}
use Rattle.schema_drafts.specs.Vocabularies.{Dialect}
use Rattle.schema_drafts.specs.declared.draft.Draft.{Draft}
use Rattle.schema_drafts.specs.declared.draft.Draft.TheVariants.{Draft4, Draft6, Draft7, Draft201909, Draft202012, Unknown}
use Rattle.schema_definitions.specs.Words.{text_at, listed}

-- a reference against a base, in normal form (RFC 3986, sections 5.2 and 6.2.2); none where the text is no URI reference
unfoldable pub resolved : List ℕ → List ℕ → Option (List ℕ)
resolved base reference = if is_reference (split reference) then Some (identity_against base reference) else None

-- ---- anchors

-- a name of an anchor: not empty, and no `/` in it
abbrev pub is_name : List ℕ → Bool
is_name k = not (is_empty k) && not (has 47 k)

-- the name of an identifier that is a fragment alone (Draft 7, Core 8.2.3)
abbrev pub after_hash : List ℕ → List (List ℕ)
after_hash [] = []
after_hash (b ∷ t) = if b == 35 then t ∷ [] else []

abbrev pub fragment_anchor : Dialect → Data → List (List ℕ)
fragment_anchor e d = flat_map after_hash (listed (identifier_text e d))

-- by `$dynamicAnchor` (Core 8.2.2)
abbrev pub dynamic_anchors_by : Draft → Data → List (List ℕ)
dynamic_anchors_by Draft4 d = []
dynamic_anchors_by Draft6 d = []
dynamic_anchors_by Draft7 d = []
dynamic_anchors_by Draft201909 d = []
dynamic_anchors_by Draft202012 d = listed (text_at (codes "$dynamicAnchor") d)
dynamic_anchors_by Unknown d = listed (text_at (codes "$dynamicAnchor") d)

abbrev pub dynamic_anchors : Dialect → Data → List (List ℕ)
dynamic_anchors e d = dynamic_anchors_by e.draft d

-- by `$anchor`, and before 2019-09 by the identifier
abbrev pub anchors_by : Draft → Dialect → Data → List (List ℕ)
anchors_by Draft4 e d = fragment_anchor e d
anchors_by Draft6 e d = fragment_anchor e d
anchors_by Draft7 e d = fragment_anchor e d
anchors_by Draft201909 e d = listed (text_at (codes "$anchor") d)
anchors_by Draft202012 e d = listed (text_at (codes "$anchor") d)
anchors_by Unknown e d = listed (text_at (codes "$anchor") d)

-- the anchors that a schema bears (Core 8.2.2; before 2019-09 by its identifier)
abbrev pub anchors : Dialect → Data → List (List ℕ)
anchors e d = anchors_by e.draft e d ++ dynamic_anchors e d
