-- Three forms of one pair of documents, a root and a moved one: the moved one is added, or retrieved, or put under a name of the root's `$defs`.
use Rattle.std.specs.Prelude.{ℕ, ◌≡◌, List, [], ◌∷◌, codes, if◌then◌else◌, Option, Some, None, option_map, option_and_then, is_some}
use Rattle.serde_json.specs.Data.{Data, object, Members, no_members, put}
use Rattle.serde_json.specs.Find.{get_member, as_object}
use Rattle.schema_definitions.specs.Bearers.{Document, Documents, Layer, by_default}
use Rattle.schema_definitions.specs.Rounds.{Asking}

-- the two documents with the URIs under which they are added, the name under which the second is put, and the layer of all
pub record Pair : Type 0 where
  pub layer : Layer
  pub root_uri : List ℕ
  pub root : Data
  pub moved_uri : List ℕ
  pub moved : Data
  pub fresh : List ℕ

-- a document of a layer that is given with no draft
abbrev pub document_at : Layer → List ℕ → Data → Document
document_at l uri d = record { layer = l.number; uri = uri; contents = d; default = by_default l }

abbrev pub root_alone : Pair → Documents
root_alone p = document_at p.layer p.root_uri p.root ∷ []

abbrev pub moved_alone : Pair → Documents
moved_alone p = document_at p.layer p.moved_uri p.moved ∷ []

-- ---- added

abbrev pub added : Pair → Documents
added p = document_at p.layer p.root_uri p.root ∷ document_at p.layer p.moved_uri p.moved ∷ []

-- ---- retrieved: whom documents are asked of gives the moved one for its URI, and no other

abbrev pub by_map : Pair → Asking
by_map p = record { answers = λ uri d. (uri ≡ p.moved_uri) × (d ≡ p.moved); refuses = λ uri. (uri ≡ p.moved_uri) → ⊥; layer = p.layer }

-- ---- moved: put among the members of the root's `$defs`, which are none where it is missing

abbrev pub definitions : Option Data → Option Members
definitions None = Some no_members
definitions (Some d) = as_object d

-- under a name that is not there
abbrev pub put_anew : List ℕ → Data → Members → Option Members
put_anew k d ds = if is_some (get_member k ds) then None else Some (put k d ds)

abbrev pub with_definitions : Members → Members → Data
with_definitions ms ds = object (put (codes "$defs") (object ds) ms)

abbrev pub moved_into : List ℕ → Data → Members → Option Data
moved_into k d ms = option_map (with_definitions ms) (option_and_then (put_anew k d) (definitions (get_member (codes "$defs") ms)))

-- a root with a document inside: none where the root is no object, its `$defs` is none, or that has the name
abbrev pub put_inside : List ℕ → Data → Data → Option Data
put_inside k d root = option_and_then (moved_into k d) (as_object root)

abbrev pub joined : Pair → Option Data
joined p = put_inside p.fresh p.moved p.root

abbrev pub inside : Pair → Data → Documents
inside p whole = document_at p.layer p.root_uri whole ∷ []
