-- Documents as they are added, each under a URI; one added again under its URI takes the place of the first.
use Rattle.std.specs.Prelude.{ℕ, suc, List, [], ◌∷◌, map, Bool, true, not, ◌&&◌, bytes_eq, if◌then◌else◌, Option, Some, None, option_map}
use Rattle.std.specs.List.{list_any}
use Rattle.serde_json.specs.Data.{Data}
use Rattle.schema_drafts.specs.declared.draft.Draft.{Draft}
use Rattle.schema_definitions.specs.Words.{or}
use Rattle.schema_definitions.specs.Places.{standard}
use Rattle.schema_definitions.specs.Bearers.{Document, Layer}

-- a document, and its draft where it names none, if one was given with it
pub record Given : Type 0 where
  pub uri : List ℕ
  pub contents : Data
  pub draft : Option Draft

abbrev pub with_given : List Given → Given → List Given
with_given [] g = g ∷ []
with_given (h ∷ hs) g = if bytes_eq h.uri g.uri then g ∷ hs else h ∷ with_given hs g

-- each added in its turn
abbrev pub with_all : List Given → List Given → List Given
with_all hs [] = hs
with_all hs (g ∷ gs) = with_all (with_given hs g) gs

-- the documents of a layer, those without a draft of their own with the layer's
abbrev pub document_by : Layer → Given → Document
document_by l g = record { layer = l.number; uri = g.uri; contents = g.contents; default = standard l.siblings (or l.draft g.draft) }

abbrev pub documents_by : Layer → List Given → List Document
documents_by l gs = map (document_by l) gs

-- the position of a document
abbrev pub position_in : List Given → List ℕ → Option ℕ
position_in [] uri = None
position_in (g ∷ gs) uri = if bytes_eq g.uri uri then Some 0 else option_map suc (position_in gs uri)

-- no URI is given twice
abbrev pub are_given_apart : List Given → Bool
are_given_apart [] = true
are_given_apart (g ∷ gs) = not (list_any (λ h. bytes_eq g.uri h.uri) gs) && are_given_apart gs
