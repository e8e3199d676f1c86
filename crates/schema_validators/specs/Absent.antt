-- References of documents to what is not among them.
use Rattle.std.specs.Prelude.{◌≡◌, ℕ, List, [], ◌∷◌, Bool, ◌||◌, codes, if◌then◌else◌, Option, Some, None, is_some, string_bytes}
use Rattle.std.specs.List.{flat_map}
use Rattle.json_values.specs.Parts.{name}
use Rattle.schema_definitions.specs.Words.{or, text_at}
use Rattle.schema_definitions.specs.Bearers.{Documents, Layer, Standing, standings, meta}
use Rattle.schema_definitions.specs.Rounds.{Want, wanted_at, is_added, is_at_hand}
use Rattle.schema_definitions.specs.Rows.{Place}
use Rattle.document_sources.specs.Causes.{NamesDocument}
use Rattle.document_sources.specs.Given.{Given, documents_by}
use Rattle.document_index.specs.Indexes.{bearer_in}
use Rattle.document_index.specs.declared.index.Index.{Index}
use Rattle.reached_sites.specs.Places.{place_in}
use Rattle.reached_sites.specs.declared.cause.BuildCause.{BuildCause}
use Rattle.reached_sites.specs.declared.cause.BuildCause.TheVariants as cause
use Rattle.schema_validators.specs.Prepared.{documents_alone}

-- a reference: where the member stands that has it, its text, and what is wanted by it
pub record Absent : Type 0 where
  pub place : Place
  pub reference : List ℕ
  pub want : Want

-- the member by which a place wants a document
abbrev pub wanting : Standing → List ℕ
wanting s = if is_some s.place.awaits then codes "$schema" else codes "$ref"

abbrev pub absence : Standing → Want → Absent
absence s w = record {
  place = record { document = s.document; path = name (wanting s) ∷ s.place.path };
  reference = or [] (text_at (wanting s) s.place.contents);
  want = w;
}

-- what a place wants and is not known
abbrev pub absent_at : (List ℕ → Bool) → Standing → List Absent
absent_at known s = flat_map (λ w. if known w.uri then [] else absence s w ∷ []) (wanted_at s)

-- what the documents want and is not at hand, wherever they refer to it, in the order met
abbrev pub absent_in : Documents → List Absent
absent_in docs = flat_map (absent_at (is_at_hand (meta docs) docs)) (standings (meta docs) docs)

-- the first of two lists that has something
abbrev pub first_some : {X : Type 0} → List X → List X → List X
first_some [] ys = ys
first_some (x ∷ xs) ys = x ∷ xs

-- that of documents that stand over no others; of meta-schemas by themselves, and where they want nothing else, of documents beside them
abbrev pub absent_given : Option (List Given) → Layer → List Given → List Absent
absent_given None first given = absent_in (documents_alone None first given)
absent_given (Some metas) first given = first_some (absent_in (documents_by first metas)) (absent_in (documents_alone (Some metas) first given))

-- the cause that is told of it: its place, its text, and what documents are refused for where nobody gives it
abbrev pub NamesAbsent : Absent → BuildCause → Type 0
NamesAbsent a (cause.Reference place reference error) =
    (place_in place ≡ a.place) × (string_bytes reference ≡ a.reference) × NamesDocument a.want.cause error
NamesAbsent a _ = ⊥

-- somebody bears a URI by an index, or a document has it
abbrev pub is_known_by : Index → Documents → List ℕ → Bool
is_known_by index docs uri = is_some (bearer_in index uri) || is_added docs uri
