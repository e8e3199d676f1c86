-- A document in which a pointer leads through a schema place that awaits its meta-schema.
use Rattle.std.specs.Prelude.{◌≡◌, [], ◌∷◌, map, true, false, codes, Ok}
use Rattle.serde_json.specs.Data.{null}
use Rattle.serde_json.specs.Read.{read}
use Rattle.json_values.specs.Parts.{name}
use Rattle.schema_drafts.specs.declared.draft.Draft.TheVariants.{Draft202012}
use Rattle.schema_definitions.specs.Words.{or, result_map}
use Rattle.schema_definitions.specs.Places.{standard}
use Rattle.schema_definitions.specs.Bearers.{Documents, standings, meta}
use Rattle.schema_definitions.specs.DocumentCauses.{unknown_specification, document_causes}
use Rattle.schema_definitions.specs.Lookup.{lookup}

abbrev pub documents : Documents
documents =
    record {
      layer = 0;
      uri = codes "http://a.test/a";
      contents = or null (read (codes "{\"$defs\":{\"y\":{\"$id\":\"q\",\"$schema\":\"http://a.test/m\",\"not\":{}}}}"));
      default = standard false Draft202012;
    } ∷ []

-- what the reference leads to counts as a schema place, and the list has nothing below the place that awaits; so the document is refused
pub record LeadsBelow : Type 0 where
  pub place : result_map (λ t. t.is_place) (lookup documents (codes "http://a.test/a") (codes "#/$defs/y/not")) ≡ Ok true
  pub listed : map (λ s. s.place.path) (standings (meta documents) documents) ≡ [] ∷ (name (codes "y") ∷ name (codes "$defs") ∷ []) ∷ []
  pub cause : document_causes documents ≡ unknown_specification (codes "http://a.test/m") ∷ []
