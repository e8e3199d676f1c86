-- A pair of documents that can be moved.
use Rattle.std.specs.Prelude.{ℕ, List, false, codes}
use Rattle.serde_json.specs.Data.{Data, null}
use Rattle.serde_json.specs.Read.{read}
use Rattle.schema_drafts.specs.declared.draft.Draft.TheVariants.{Draft202012}
use Rattle.schema_definitions.specs.Words.{or}
use Rattle.schema_definitions.specs.Bearers.{Layer}
use Rattle.moved_documents.specs.Forms.{Pair}
use Rattle.moved_documents.specs.Premises.{CanMove}

abbrev pub value : List ℕ → Data
value text = or null (read text)

abbrev pub layer : Layer
layer = record { number = 0; draft = Draft202012; siblings = false }

-- each item of a list is a text, as the other document says
abbrev pub texts : Pair
texts = record {
  layer = layer;
  root_uri = codes "http://a.test/root.json";
  root = value (codes "{\"$id\":\"http://a.test/root.json\",\"$schema\":\"https://json-schema.org/draft/2020-12/schema\",\"items\":{\"$ref\":\"leaf.json\"}}");
  moved_uri = codes "http://a.test/leaf.json";
  moved = value (codes "{\"$id\":\"http://a.test/leaf.json\",\"$schema\":\"https://json-schema.org/draft/2020-12/schema\",\"type\":\"string\"}");
  fresh = codes "leaf";
}

-- the root with the other inside
abbrev pub whole : Data
whole = value (codes "{\"$id\":\"http://a.test/root.json\",\"$schema\":\"https://json-schema.org/draft/2020-12/schema\",\"items\":{\"$ref\":\"leaf.json\"},\"$defs\":{\"leaf\":{\"$id\":\"http://a.test/leaf.json\",\"$schema\":\"https://json-schema.org/draft/2020-12/schema\",\"type\":\"string\"}}}")

abbrev pub TextsCanMove : Type 0
TextsCanMove = CanMove texts Draft202012 whole
