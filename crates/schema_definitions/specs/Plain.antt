-- The plain reading of documents: each reference looked up anew.
use Rattle.std.specs.Prelude.{ℕ, max, List, [], ◌∷◌, Bool}
use Rattle.std.specs.List.{flat_map}
use Rattle.serde_json.specs.Data.{depth}
use Rattle.schema_meaning.specs.Keywords.{Shape}
use Rattle.schema_meaning.specs.Readings.{Reading}
use Rattle.schema_definitions.specs.Bearers.{Documents}
use Rattle.schema_definitions.specs.Sites.{Site}
use Rattle.schema_definitions.specs.Rows.{rows_at}

abbrev pub deepest : Documents → ℕ
deepest [] = 0
deepest (d ∷ ds) = max (depth d.contents) (deepest ds)

abbrev pub keywords_at : Documents → (List ℕ → Bool) → Site → List (Shape Site)
keywords_at docs makes s = flat_map (λ r. r.shapes) (rows_at docs makes s)

-- the reading under a way to read matches
abbrev pub plain : Documents → (List ℕ → Bool) → (List ℕ → List ℕ → Bool) → Reading Site
plain docs makes matches = record {
  keywords = keywords_at docs makes;
  schema_path = λ s. s.schema_path;
  place = λ s. record { document = s.document; path = s.path };
  matches = matches;
  nesting = deepest docs;
}
