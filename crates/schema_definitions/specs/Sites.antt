-- Sites: a schema's place together with all that a reference inside it depends on.
use Rattle.std.specs.Prelude.{ℕ, List, [], ◌∷◌, ◌++◌, ◌==◌, if◌then◌else◌}
use Rattle.serde_json.specs.Data.{Data}
use Rattle.serde_json.specs.Find.{unescape}
use Rattle.percent_encoding.specs.Percent.{percent_decode}
use Rattle.uri_references.specs.Passed.{cut_at, pieces}
use Rattle.json_values.specs.Parts.{Part, name}
use Rattle.schema_definitions.specs.Words.{or}
use Rattle.schema_definitions.specs.Places.{Dialect, SchemaPlace, entered}
use Rattle.schema_definitions.specs.Bearers.{Documents, meta}
use Rattle.schema_definitions.specs.Lookup.{Target}
use Rattle.schema_definitions.specs.Scopes.{entered_scope}

-- a document and a path in it with the schema there, the base URI, the resources entered, the innermost first, the dialect,
-- and the schema path; paths have their last part first
pub record Site : Type 0 where
  pub document : List ℕ
  pub path : List Part
  pub contents : Data
  pub base : List ℕ
  pub scope : List (List ℕ)
  pub dialect : Dialect
  pub schema_path : List Part

-- the site of a subschema, `added` being the parts from the schema to it
abbrev pub within : Site → List Part → SchemaPlace → Site
within s added p = record {
  document = s.document;
  path = p.path;
  contents = p.contents;
  base = p.base;
  scope = entered_scope p.base s.base s.scope;
  dialect = p.dialect;
  schema_path = added ++ s.schema_path;
}

abbrev pub below : Documents → Site → List Part → Data → Site
below docs s added d = within s added (entered (meta docs) s.base s.dialect (added ++ s.path) d)

-- ---- the site of a reference's target

abbrev pub pushed : List (List ℕ) → List Part → List Part
pushed [] path = path
pushed (t ∷ ts) path = pushed ts (name (unescape t) ∷ path)

abbrev pub behind_first : List (List ℕ) → List (List ℕ)
behind_first [] = []
behind_first (t ∷ ts) = ts

-- the schema path begins anew with the reference's pointer, percent-decoded; without one it is empty
abbrev pub pointer_path : List ℕ → List Part
pointer_path [] = []
pointer_path (b ∷ f) = if b == 47 then pushed (behind_first (pieces 47 (percent_decode (b ∷ f)))) [] else []

abbrev pub path_of_reference : List ℕ → List Part
path_of_reference t = pointer_path (or [] (cut_at 35 t).1)

abbrev pub target_site : Site → List ℕ → Target → Site
target_site s reference t = record {
  document = t.document;
  path = t.path;
  contents = t.contents;
  base = t.base;
  scope = entered_scope t.base s.base s.scope;
  dialect = t.dialect;
  schema_path = path_of_reference reference;
}

-- the site of a root: the scope begins with its base
abbrev pub root_site : Target → Site
root_site t = record { document = t.document; path = t.path; contents = t.contents; base = t.base; scope = t.base ∷ []; dialect = t.dialect; schema_path = [] }
