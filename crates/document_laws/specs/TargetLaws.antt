-- Laws on the targets of references.
use Rattle.std.specs.Prelude.{ℕ, ◌≡◌, ◌≤◌, ◌==◌, List, [], ◌∷◌, Bool, true, not, ◌&&◌, bytes_eq, if◌then◌else◌, Ok}
use Rattle.std.specs.List.{list_any, list_all}
use Rattle.std.specs.Str.{is_utf8}
use Rattle.serde_json.specs.Data.{depth}
use Rattle.percent_encoding.specs.Percent.{percent_decode}
use Rattle.uri_grammar.specs.Texts.{cut_at}
use Rattle.schema_meaning.specs.Members.{In}
use Rattle.schema_meaning.specs.Places.{SchemaPlace}
use Rattle.schema_definitions.specs.Words.{or}
use Rattle.schema_definitions.specs.Bearers.{Document, Documents, document_name}
use Rattle.schema_definitions.specs.Lookup.{Target, lookup}
use Rattle.schema_definitions.specs.Scopes.{dynamic_lookup, recursive_lookup}
use Rattle.schema_definitions.specs.AllKeys.{places_of}
use Rattle.schema_definitions.specs.Plain.{deepest}
use Rattle.json_values.specs.Rising.{rises}

abbrev pub place_of : Target → SchemaPlace
place_of t = record { document = t.document; path = t.path }

-- a target is a place of the documents, and nests no deeper than they do
pub record Lies (docs : Documents) (t : Target) : Type 0 where
  pub place : In (place_of t) (places_of docs)
  pub shallow : depth t.contents ≤ deepest docs

abbrev pub LookupsLie : Type 0
LookupsLie = (docs : Documents) (base reference : List ℕ) (t : Target) → lookup docs base reference ≡ Ok t → Lies docs t

abbrev pub DynamicLookupsLie : Type 0
DynamicLookupsLie = (docs : Documents) (base : List ℕ) (scope : List (List ℕ)) (reference : List ℕ) (t : Target)
    → dynamic_lookup docs base scope reference ≡ Ok t → Lies docs t

abbrev pub RecursiveLookupsLie : Type 0
RecursiveLookupsLie = (docs : Documents) (base : List ℕ) (scope : List (List ℕ)) (t : Target) → recursive_lookup docs base scope ≡ Ok t → Lies docs t

-- ---- names apart

-- no two have one name
abbrev pub are_apart : List Document → Bool
are_apart [] = true
are_apart (d ∷ ds) = not (list_any (λ e. bytes_eq (document_name d) (document_name e)) ds) && are_apart ds

abbrev pub contents_rise : Document → Bool
contents_rise d = rises d.contents

-- a place that a reference leads to: a plain one, one by the dynamic scope, or a recursive one
pub data IsTarget (docs : Documents) : Target → Type 0 where
  by_reference : {t : Target} (base reference : List ℕ) → lookup docs base reference ≡ Ok t → IsTarget docs t
  by_scope : {t : Target} (base : List ℕ) (scope : List (List ℕ)) (reference : List ℕ) → dynamic_lookup docs base scope reference ≡ Ok t → IsTarget docs t
  by_run : {t : Target} (base : List ℕ) (scope : List (List ℕ)) → recursive_lookup docs base scope ≡ Ok t → IsTarget docs t

-- one place holds one value
abbrev pub ContentsAreOne : Type 0
ContentsAreOne = (docs : Documents) → are_apart docs ≡ true → list_all contents_rise docs ≡ true
    → (t u : Target) → IsTarget docs t → IsTarget docs u → t.document ≡ u.document → t.path ≡ u.path → t.contents ≡ u.contents

-- ---- pointers are texts

-- a fragment that begins with `/` is, percent-decoded, a text
abbrev pub fragment_reads : List ℕ → Bool
fragment_reads [] = true
fragment_reads (b ∷ f) = if b == 47 then is_utf8 (percent_decode (b ∷ f)) else true

abbrev pub reads_as_path : List ℕ → Bool
reads_as_path reference = fragment_reads (or [] (cut_at 35 reference).1)

abbrev pub LookupsRead : Type 0
LookupsRead = (docs : Documents) (base reference : List ℕ) (t : Target) → lookup docs base reference ≡ Ok t → reads_as_path reference ≡ true
