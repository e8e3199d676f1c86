-- What an index says.
use Rattle.std.specs.Prelude.{◌≡◌, ℕ, List, [], map, Option, option_map, option_and_then, String, string_bytes}
use Rattle.std.specs.List.{flat_map}
use Rattle.std.specs.Global.{Global}
use Rattle.std.specs.BTreeMap.{BTreeMap, get_by_text}
use Rattle.schema_definitions.specs.Places.{Dialect}
use Rattle.schema_definitions.specs.Identifiers.{anchors, dynamic_anchors}
use Rattle.schema_definitions.specs.Bearers.{Document, Standing, bears, bears_anchor}
use Rattle.schema_definitions.specs.CompileKeys.{first_ones, names_at}
use Rattle.schema_dialects.specs.Dialects.{dialect_of}
use Rattle.document_index.specs.Located.{Located, Kept, kept_of, last_located, located_standings}
use Rattle.document_index.specs.declared.index.Bearer.{Bearer}
use Rattle.document_index.specs.declared.index.Index.{Index}

abbrev pub bearer_of : Bearer → Kept
bearer_of b = record { document = b.document; path = b.path; base = b.base.value; dialect = dialect_of b.dialect }

-- the bearer under a name
abbrev pub named : BTreeMap (String Global) Bearer → List ℕ → Option Kept
named bearers name = option_map bearer_of (get_by_text bearers name)

-- the bearer under a base and a name
abbrev pub anchor_named : BTreeMap (String Global) (BTreeMap (String Global) Bearer) → List ℕ → List ℕ → Option Kept
anchor_named bases base name = option_and_then (λ names. named names name) (get_by_text bases base)

-- what an index has under a URI, and under a base and the name of an anchor
unfoldable pub bearer_in : Index → List ℕ → Option Kept
bearer_in index uri = named index.by_uri uri

unfoldable pub anchored_in : Index → List ℕ → List ℕ → Option Kept
anchored_in index base name = anchor_named index.by_anchor base name

unfoldable pub dynamically_anchored_in : Index → List ℕ → List ℕ → Option Kept
dynamically_anchored_in index base name = anchor_named index.by_dynamic_anchor base name

-- the names of dynamic anchors that an index has, and those that schema places bear, each once
unfoldable pub dynamic_names_in : Index → List (List ℕ)
dynamic_names_in index = map string_bytes index.dynamic_names.items

abbrev pub dynamic_names_among : List Standing → List (List ℕ)
dynamic_names_among ss = first_ones [] (flat_map names_at ss)

-- an index has the last bearer of each URI, of each anchor and of each dynamic anchor among the schema places, and nothing else, and the
-- names of the dynamic anchors
pub record Indexes (index : Index) (all : List Located) : Type 0 where
  pub by_uri : (uri : List ℕ) → bearer_in index uri ≡ option_map kept_of (last_located (bears uri) all)
  pub by_anchor : (base name : List ℕ) → anchored_in index base name ≡ option_map kept_of (last_located (bears_anchor anchors base name) all)
  pub by_dynamic_anchor : (base name : List ℕ) → dynamically_anchored_in index base name ≡ option_map kept_of (last_located (bears_anchor dynamic_anchors base name) all)
  pub dynamic_names : dynamic_names_in index ≡ dynamic_names_among (map (λ l. l.standing) all)

-- an index is of documents, whatever was told of meta-schemas when it was built
abbrev pub IsIndexed : List Document → Index → Type 0
IsIndexed documents index = (meta : List ℕ → Option Dialect) × Indexes index (located_standings meta documents)
