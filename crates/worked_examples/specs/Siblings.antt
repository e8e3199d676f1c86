-- What stands beside `$ref` in Drafts 6 and 7, ignored and read; and documents of two layers, of which the upper counts first.
use Rattle.std.specs.Prelude.{◌≡◌, ℕ, List, [], ◌∷◌, ◌++◌, map, Bool, true, false, Some, codes, Result, Ok}
use Rattle.schema_drafts.specs.declared.draft.Draft.{Draft}
use Rattle.schema_drafts.specs.declared.draft.Draft.TheVariants.{Draft4, Draft6, Draft7, Draft202012}
use Rattle.schema_definitions.specs.Words.{result_map}
use Rattle.schema_definitions.specs.Places.{standard}
use Rattle.schema_definitions.specs.Bearers.{Documents}
use Rattle.schema_definitions.specs.Lookup.{LookupCause, Target, lookup}
use Rattle.worked_examples.specs.DocumentTexts.{document, line, spelled}

pub record Beside : Type 0 where
  pub draft : Draft
  pub siblings : Bool
  pub texts : List (List ℕ × List ℕ)
  pub root : List ℕ
  pub instance : List ℕ
  pub faults : List (List ℕ × List ℕ)

abbrev pub IsRead : Beside → Type 0
IsRead r = line (map (document 0 (standard r.siblings r.draft)) r.texts) 2 r.root r.instance ≡ Some r.faults

abbrev pub limit_beside : List (List ℕ × List ℕ)
limit_beside = (codes "json-schema:///", codes "{\"properties\":{\"x\":{\"$ref\":\"#/definitions/s\",\"minimum\":10}},\"definitions\":{\"s\":{\"type\":\"integer\"}}}") ∷ []

abbrev pub base_beside : List (List ℕ × List ℕ)
base_beside =
    (codes "http://a.test/r", codes "{\"properties\":{\"x\":{\"$id\":\"http://b.test/y/\",\"$ref\":\"z\"}}}")
    ∷ (codes "http://a.test/z", codes "{\"type\":\"integer\"}")
    ∷ (codes "http://b.test/y/z", codes "{\"type\":\"string\"}")
    ∷ []

abbrev pub besides : List Beside
besides =
    record { draft = Draft7; siblings = false; texts = limit_beside; root = []; instance = codes "{\"x\":3}"; faults = [] }
    ∷ record { draft = Draft7; siblings = true; texts = limit_beside; root = []; instance = codes "{\"x\":3}"; faults = (codes "/x", codes "/properties/x/minimum") ∷ [] }
    ∷ record { draft = Draft6; siblings = true; texts = limit_beside; root = []; instance = codes "{\"x\":3}"; faults = (codes "/x", codes "/properties/x/minimum") ∷ [] }
    ∷ record { draft = Draft4; siblings = true; texts = limit_beside; root = []; instance = codes "{\"x\":3}"; faults = [] }
    ∷ record { draft = Draft7; siblings = false; texts = base_beside; root = codes "http://a.test/r"; instance = codes "{\"x\":1}"; faults = [] }
    ∷ record { draft = Draft7; siblings = true; texts = base_beside; root = codes "http://a.test/r"; instance = codes "{\"x\":1}"; faults = (codes "/x", codes "/properties/x/$ref/type") ∷ [] }
    ∷ []

-- ---- two layers

pub record Layered : Type 0 where
  pub below : List (List ℕ × List ℕ)
  pub own : List (List ℕ × List ℕ)
  pub reference : List ℕ
  pub answer : List ℕ × List ℕ × List ℕ

abbrev pub layers_of : Layered → Documents
layers_of l = map (document 0 (standard false Draft202012)) l.below ++ map (document 1 (standard false Draft202012)) l.own

-- the document by its name, the path and the base
abbrev pub named_in : Target → List ℕ × List ℕ × List ℕ
named_in t = (t.document, spelled t.path, t.base)

abbrev pub LeadsTo : Layered → Type 0
LeadsTo l = result_map named_in (lookup (layers_of l) (codes "json-schema:///") l.reference) ≡ Ok l.answer

abbrev pub inside : List (List ℕ × List ℕ)
inside = (codes "http://m/a", codes "{\"$defs\":{\"x\":{\"$id\":\"http://m/x\"}}}") ∷ []

abbrev pub layered : List Layered
layered =
    record { below = inside; own = (codes "http://m/a", codes "true") ∷ []; reference = codes "http://m/x"; answer = (0 ∷ codes "http://m/a", codes "/$defs/x", codes "http://m/x") }
    ∷ record { below = inside; own = (codes "http://m/a", codes "true") ∷ []; reference = codes "http://m/a"; answer = (1 ∷ codes "http://m/a", [], codes "http://m/a") }
    ∷ record { below = inside; own = (codes "http://m/x", codes "true") ∷ []; reference = codes "http://m/x"; answer = (1 ∷ codes "http://m/x", [], codes "http://m/x") }
    ∷ []
