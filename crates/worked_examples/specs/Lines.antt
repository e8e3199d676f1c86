-- Lines, and what is written for them.
use Rattle.std.specs.Prelude.{◌≡◌, ℕ, List, [], ◌∷◌, true, false, codes, Option, Some, None, option_map, Result, Ok, Err}
use Rattle.serde_json.specs.Data.{Data}
use Rattle.schema_drafts.specs.declared.draft.Draft.TheVariants.{Draft202012}
use Rattle.schema_definitions.specs.Bearers.{Documents}
use Rattle.schema_definitions.specs.Lookup.{LookupCause, Target, lookup}
use Rattle.schema_meaning.specs.Places.{whole}
use Rattle.schema_meaning.specs.Readings.{bags, told}
use Rattle.schema_definitions.specs.Sites.{root_site}
use Rattle.schema_definitions.specs.Plain.{plain}
use Rattle.schema_definitions.specs.Lines.{faults_text, line_value, lines_of}
use Rattle.worked_examples.specs.DocumentTexts.{documents}

abbrev pub value_text : Documents → ℕ → Option Data → Result Target LookupCause → Option (List ℕ)
value_text docs n None t = Some (codes "null")
value_text docs n (Some d) (Ok t) = option_map faults_text (told bags (plain docs (λ p. true) (λ p t. false)) n (root_site t) (whole d))
value_text docs n (Some d) (Err e) = None

-- the text of a line under a root, with n unfoldings
abbrev pub text_of_line : Documents → ℕ → List ℕ → List ℕ → Option (List ℕ)
text_of_line docs n root text = value_text docs n (line_value text) (lookup docs (codes "json-schema:///") root)

abbrev pub two_documents : Documents
two_documents =
    documents Draft202012
    ((codes "http://a.test/root.json", codes "{\"$id\":\"http://a.test/root.json\",\"type\":\"array\",\"minItems\":2,\"items\":{\"$ref\":\"leaf.json\"}}")
    ∷ (codes "http://a.test/leaf.json", codes "{\"$id\":\"http://a.test/leaf.json\",\"type\":\"string\"}") ∷ [])

abbrev pub Written : List ℕ × List ℕ → Type 0
Written l = text_of_line two_documents 2 (codes "http://a.test/root.json") l.0 ≡ Some l.1

abbrev pub lines : List (List ℕ × List ℕ)
lines =
    (codes "[1]", codes "[[\"\",\"/minItems\"],[\"/0\",\"/items/$ref/type\"]]")
    ∷ (codes "[\"a\",\"b\"]", codes "[]")
    ∷ (codes "", codes "null")
    ∷ (codes "1.5", codes "null")
    ∷ []

-- an input of three lines, and one whose last line is not ended
abbrev pub InputsAreCut : Type 0
InputsAreCut =
    (lines_of (49 ∷ 10 ∷ 10 ∷ 50 ∷ 10 ∷ []) ≡ codes "1" ∷ [] ∷ codes "2" ∷ [])
    × (lines_of (49 ∷ 10 ∷ 50 ∷ []) ≡ codes "1" ∷ codes "2" ∷ [])
    × (lines_of [] ≡ [])
