-- Documents, the JSON Pointers of their schema places, and the references by which these are looked up.
use Rattle.std.specs.Prelude.{◌≡◌, ℕ, List, [], ◌∷◌, false, map, codes}
use Rattle.schema_drafts.specs.declared.draft.Draft.{Draft}
use Rattle.schema_drafts.specs.declared.draft.Draft.TheVariants.{Draft7, Draft202012}
use Rattle.schema_definitions.specs.Places.{standard}
use Rattle.schema_definitions.specs.Bearers.{Document}
use Rattle.schema_registries.specs.Pointers.{pointers_of, reference_to}
use Rattle.worked_examples.specs.DocumentTexts.{document}

pub record Pointed : Type 0 where
  pub draft : Draft
  pub text : List ℕ
  pub pointers : List (List ℕ × List ℕ)

abbrev pub told_of : Document → List (List ℕ × List ℕ)
told_of d = map (λ k. (k, reference_to k)) (pointers_of (d ∷ []) d)

abbrev pub HasPointers : Pointed → Type 0
HasPointers p = told_of (document 0 (standard false p.draft) (codes "http://a.test/d", p.text)) ≡ p.pointers

abbrev pub pointed : List Pointed
pointed =
    record {
      draft = Draft202012;
      text = codes "{\"$ref\":\"#/$defs/node\",\"$defs\":{\"node\":{\"type\":\"object\",\"properties\":{\"next\":{\"$ref\":\"#/$defs/node\"},\"v\":{\"type\":\"integer\"}}}}}";
      pointers = ([], codes "#") ∷ (codes "/$defs/node", codes "#/$defs/node") ∷ (codes "/$defs/node/properties/next", codes "#/$defs/node/properties/next")
          ∷ (codes "/$defs/node/properties/v", codes "#/$defs/node/properties/v") ∷ [];
    }
    ∷ record { draft = Draft202012; text = codes "{\"properties\":{\"a/b%\":true,\"c\":5}}"; pointers = ([], codes "#") ∷ (codes "/properties/a~1b%", codes "#/properties/a~1b%25") ∷ [] }
    ∷ record {
      draft = Draft7;
      text = codes "{\"$ref\":\"#\",\"not\":{},\"definitions\":{\"a\":{\"items\":[{},5]}}}";
      pointers = ([], codes "#") ∷ (codes "/definitions/a", codes "#/definitions/a") ∷ (codes "/definitions/a/items/0", codes "#/definitions/a/items/0") ∷ [];
    }
    ∷ record { draft = Draft202012; text = codes "false"; pointers = ([], codes "#") ∷ [] }
    ∷ []
