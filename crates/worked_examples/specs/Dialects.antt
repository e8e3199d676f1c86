-- Meta-schemas, and the vocabularies of the dialects that they give.
use Rattle.std.specs.Prelude.{◌≡◌, ℕ, List, [], ◌∷◌, Option, Some, None, codes, option_map}
use Rattle.schema_drafts.specs.Vocabularies.{Vocabularies, all_of_draft, only, core, validation}
use Rattle.schema_drafts.specs.declared.draft.Draft.TheVariants.{Draft202012}
use Rattle.schema_definitions.specs.Bearers.{meta}
use Rattle.worked_examples.specs.DocumentTexts.{documents}

pub record MetaSchema : Type 0 where
  pub text : List ℕ
  pub vocabularies : Option Vocabularies

abbrev pub Gives : MetaSchema → Type 0
Gives m = option_map (λ d. d.vocabularies) (meta (documents Draft202012 ((codes "http://a.test/m", m.text) ∷ [])) (codes "http://a.test/m")) ≡ m.vocabularies

-- a custom vocabulary does not stand among them, nor one twice
abbrev pub meta_schemas : List MetaSchema
meta_schemas =
    record { text = codes "{}"; vocabularies = Some all_of_draft }
    ∷ record {
      text = codes "{\"$vocabulary\":{\"http://a.test/vocab/own\":true,\"https://json-schema.org/draft/2020-12/vocab/validation\":true,\"https://json-schema.org/draft/2020-12/vocab/core\":true,\"https://json-schema.org/draft/2020-12/vocab/content\":false}}";
      vocabularies = Some (only (core ∷ validation ∷ []));
    }
    ∷ record {
      text = codes "{\"$vocabulary\":{\"https://json-schema.org/draft/2020-12/vocab/core\":true,\"https://json-schema.org/draft/2019-09/vocab/core\":true}}";
      vocabularies = Some (only (core ∷ []));
    }
    ∷ record { text = codes "{\"$schema\":\"http://a.test/n\"}"; vocabularies = None }
    ∷ []
