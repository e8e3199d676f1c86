-- What is named where there is no room for a document inside a root.
use Rattle.std.specs.Prelude.{◌≡◌, ℕ, List, ◌∷◌}
use Rattle.json_values.specs.Parts.{Part}
use Rattle.uri_references.specs.Identity.{identity_of}
use Rattle.schema_definitions.specs.Rows.{keyword_value}
use Rattle.reached_sites.specs.Causes.{NamesCause}
use Rattle.schema_registries.specs.Refused.{NamesUri}
use Rattle.schema_registries.specs.declared.error.DocumentError.TheVariants as document
use Rattle.schema_validators.specs.declared.error.BuildError.{BuildError}
use Rattle.schema_validators.specs.declared.error.BuildError.TheVariants as error

-- the text of the root's URI is none of a document
abbrev pub NamesRootUri : List ℕ → BuildError → Type 0
NamesRootUri uri (error.Document e) = NamesUri uri e × (e ≡ document.Memory → ⊥)
NamesRootUri uri (error.Registry e) = ⊥
NamesRootUri uri (error.Root e) = ⊥
NamesRootUri uri (error.Schema cause) = ⊥
NamesRootUri uri (error.MetaSchema e) = ⊥
NamesRootUri uri error.Memory = ⊥

-- a value in the root may not be there, or that
abbrev pub NamesWord : List ℕ → List Part → List ℕ → BuildError → Type 0
NamesWord uri path word (error.Document e) = NamesUri uri e × (e ≡ document.Memory → ⊥)
NamesWord uri path word (error.Registry e) = ⊥
NamesWord uri path word (error.Root e) = ⊥
NamesWord uri path word (error.Schema cause) = NamesCause (keyword_value (record { document = 0 ∷ identity_of uri; path = path }) word) cause
NamesWord uri path word (error.MetaSchema e) = ⊥
NamesWord uri path word error.Memory = ⊥
