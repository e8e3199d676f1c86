-- What is left of a path's text behind its first parts.
use Rattle.std.specs.Prelude.{◌≡◌, ◌++◌, ℕ, List, [], ◌∷◌, Option, Some, None}
use Rattle.std.specs.Borrow.{Bor}
use Rattle.json_values.specs.Parts.{Part, name, index}
use Rattle.schema_definitions.specs.PathTexts.{path_text}
use Rattle.certificate_laws.specs.Words.{IsRest}
use Rattle.fault_paths.specs.Texts.{text_left}
use Rattle.applicators.specs.declared.subschema.Entry.{Entry}
use Rattle.applicators.specs.declared.subschema.Entry.TheVariants as entry

-- the parts behind the keyword's name, last part first
abbrev pub entry_parts : Entry → List Part
entry_parts entry.Whole = []
entry_parts (entry.Name n) = name n.now ∷ []
entry_parts (entry.Index i) = index i ∷ []

-- no path that begins by these parts is written so
pub record BeginsOtherwise (parts : List Part) (text : List ℕ) : Type 0 where
  pub none : (rest : List ℕ) → IsRest rest → text ≡ path_text parts ++ rest → ⊥

abbrev pub LeavesBehind : List Part → List ℕ → Option (Option (Bor (List ℕ))) → Type 0
LeavesBehind parts text None = BeginsOtherwise parts text
LeavesBehind parts text (Some left) = text ≡ path_text parts ++ text_left left
