-- The texts that the parts behind a keyword's name add.
use Rattle.std.proofs.Common.{◌≡◌, ◌∙◌, ◌++◌, ℕ, List, [], ◌∷◌, refl, ap, append-nil, append_assoc}
use Rattle.json_values.specs.Parts.{Part}
use Rattle.json_values.specs.Pointers.{escape}
use Rattle.schema_meaning.specs.Questions.{at}
use Rattle.schema_definitions.specs.PathTexts.{path_text}
use Rattle.certificate_laws.proofs.Parts.{path_text-append}
use Rattle.applicators.specs.Shapes.{added_at}
use Rattle.applicators.specs.declared.subschema.Entry.{Entry}
use Rattle.applicators.specs.declared.subschema.Entry.TheVariants as entry
use Rattle.fault_paths.specs.Behind.{entry_parts}

pub keyword_text : (k : List ℕ) → path_text (at k) ≡ 47 ∷ escape k
keyword_text k = ap (λ t. 47 ∷ t) (append-nil (escape k))

-- the keyword's name, and then what the entry adds
pub added_parts : (k : List ℕ) (e : Entry) → added_at k e ≡ entry_parts e ++ at k
added_parts k entry.Whole = refl
added_parts k (entry.Name n) = refl
added_parts k (entry.Index i) = refl

pub added_text : (k : List ℕ) (e : Entry) → path_text (added_at k e) ≡ 47 ∷ (escape k ++ path_text (entry_parts e))
added_text k e =
    ap path_text (added_parts k e) ∙ path_text-append (entry_parts e) (at k) ∙ ap (λ t. t ++ path_text (entry_parts e)) (keyword_text k)

pub part_behind : (k : List ℕ) (p : Part) (rest : List ℕ) → path_text (p ∷ at k) ++ rest ≡ path_text (at k) ++ (path_text (p ∷ []) ++ rest)
part_behind k p rest = ap (λ t. t ++ rest) (path_text-append (p ∷ []) (at k)) ∙ append_assoc (path_text (at k)) (path_text (p ∷ [])) rest
