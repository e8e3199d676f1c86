-- What is left of a text behind its first part.
use Rattle.std.proofs.Common.{◌≡◌, ◌∙◌, ◌++◌, ◌<◌, ◌^◌, ℕ, List, [], ◌∷◌, All, Bor, Option, None, Some, decimal, refl, sym, ap, append-nil, lt-ltb}
use Rattle.json_values.specs.Parts.{Part, name, index}
use Rattle.json_values.specs.Pointers.{escape, part_text, index_of, index_below}
use Rattle.json_pointers.proofs.PathLemmas.{index_of-decimal}
use Rattle.json_pointers.proofs.PointerLemmas.{index_below-Some}
use Rattle.schema_definitions.specs.PathTexts.{path_text}
use Rattle.certificate_laws.specs.Words.{cuts, cuts_behind}
use Rattle.certificate_laws.proofs.Cuts.{NotSlash, cut_is, cut_joined, escape_no_slash, index_no_slash, index_text}
use Rattle.fault_paths.specs.Texts.{text_left}
use Rattle.fault_paths.proofs.TextFacts.{rest_left, tail_is, no_part}
use Rattle.fault_paths.specs.Behind.{BeginsOtherwise}

pub nothing_begins : (p : Part) (text : List ℕ) → text ≡ [] → BeginsOtherwise (p ∷ []) text
nothing_begins p text none = record { none = λ rest r e. no_part 47 _ (sym e ∙ none) }

module _ (text token : List ℕ) (left : Option (Bor (List ℕ))) (cut : cuts text ≡ token ∷ cuts_behind (text_left left)) where
  leaves_part : (p : Part) → token ≡ part_text p → 47 ∷ text ≡ path_text (p ∷ []) ++ text_left left
  leaves_part p same = ap (λ t. 47 ∷ t) (cut_joined text token (text_left left) cut (rest_left left) ∙ ap (λ t. t ++ text_left left) (same ∙ sym (append-nil (part_text p))))

  begins_otherwise : (p : Part) → All NotSlash (part_text p) → (token ≡ part_text p → ⊥) → BeginsOtherwise (p ∷ []) (47 ∷ text)
  begins_otherwise p clean apart = record {
    none = λ rest r e. apart (cut_is text token (text_left left) (part_text p) rest cut (rest_left left) clean r (tail_is 47 _ _ e ∙ ap (λ t. t ++ rest) (append-nil (part_text p)))).0;
  }

  -- ---- a name

  pub leaves_name : (k : List ℕ) → token ≡ escape k → 47 ∷ text ≡ path_text (name k ∷ []) ++ text_left left
  leaves_name k same = leaves_part (name k) same

  pub name_otherwise : (k : List ℕ) → (token ≡ escape k → ⊥) → BeginsOtherwise (name k ∷ []) (47 ∷ text)
  name_otherwise k apart = begins_otherwise (name k) (escape_no_slash k) apart

  -- ---- an index

  read_as : (i : ℕ) → i < 2 ^ 64 → token ≡ decimal i → index_below (2 ^ 64) token ≡ Some i
  read_as i fits same = let is_index : index_of token ≡ Some i = ap index_of same ∙ index_of-decimal i fits in rw (is_index, lt-ltb i (2 ^ 64) fits) refl

  pub leaves_index : (i : ℕ) → i < 2 ^ 64 → index_below (2 ^ 64) token ≡ Some i → 47 ∷ text ≡ path_text (index i ∷ []) ++ text_left left
  leaves_index i fits read = leaves_part (index i) (index_text token i (index_below-Some token (2 ^ 64) i read) fits)

  pub no_index : (i : ℕ) → i < 2 ^ 64 → index_below (2 ^ 64) token ≡ None → BeginsOtherwise (index i ∷ []) (47 ∷ text)
  no_index i fits none = begins_otherwise (index i) (index_no_slash i fits) (λ same. let no : None ≡ Some i = sym none ∙ read_as i fits same in cc)

  pub index_otherwise : (i j : ℕ) → i < 2 ^ 64 → index_below (2 ^ 64) token ≡ Some j → (j ≡ i → ⊥) → BeginsOtherwise (index i ∷ []) (47 ∷ text)
  index_otherwise i j fits read apart = begins_otherwise (index i) (index_no_slash i fits) (λ same. apart (let both : Some j ≡ Some i = sym read ∙ read_as i fits same in cc))
