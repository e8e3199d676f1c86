-- Questions that lead on from the same texts.
use Rattle.std.proofs.Common.{◌≡◌, ◌∙◌, ◌++◌, ◌<◌, ◌^◌, ℕ, List, [], ◌∷◌, All, sym, ap, append-nil}
use Rattle.std.proofs.lemmas.Fmt.{decimal_injective}
use Rattle.serde_json.specs.Data.{Data}
use Rattle.serde_json.specs.Find.{unescape}
use Rattle.json_values.specs.Parts.{Part, name, index}
use Rattle.json_values.specs.Pointers.{escape, part_text}
use Rattle.json_pointers.proofs.EscapeLemmas.{unescape-escape}
use Rattle.schema_meaning.specs.Places.{Step, path_after, to_item, to_member}
use Rattle.schema_meaning.specs.Questions.{Question, at, at_name, at_index}
use Rattle.schema_definitions.specs.PathTexts.{path_text}
use Rattle.certificate_laws.specs.Words.{IsRest}
use Rattle.certificate_laws.proofs.Cuts.{NotSlash, cut_is, cuts_first, escape_no_slash, index_no_slash}
use Rattle.fault_paths.proofs.TextFacts.{tail_is, behind_same}
use Rattle.fault_paths.proofs.AddedFacts.{part_behind}

-- two questions lead on from the same texts
pub record AreAlike {S : Type 0} (q p : Question S) : Type 0 where
  pub instance : List ℕ
  pub evaluation : List ℕ
  pub i : List ℕ
  pub e : List ℕ
  pub j : List ℕ
  pub f : List ℕ
  pub rest_i : IsRest i
  pub rest_e : IsRest e
  pub rest_j : IsRest j
  pub rest_f : IsRest f
  pub at_q : instance ≡ path_text (path_after [] q.step) ++ i
  pub on_q : evaluation ≡ path_text q.added ++ e
  pub at_p : instance ≡ path_text (path_after [] p.step) ++ j
  pub on_p : evaluation ≡ path_text p.added ++ f

module _ (a b : Part) (i j : List ℕ) where
  -- texts that are the same begin by the same part
  pub same_part : All NotSlash (part_text a) → All NotSlash (part_text b) → IsRest i → IsRest j → path_text (a ∷ []) ++ i ≡ path_text (b ∷ []) ++ j → part_text a ≡ part_text b
  same_part clean tidy r s same =
      let behind : part_text a ++ i ≡ part_text b ++ j =
      ap (λ t. t ++ i) (sym (append-nil (part_text a))) ∙ tail_is 47 _ _ same ∙ ap (λ t. t ++ j) (append-nil (part_text b)) in
      (cut_is (part_text a ++ i) (part_text a) i (part_text b) j (cuts_first (part_text a) i clean r) r tidy s behind).0

  pub same_behind : (k : List ℕ) → All NotSlash (part_text a) → All NotSlash (part_text b) → IsRest i → IsRest j → path_text (a ∷ at k) ++ i ≡ path_text (b ∷ at k) ++ j
      → part_text a ≡ part_text b
  same_behind k clean tidy r s same = same_part clean tidy r s (behind_same (path_text (at k)) _ _ (sym (part_behind k a i) ∙ same ∙ part_behind k b j))

same_name : (n m : List ℕ) → escape n ≡ escape m → n ≡ m
same_name n m e = sym (unescape-escape n) ∙ ap unescape e ∙ unescape-escape m

module _ {S : Type 0} (q p : Question S) (h : AreAlike q p) where
  steps : (x y : Step) → q.step ≡ x → p.step ≡ y → path_text (path_after [] x) ++ h.i ≡ path_text (path_after [] y) ++ h.j
  steps x y on to = ap (λ (s : Step). path_text (path_after [] s) ++ h.i) (sym on) ∙ sym h.at_q ∙ h.at_p ∙ ap (λ (s : Step). path_text (path_after [] s) ++ h.j) to

  added : (x y : List Part) → q.added ≡ x → p.added ≡ y → path_text x ++ h.e ≡ path_text y ++ h.f
  added x y on to = ap (λ (t : List Part). path_text t ++ h.e) (sym on) ∙ sym h.on_q ∙ h.on_p ∙ ap (λ (t : List Part). path_text t ++ h.f) to

  pub same_items : (n m : ℕ) (x y : Data) → n < 2 ^ 64 → m < 2 ^ 64 → q.step ≡ to_item n x → p.step ≡ to_item m y → n ≡ m
  same_items n m x y fits short on to =
      decimal_injective n m fits short
      (same_part (index n) (index m) h.i h.j (index_no_slash n fits) (index_no_slash m short) h.rest_i h.rest_j (steps (to_item n x) (to_item m y) on to))

  pub same_members : (n m : List ℕ) (x y : Data) → q.step ≡ to_member n x → p.step ≡ to_member m y → n ≡ m
  same_members n m x y on to =
      same_name n m (same_part (name n) (name m) h.i h.j (escape_no_slash n) (escape_no_slash m) h.rest_i h.rest_j (steps (to_member n x) (to_member m y) on to))

  pub same_indexes : (k : List ℕ) (n m : ℕ) → n < 2 ^ 64 → m < 2 ^ 64 → q.added ≡ at_index k n → p.added ≡ at_index k m → n ≡ m
  same_indexes k n m fits short on to =
      decimal_injective n m fits short
      (same_behind (index n) (index m) h.e h.f k (index_no_slash n fits) (index_no_slash m short) h.rest_e h.rest_f (added (at_index k n) (at_index k m) on to))

  pub same_names : (k n m : List ℕ) → q.added ≡ at_name k n → p.added ≡ at_name k m → n ≡ m
  same_names k n m on to =
      same_name n m (same_behind (name n) (name m) h.e h.f k (escape_no_slash n) (escape_no_slash m) h.rest_e h.rest_f (added (at_name k n) (at_name k m) on to))
