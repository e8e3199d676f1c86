-- Questions on vocabularies, and on those of them that the drafts know.
use Rattle.std.proofs.Common.{◌≡◌, ◌∙◌, ℕ, List, Bool, true, false, ◌||◌, ◌&&◌, not, refl, sym, ap, codes, bytes_eq}
use Rattle.std.proofs.lemmas.Bool.{false≢true}
use Rattle.schema_drafts.specs.Drafts.{is_listed, ignores_siblings}
use Rattle.schema_drafts.specs.Counts.{is_keyword, references, applicators, unevaluated_ones, validations, in_vocabularies, counts}
use Rattle.schema_drafts.specs.Vocabularies.{Vocabularies, only, has_some, is_applicator, is_unevaluated, is_validation}
use Rattle.schema_drafts.specs.declared.draft.Draft.{Draft}
use Rattle.schema_drafts.specs.declared.draft.Draft.TheVariants.{Draft4, Draft6, Draft7, Draft201909, Draft202012, Unknown}
use Rattle.schema_dialects.specs.Sets.{required, listed, without_siblings}
use Rattle.schema_dialects.specs.declared.known.KnownVocabularies.{KnownVocabularies}
use Rattle.schema_dialects.specs.declared.set.VocabularySet.{VocabularySet}
use Rattle.schema_dialects.proofs.Listed.{is_marked, any_known}

-- a second test is asked only where the first holds
pub and_then : (a b r x : Bool) → r ≡ a → r ≡ true → x ≡ b → x ≡ (a && b)
and_then true b r x first holds second = second
and_then false b true x first holds second = absurd (false≢true (sym first))
and_then false b false x first holds second = absurd (false≢true holds)

pub marked_applicator : (k : KnownVocabularies) → k.applicator ≡ has_some is_applicator (only (required k))
marked_applicator k = is_marked is_applicator k.applicator k refl

pub marked_unevaluated : (k : KnownVocabularies) → k.unevaluated ≡ has_some is_unevaluated (only (required k))
marked_unevaluated k = is_marked is_unevaluated k.unevaluated k refl

pub marked_validation : (k : KnownVocabularies) → k.validation ≡ has_some is_validation (only (required k))
marked_validation k = is_marked is_validation k.validation k refl

-- the questions on whether a keyword counts
abbrev by_questions : Bool → Bool → Bool → List ℕ → Bool
by_questions a u v k = is_listed k references || (is_listed k applicators && a) || (is_listed k unevaluated_ones && u) || (is_listed k validations && v)

module _ (vs ws : Vocabularies) (a : has_some is_applicator vs ≡ has_some is_applicator ws)
    (u : has_some is_unevaluated vs ≡ has_some is_unevaluated ws) (v : has_some is_validation vs ≡ has_some is_validation ws) where
  in_alike : (draft : Draft) (k : List ℕ) → in_vocabularies draft vs k ≡ in_vocabularies draft ws k
  in_alike Draft4 k = refl
  in_alike Draft6 k = refl
  in_alike Draft7 k = refl
  in_alike Draft201909 k =
      ap (λ x. by_questions x x (has_some is_validation vs) k) a ∙ ap (λ x. by_questions (has_some is_applicator ws) (has_some is_applicator ws) x k) v
  in_alike Draft202012 k =
      ap (λ x. by_questions x (has_some is_unevaluated vs) (has_some is_validation vs) k) a
      ∙ ap (λ x. by_questions (has_some is_applicator ws) x (has_some is_validation vs) k) u
      ∙ ap (λ x. by_questions (has_some is_applicator ws) (has_some is_unevaluated ws) x k) v
  in_alike Unknown k =
      ap (λ x. by_questions x (has_some is_unevaluated vs) (has_some is_validation vs) k) a
      ∙ ap (λ x. by_questions (has_some is_applicator ws) x (has_some is_validation vs) k) u
      ∙ ap (λ x. by_questions (has_some is_applicator ws) (has_some is_unevaluated ws) x k) v

  count_alike : (draft : Draft) (beside_ref : Bool) (k : List ℕ) → counts (without_siblings draft vs) beside_ref k ≡ counts (without_siblings draft ws) beside_ref k
  count_alike draft beside_ref k =
      ap (λ x. is_keyword draft k && x && (not (ignores_siblings false draft && beside_ref) || bytes_eq k (codes "$ref"))) (in_alike draft k)

-- no keyword is of a custom one
pub known_count : (s : VocabularySet) (draft : Draft) (beside_ref : Bool) (k : List ℕ)
    → counts (without_siblings draft (only (required s.known))) beside_ref k ≡ counts (without_siblings draft (only (listed s))) beside_ref k
known_count s draft beside_ref k =
    count_alike (only (required s.known)) (only (listed s)) (any_known is_applicator s (λ uri. refl)) (any_known is_unevaluated s (λ uri. refl)) (any_known is_validation s (λ uri. refl)) draft
    beside_ref k
