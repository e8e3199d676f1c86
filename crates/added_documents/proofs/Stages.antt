-- The stages of documents to which others are added.
use Rattle.std.proofs.Common.{◌≡◌, ◌≤◌, ◌∙◌, ℕ, zero, suc, List, [], option_map, refl, sym, ap, arith}
use Rattle.schema_definitions.specs.Bearers.{Documents, bears, dialect_by, dialects, how_many, meta}
use Rattle.schema_definitions.specs.DocumentCauses.{told_anew}
use Rattle.document_laws.specs.Stages.{AtRest}
use Rattle.document_laws.proofs.Resting.{rest_stays}
use Rattle.document_laws.proofs.Told.{only_rest_tells_none_anew}
use Rattle.added_documents.specs.Added.{Joined, neither, one_kept, one_added, EachNamedBy, IsToldAlike}
use Rattle.added_documents.specs.DocumentLaws.{IsNeverAdded, DialectsStay}
use Rattle.added_documents.proofs.Drafts.{all_follow}
use Rattle.added_documents.proofs.Joining.{joined_last}
use Rattle.added_documents.proofs.Walking.{same_last}

-- ---- together they name no fewer

no_fewer : (old more new : Documents) → Joined old more new → how_many old ≤ how_many new
no_fewer _ _ _ neither = omega arith
no_fewer _ more _ (one_kept {old = old} {new = new} d j) = omega (arith, no_fewer old more new j)
no_fewer old _ _ (one_added {more = more} {new = new} d j) = omega (arith, no_fewer old more new j)

module _ (old more new : Documents) (joined : Joined old more new) (never : EachNamedBy (IsNeverAdded more new) old) where
  one_stage : (n : ℕ) → EachNamedBy (IsToldAlike (dialects old n) (dialects new n)) old → (t : List ℕ) → IsNeverAdded more new t
      → IsToldAlike (dialects old (suc n)) (dialects new (suc n)) t
  unfolding dialects
  one_stage n alike t h uri e =
      ap (option_map dialect_by)
      (joined_last (bears uri) (dialects new n) old more new joined (h uri e n)
      ∙ same_last (dialects old n) (dialects new n) (bears uri) old alike)

  first_stage : (t : List ℕ) → IsNeverAdded more new t → IsToldAlike (dialects old zero) (dialects new zero) t
  unfolding dialects
  first_stage t h uri e = refl

  each_stage : (n : ℕ) → EachNamedBy (IsToldAlike (dialects old n) (dialects new n)) old
  each_stage zero = all_follow (IsNeverAdded more new) (IsToldAlike (dialects old zero) (dialects new zero)) first_stage old never
  each_stage (suc n) =
      all_follow (IsNeverAdded more new) (IsToldAlike (dialects old (suc n)) (dialects new (suc n))) (one_stage n (each_stage n)) old never

  -- the last stage of all tells what the last of the old documents tells
  last_stage : told_anew old ≡ [] → (uri : List ℕ) → dialects old (suc (how_many new)) uri ≡ meta old uri
  last_stage settled uri =
      let law = only_rest_tells_none_anew old in
      let rest : AtRest old (how_many old) = law.rests (how_many old) (sym law.last ∙ settled) in
      rest_stays old (how_many old) rest (suc (how_many new)) (omega (arith, no_fewer old more new joined)) uri

  all_stages : told_anew old ≡ [] → EachNamedBy (IsToldAlike (meta old) (meta new)) old
  all_stages settled =
      all_follow (IsToldAlike (dialects old (suc (how_many new))) (dialects new (suc (how_many new)))) (IsToldAlike (meta old) (meta new))
      (λ t h uri e. h uri e ∙ last_stage settled uri) old (each_stage (suc (how_many new)))

pub dialects_stay : DialectsStay
dialects_stay old more new joined settled never = all_stages old more new joined never settled
