use Rattle.std.proofs.Common.{◌≡◌, ◌∙◌, ℕ, List, sym, ap, subst, map}
use Rattle.std.specs.List.{flat_map}
use Rattle.schema_definitions.specs.Bearers.{Documents, standings, meta}
use Rattle.schema_definitions.specs.DocumentCauses.{told_anew, place_causes}
use Rattle.schema_dialects.specs.Dialects.{dialects_in}
use Rattle.document_index.specs.Seen.{standing_of}
use Rattle.document_index.specs.Indexes.{Indexes}
use Rattle.document_index.specs.Checked.{borne_in, unknown_by, causes_at}
use Rattle.document_index.specs.Named.{NamesOne}
use Rattle.document_index.specs.Surveys.{Surveys}
use Rattle.document_index.specs.declared.survey.Survey.{Survey}
use Rattle.document_index.proofs.CauseNames.{kept, named-before, named-behind, nothing-before}
use Rattle.document_index.proofs.CauseLemmas.{causes_by}
use Rattle.document_index.proofs.LocatedLemmas.{stand-located, located-same}
use Rattle.document_index.proofs.survey.Survey.into_prepared.Goals as goal

module _ (s : Survey) (docs : Documents) (surveys : Surveys s docs) where
  there : map standing_of s.places.items ≡ standings (meta docs) docs
  there = stand-located (meta docs) docs s.places.items surveys.stand

  same : flat_map (causes_at (borne_in s.index) (unknown_by docs)) (map standing_of s.places.items) ≡ flat_map (place_causes docs) (standings (meta docs) docs)
  same = ap (flat_map (causes_at (borne_in s.index) (unknown_by docs))) there ∙ causes_by s.index docs surveys.indexes

pub returns-in_err-known-clause-refused : goal.returns-in_err-known-clause-refused
returns-in_err-known-clause-refused c =
    let e = c.in_err-known.field-0.0 in
    kept c.from_residual.result e _ c.from_residual.ensures.1
    (λ docs surveys. named-before (told_anew docs) (flat_map (place_causes docs) (standings (meta docs) docs)) e (c.in_err-known.ensures.refused docs surveys.anew))

pub returns-in_err-check_places-clause-refused : goal.returns-in_err-check_places-clause-refused
returns-in_err-check_places-clause-refused c =
    let e = c.in_err-check_places.field-0.0 in
    let s = c.args.self in
    let seen = ap (map standing_of) c.deref.ensures.value in
    kept c.from_residual-in_err-check_places.result e _ c.from_residual-in_err-check_places.ensures.1
    (λ docs surveys. named-behind (told_anew docs) (flat_map (place_causes docs) (standings (meta docs) docs)) e
    (subst (λ cs. NamesOne cs e) (ap (flat_map (causes_at (borne_in s.index) (unknown_by docs))) seen ∙ same s docs surveys)
    (c.in_err-check_places.ensures.refused docs (seen ∙ there s docs surveys))))

pub returns-clause-ok : goal.returns-clause-ok
returns-clause-ok c = λ docs surveys.
    let s = c.args.self in
    let known = c.in_ok-known.known in
    let seen = ap (map standing_of) c.deref.ensures.value in
    let is = c.in_ok-known.ensures.known in
    let told : (uri : List ℕ) → dialects_in known uri ≡ meta docs uri = λ uri. ap (λ k. dialects_in k uri) is ∙ surveys.tells uri in
    let none = sym (ap (flat_map (causes_at (borne_in s.index) (unknown_by docs))) seen ∙ same s docs surveys) ∙ c.in_ok-check_places.ensures.ok docs (seen ∙ there s docs surveys) in
    record {
      told = told;
      indexed = subst (Indexes s.index) (sym (located-same (meta docs) (dialects_in known) told docs)) surveys.indexes;
      accepted = nothing-before (told_anew docs) (flat_map (place_causes docs) (standings (meta docs) docs)) (c.in_ok-known.ensures.ok docs surveys.anew) none;
    }
