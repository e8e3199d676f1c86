-- The last standing that passes, where none of an added document does.
use Rattle.std.proofs.Common.{◌≡◌, ◌∙◌, ℕ, List, Bool, Option, None, refl, sym, ap}
use Rattle.std.specs.List.{flat_map}
use Rattle.schema_definitions.specs.Words.{or_else, last_that}
use Rattle.schema_definitions.specs.Places.{Dialect}
use Rattle.schema_definitions.specs.Bearers.{Documents, Standing, standing_in, standings, last_standing}
use Rattle.added_documents.specs.Added.{Joined, neither as none_left, one_kept, one_added}
use Rattle.added_documents.proofs.Lists.{or_else_none, neither, last_of_both}

module _ (test : Standing → Bool) (meta : List ℕ → Option Dialect) where
  abbrev last_in : Documents → Option Standing
  last_in docs = last_that test (flat_map (standing_in meta) docs)

  mixed_last : (old more new : Documents) → Joined old more new → last_in more ≡ None → last_in new ≡ last_in old
  mixed_last _ _ _ none_left e = refl
  mixed_last _ more _ (one_kept {old = old} {new = new} d j) e =
      last_of_both test (standing_in meta d) (flat_map (standing_in meta) new)
      ∙ ap (λ o. or_else o (last_that test (standing_in meta d))) (mixed_last old more new j e)
      ∙ sym (last_of_both test (standing_in meta d) (flat_map (standing_in meta) old))
  mixed_last old _ _ (one_added {more = more} {new = new} d j) e =
      let both = neither (last_in more) (last_that test (standing_in meta d)) (sym (last_of_both test (standing_in meta d) (flat_map (standing_in meta) more)) ∙ e) in
      last_of_both test (standing_in meta d) (flat_map (standing_in meta) new)
      ∙ ap (λ o. or_else (last_in new) o) both.other
      ∙ or_else_none (last_in new)
      ∙ mixed_last old more new j both.one

  pub joined_last : (old more new : Documents) → Joined old more new → last_standing test meta more ≡ None → last_standing test meta new ≡ last_standing test meta old
  unfolding standings
  joined_last old more new j e = mixed_last old more new j e
