-- Sites that are alike read alike.
use Rattle.std.proofs.Common.{◌≡◌, ◌∙◌, ℕ, List, [], ◌∷◌, Bool, refl, sym, ap, subst}
use Rattle.std.specs.List.{AllZip, flat_map}
use Rattle.json_values.specs.Parts.{Part}
use Rattle.schema_definitions.specs.Bearers.{Documents}
use Rattle.schema_definitions.specs.CompileKeys.{scope_key}
use Rattle.schema_definitions.specs.Rows.{Row, rows_at}
use Rattle.schema_definitions.specs.Sites.{Site}
use Rattle.document_laws.proofs.Keys.{keys_decide}
use Rattle.document_laws.specs.ScopeLaws.{IsPresent}
use Rattle.reading_laws.proofs.SiteRows.{rows_in_alike}
use Rattle.linked_meanings.specs.Related.{RelatedShape}
use Rattle.reading_laws.proofs.Results.{zip_append}
use Rattle.reading_laws.specs.SiteLaws.{AreAlike, RowsAgree, ReadAlike, AlikeReadAlike, AlikeHaveKeywords}

-- a site with another scope and another schema path
abbrev moved : Site → List (List ℕ) → List Part → Site
moved s scope road = record { document = s.document; path = s.path; contents = s.contents; base = s.base; scope = scope; dialect = s.dialect; schema_path = road }

module _ (docs : Documents) (makes : List ℕ → Bool) (s t : Site) (a : AreAlike docs s t) where
  same_site : t ≡ moved s t.scope t.schema_path
  same_site = rw (a.document, a.path, a.contents, a.base, a.dialect) refl

  there : IsPresent s.base t.scope
  there = subst (λ b. IsPresent b t.scope) (sym a.base) a.there

  same_key : scope_key docs s.base s.scope ≡ scope_key docs s.base t.scope
  same_key = a.scope ∙ ap (λ b. scope_key docs b t.scope) (sym a.base)

  rows : AllZip (RowsAgree docs) (rows_at docs makes s) (rows_at docs makes (moved s t.scope t.schema_path))
  unfolding rows_at
  rows = rows_in_alike docs makes s t.scope t.schema_path a.here there (keys_decide docs s.base s.scope t.scope a.here there same_key) a.road s.contents

  pub read_alike : ReadAlike docs makes s t
  read_alike = record {
    rows = subst (λ (u : Site). AllZip (RowsAgree docs) (rows_at docs makes s) (rows_at docs makes u)) (sym same_site) rows;
  }

pub alike_read_alike : AlikeReadAlike
alike_read_alike = read_alike

same_keywords : (docs : Documents) (rs qs : List Row) → AllZip (RowsAgree docs) rs qs
    → AllZip (RelatedShape (AreAlike docs)) (flat_map (λ r. r.shapes) rs) (flat_map (λ r. r.shapes) qs)
same_keywords docs [] [] z = tt
same_keywords docs [] (q ∷ qs) z = absurd z
same_keywords docs (r ∷ rs) [] z = absurd z
same_keywords docs (r ∷ rs) (q ∷ qs) z =
    zip_append (RelatedShape (AreAlike docs)) r.shapes q.shapes (flat_map (λ x. x.shapes) rs) (flat_map (λ x. x.shapes) qs) z.0.shapes (same_keywords docs rs qs z.1)

pub alike_have_keywords : AlikeHaveKeywords
alike_have_keywords docs makes s t a = same_keywords docs (rows_at docs makes s) (rows_at docs makes t) (read_alike docs makes s t a).rows
