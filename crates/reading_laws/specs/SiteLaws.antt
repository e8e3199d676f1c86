-- What of a site the schemas reached from it depend on (Core 7.1, 8.2.3.2; 2019-09, Core 8.2.4.2).
use Rattle.std.specs.Prelude.{ℕ, ◌≡◌, List, Bool}
use Rattle.std.specs.List.{AllZip}
use Rattle.schema_definitions.specs.Bearers.{Documents}
use Rattle.schema_definitions.specs.Sites.{Site}
use Rattle.schema_definitions.specs.Rows.{BuildCause, Row, rows_at}
use Rattle.schema_definitions.specs.BuildCauses.{Reached, IsCauseOf}
use Rattle.schema_definitions.specs.CompileKeys.{scope_key}
use Rattle.schema_definitions.specs.Plain.{keywords_at}
use Rattle.document_laws.specs.ScopeLaws.{IsPresent}
use Rattle.linked_meanings.specs.Related.{RelatedShape}
use Rattle.reading_laws.specs.Spelled.{spelled}

-- sites of one place with one base, one dialect, one scope key and schema paths of one text; the rest of their scopes may differ
pub record AreAlike (docs : Documents) (s t : Site) : Type 0 where
  pub document : s.document ≡ t.document
  pub path : s.path ≡ t.path
  pub contents : s.contents ≡ t.contents
  pub base : s.base ≡ t.base
  pub dialect : s.dialect ≡ t.dialect
  pub road : spelled s.schema_path ≡ spelled t.schema_path
  pub scope : scope_key docs s.base s.scope ≡ scope_key docs t.base t.scope
  pub here : IsPresent s.base s.scope
  pub there : IsPresent t.base t.scope

abbrev pub AlikeIsEquivalence : Type 0
AlikeIsEquivalence =
    (docs : Documents)
    → ((s : Site) → IsPresent s.base s.scope → AreAlike docs s s)
    × ((s t : Site) → AreAlike docs s t → AreAlike docs t s)
    × ((s t u : Site) → AreAlike docs s t → AreAlike docs t u → AreAlike docs s u)

-- the same causes, leads that are alike one by one, and the same keywords over sites that are alike
pub record RowsAgree (docs : Documents) (r q : Row) : Type 0 where
  pub causes : r.causes ≡ q.causes
  pub leads : AllZip (AreAlike docs) r.leads q.leads
  pub shapes : AllZip (RelatedShape (AreAlike docs)) r.shapes q.shapes

-- what stands at two sites agrees row by row
pub record ReadAlike (docs : Documents) (makes : List ℕ → Bool) (s t : Site) : Type 0 where
  pub rows : AllZip (RowsAgree docs) (rows_at docs makes s) (rows_at docs makes t)

abbrev pub AlikeReadAlike : Type 0
AlikeReadAlike = (docs : Documents) (makes : List ℕ → Bool) (s t : Site) → AreAlike docs s t → ReadAlike docs makes s t

-- each site reached from s is alike to one reached from t
abbrev pub AlikeReachAlike : Type 0
AlikeReachAlike = (docs : Documents) (makes : List ℕ → Bool) (s t : Site) → AreAlike docs s t
    → (u : Site) → Reached docs makes s u → (v : Site) × Reached docs makes t v × AreAlike docs u v

abbrev pub AlikeHaveCauses : Type 0
AlikeHaveCauses = (docs : Documents) (makes : List ℕ → Bool) (s t : Site) → AreAlike docs s t
    → (c : BuildCause) → IsCauseOf docs makes s c → IsCauseOf docs makes t c

-- the same keywords over sites that are alike, in their order
abbrev pub AlikeHaveKeywords : Type 0
AlikeHaveKeywords = (docs : Documents) (makes : List ℕ → Bool) (s t : Site) → AreAlike docs s t
    → AllZip (RelatedShape (AreAlike docs)) (keywords_at docs makes s) (keywords_at docs makes t)
