-- What is reached from sites that are alike.
use Rattle.std.proofs.Common.{◌≡◌, ℕ, List, [], ◌∷◌, ◌++◌, Bool, refl, ap₂, subst}
use Rattle.std.specs.List.{AllZip, flat_map}
use Rattle.schema_meaning.specs.Members.{In, first, later}
use Rattle.schema_definitions.specs.Bearers.{Documents}
use Rattle.schema_definitions.specs.BuildCauses.{Reached, at_root, by_keyword, causes_at, IsCauseOf}
use Rattle.schema_definitions.specs.Rows.{BuildCause, Row, rows_at, identifier_causes}
use Rattle.schema_definitions.specs.Sites.{Site}
use Rattle.document_laws.proofs.Listed.{in_first, in_second, in_flat_map}
use Rattle.reading_laws.specs.SiteLaws.{AreAlike, RowsAgree, AlikeReachAlike, AlikeHaveCauses}
use Rattle.reading_laws.proofs.Reading.{read_alike}

-- the element beside one of a list
pub in_step : {A : Type 0} (R : A → A → Type 0) (x : A) (xs ys : List A) → AllZip R xs ys → In x xs → (y : A) × In y ys × R x y
in_step R x [] ys z i = elim i [ ]
in_step R x (w ∷ xs) [] z i = absurd z
in_step R x (w ∷ xs) (y ∷ ys) z first = (y, first, z.0)
in_step R x (w ∷ xs) (y ∷ ys) z (later i) = (let h = in_step R x xs ys z.1 i in (h.0, later h.1, h.2))

-- ---- what is wrong at a site

module _ (docs : Documents) (makes : List ℕ → Bool) (s : Site) where
  pub identifier_cause : (c : BuildCause) → In c (identifier_causes s) → In c (causes_at docs makes s)
  identifier_cause c i = in_first c (identifier_causes s) (flat_map (λ (r : Row). r.causes) (rows_at docs makes s)) i

  pub row_cause : (row : Row) (c : BuildCause) → In row (rows_at docs makes s) → In c row.causes → In c (causes_at docs makes s)
  row_cause row c i j =
      let rows = rows_at docs makes s in
      in_second c (identifier_causes s) (flat_map (λ (r : Row). r.causes) rows) (in_flat_map (λ (r : Row). r.causes) row rows c i j)

-- ---- what is wrong at sites that are alike

pub same_identifiers : (docs : Documents) (s t : Site) → AreAlike docs s t → identifier_causes s ≡ identifier_causes t
same_identifiers docs s t a = rw (a.document, a.path, a.contents, a.dialect) refl

pub one_causes : (docs : Documents) (rs qs : List Row) → AllZip (RowsAgree docs) rs qs → flat_map (λ (r : Row). r.causes) rs ≡ flat_map (λ (r : Row). r.causes) qs
one_causes docs [] [] z = refl
one_causes docs [] (q ∷ qs) z = absurd z
one_causes docs (r ∷ rs) [] z = absurd z
one_causes docs (r ∷ rs) (q ∷ qs) z = ap₂ (λ a b. a ++ b) z.0.causes (one_causes docs rs qs z.1)

pub same_causes : (docs : Documents) (makes : List ℕ → Bool) (s t : Site) → AreAlike docs s t → causes_at docs makes s ≡ causes_at docs makes t
same_causes docs makes s t a =
    ap₂ (λ here behind. here ++ behind) (same_identifiers docs s t a) (one_causes docs (rows_at docs makes s) (rows_at docs makes t) (read_alike docs makes s t a).rows)

-- ---- what is reached

module _ (docs : Documents) (makes : List ℕ → Bool) (s t : Site) (a : AreAlike docs s t) where
  abbrev Mirrored : Site → Type 0
  Mirrored u = (v : Site) × Reached docs makes t v × AreAlike docs u v

  reach_alike : (u : Site) → Reached docs makes s u → Mirrored u
  reach_alike _ at_root = (t, at_root, a)
  reach_alike _ (by_keyword {s = u} row x r i j) =
      let h = reach_alike u r in
      let row' = in_step (RowsAgree docs) row (rows_at docs makes u) (rows_at docs makes h.0) (read_alike docs makes u h.0 h.2).rows i in
      let x' = in_step (AreAlike docs) x row.leads row'.0.leads row'.2.leads j in
      (x'.0, by_keyword row'.0 x'.0 h.1 row'.1 x'.1, x'.2)

  have_causes : (c : BuildCause) → IsCauseOf docs makes s c → IsCauseOf docs makes t c
  have_causes c w =
      let h = reach_alike w.site w.reached in
      record { site = h.0; reached = h.1; wrong = subst (λ (cs : List BuildCause). In c cs) (same_causes docs makes w.site h.0 h.2) w.wrong }

pub alike_reach_alike : AlikeReachAlike
alike_reach_alike = reach_alike

pub alike_have_causes : AlikeHaveCauses
alike_have_causes = have_causes
