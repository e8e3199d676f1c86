-- Rows of keywords, where their patterns are made.
use Rattle.std.proofs.Common.{◌≡◌, ◌∙◌, refl, sym, ap, subst, ℕ, List, [], ◌∷◌, Bool, true, false, true≢false, codes, Bor, Some}
use Rattle.std.specs.Prelude.{if◌then◌else◌}
use Rattle.serde_json.specs.Data.{Data}
use Rattle.serde_json.specs.Find.{as_str}
use Rattle.schema_meaning.specs.Members.{In, first, later}
use Rattle.schema_meaning.specs.Keywords.{pattern}
use Rattle.schema_definitions.specs.Rows.{Row, Context, BuildCause, bad_pattern, place_at, at, assertion, is_made, pattern_row, reads, refused}
use Rattle.applicators.specs.Made.{is_made_by}
use Rattle.schema_sites.specs.Read.{row_of, patterns_in, IsRowOf}
use Rattle.schema_sites.specs.Arms.{one_pattern_row}
use Rattle.schema_sites.specs.declared.keyword.Keyword.{Keyword}
use Rattle.schema_sites.specs.declared.keyword.Keyword.TheVariants.{Pattern}

none-in : {P : Type 0} {p : List ℕ} → In p [] → P
none-in i = elim i [ ]

in-one : {p q : List ℕ} → In p (q ∷ []) → p ≡ q
in-one first = refl
in-one (later i) = none-in i

-- a keyword without patterns
pub plain-row : (x : Context) (n : List ℕ) (row : Row) (k : Keyword) → patterns_in k ≡ [] → row ≡ row_of x.documents x.site k → IsRowOf x n row k
plain-row x n row k none is = record {
  made = λ m. is;
  right = λ r. record { each = λ p i. none-in (subst (λ (ps : List (List ℕ)). In p ps) none i) };
  bad = λ p i b. none-in (subst (λ (ps : List (List ℕ)). In p ps) none i);
}

pub same-row : (x : Context) (n : List ℕ) (row other : Row) (k : Keyword) → row ≡ other → IsRowOf x n other k → IsRowOf x n row k
same-row x n row other k e h = subst (λ (r : Row). IsRowOf x n r k) (sym e) h

pub same-keyword : (x : Context) (n : List ℕ) (row : Row) (k l : Keyword) → k ≡ l → IsRowOf x n row l → IsRowOf x n row k
same-keyword x n row k l e h = subst (λ (w : Keyword). IsRowOf x n row w) (sym e) h

-- ---- `pattern`

none-right : {P : Type 0} (b : BuildCause) → b ∷ [] ≡ [] → P
none-right b e = absurd (cc (e))

by-made : (x : Context) (p : Bor (List ℕ)) (b : Bool) → is_made x p.now ≡ b
    → IsRowOf x (codes "pattern") (if b then reads [] (assertion (pattern p.now)) else refused (bad_pattern (place_at x (at (codes "pattern"))) ∷ [])) (Pattern p)
by-made x p true e = record {
  made = λ m. refl;
  right = λ r. record { each = λ q i. subst (λ (t : List ℕ). is_made_by x.makes t ≡ true) (sym (in-one i)) e };
  bad = λ q i no. absurd (true≢false (sym (subst (λ (t : List ℕ). is_made_by x.makes t ≡ true) (sym (in-one i)) e) ∙ no));
}
by-made x p false e = record {
  made = λ m. absurd (true≢false (sym (m.each p.now first) ∙ e));
  right = λ r. none-right (bad_pattern (place_at x (at (codes "pattern")))) r;
  bad = λ q i no. first;
}

pub pattern-read : (x : Context) (d : Data) (p : Bor (List ℕ)) → as_str d ≡ Some p.now → IsRowOf x (codes "pattern") (one_pattern_row x d) (Pattern p)
pattern-read x d p e =
    same-row x (codes "pattern") (one_pattern_row x d) (pattern_row x (codes "pattern") (Some p.now)) (Pattern p) (ap (pattern_row x (codes "pattern")) e)
    (by-made x p (is_made x p.now) refl)
