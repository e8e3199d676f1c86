-- Keywords that only assert, where their names count.
use Rattle.std.proofs.Common.{◌≡◌, ◌∙◌, refl, sym, ap, subst, ℕ, List, [], ◌∷◌, ◌++◌, Bool, true, false, true≢false, ◌&&◌, ◌||◌, bytes_eq, codes, if◌then◌else◌, Option, Some, None, IfSome}
use Rattle.std.proofs.lemmas.Slice.Eq.{bytes_eq-Decides}
use Rattle.std.specs.List.{AllByRecursion}
use Rattle.serde_json.specs.Data.{Data}
use Rattle.schema_definitions.specs.Places.{Dialect}
use Rattle.schema_meaning.specs.Members.{is_listed}
use Rattle.schema_definitions.specs.Rows.{Row, Context, counts_here, nothing_read, Reader, readers, read_among, row_at}
use Rattle.applicator_reading.specs.Beside.{beside_in, Surrounds}
use Rattle.applicator_reading.specs.Names.{applicator_names}
use Rattle.applicator_reading.specs.declared.neighbours.Neighbours.{Neighbours}
use Rattle.applicator_reading.proofs.RowLemmas.{neighbour}
use Rattle.assertions.specs.Names.{assertion_names}
use Rattle.assertions.specs.Reads.{ReadsAs}
use Rattle.assertions.specs.Reads as asserting
use Rattle.assertions.specs.declared.reading.Reading.{Reading}
use Rattle.schema_sites.specs.Read.{IsRowOf, ReadCounted}
use Rattle.schema_sites.specs.Refused.{Refuses, RefusedCounted}
use Rattle.schema_sites.specs.References.{named}
use Rattle.schema_sites.specs.declared.keyword.Keyword.{Keyword}
use Rattle.schema_sites.specs.declared.keyword.Refusal.{Refusal}
use Rattle.schema_sites.proofs.ArmLemmas.{row-if}
use Rattle.schema_sites.proofs.NamedLemmas.{named-none}

pub some-of : {A : Type 0} (P : A → Type 0) (o : Option A) (x : A) → o ≡ Some x → IfSome o P → P x
some-of P o x e h = subst (λ p. IfSome p P) e h

-- ---- by its reading

module _ (n : Neighbours) (k : List ℕ) (d : Data) (strict : Option Data) (r : Reading)
    (maximum : k ≡ codes "maximum" → strict ≡ beside_in n (codes "exclusiveMaximum")) (minimum : k ≡ codes "minimum" → strict ≡ beside_in n (codes "exclusiveMinimum"))
    (reads : (x : Context) → asserting.Surrounds n.dialect.draft strict k x → ReadsAs x k (read_among readers x k d) r) where
  surrounded : (x : Context) → Surrounds n x → asserting.Surrounds n.dialect.draft strict k x
  surrounded x s = record {
    draft = ap (λ (y : Dialect). y.draft) s.dialect;
    maximum = λ is. neighbour n x s (codes "exclusiveMaximum") ∙ sym (maximum is);
    minimum = λ is. neighbour n x s (codes "exclusiveMinimum") ∙ sym (minimum is);
  }

  reads-here : (x : Context) → Surrounds n x → counts_here x k ≡ true → ReadsAs x k (row_at x k d) r
  reads-here x s counted =
      subst (λ (row : Row). ReadsAs x k row r) (sym (row-if (counts_here x k) (read_among readers x k d) nothing_read counted)) (reads x (surrounded x s))

  pub asserted-read : (w : Keyword) → ((x : Context) (n : List ℕ) (row : Row) → ReadsAs x n row r → IsRowOf x n row w) → ReadCounted n k d w
  asserted-read w h x s counted = h x k (row_at x k d) (reads-here x s counted)

  pub asserted-refused : (e : Refusal) → ((x : Context) (n : List ℕ) (d : Data) (row : Row) → ReadsAs x n row r → Refuses x n d row e) → RefusedCounted n k d e
  asserted-refused e h x s counted = h x k d (row_at x k d) (reads-here x s counted)

-- ---- names that are among others

abbrev pub every : (List ℕ → Bool) → List (List ℕ) → Bool
every p [] = true
every p (n ∷ ns) = p n && every p ns

-- ---- a name that is none of the readers'

unlisted-both : (k : List ℕ) (xs ys : List (List ℕ)) → is_listed k xs ≡ false → is_listed k ys ≡ false → is_listed k (xs ++ ys) ≡ false
unlisted-both k [] ys e f = f
unlisted-both k (n ∷ ns) ys e f = by (bytes_eq k n) e (λ g. unlisted-both k ns ys g f)
  where
    by : (b : Bool) → (b || is_listed k ns) ≡ false → (is_listed k ns ≡ false → is_listed k (ns ++ ys) ≡ false) → (b || is_listed k (ns ++ ys)) ≡ false
    by true e rest = absurd (true≢false e)
    by false e rest = rest e

pub none-listed : (k : List ℕ) (names : List (List ℕ)) → AllByRecursion (λ (n : List ℕ). k ≡ n → ⊥) names → is_listed k names ≡ false
none-listed k [] apart = refl
none-listed k (n ∷ names) apart = by (bytes_eq k n) refl (none-listed k names apart.1)
  where
    by : (b : Bool) → bytes_eq k n ≡ b → is_listed k names ≡ false → (b || is_listed k names) ≡ false
    by true is rest = absurd (apart.0 ((bytes_eq-Decides k n).0 is))
    by false is rest = rest

no-reference : (k : List ℕ) → named k ≡ None → is_listed k (codes "$ref" ∷ codes "$dynamicRef" ∷ codes "$recursiveRef" ∷ []) ≡ false
no-reference k e =
    let n = named-none k e in
    ap (λ (b : Bool). b || (bytes_eq k (codes "$dynamicRef") || (bytes_eq k (codes "$recursiveRef") || false))) n.plain
    ∙ ap (λ (b : Bool). b || (bytes_eq k (codes "$recursiveRef") || false)) n.dynamic ∙ ap (λ (b : Bool). b || false) n.recursive

-- the names of the other keywords that are read by calls of their own
abbrev pub own_names : List (List ℕ)
own_names = codes "pattern" ∷ codes "unevaluatedItems" ∷ codes "unevaluatedProperties" ∷ codes "dependencies" ∷ codes "if" ∷ codes "then" ∷ codes "else" ∷ []

abbrev names_of : List (List ℕ × Reader) → List (List ℕ)
names_of [] = []
names_of (r ∷ rs) = r.0 ∷ names_of rs

none-among : (known : List (List ℕ)) (x : Context) (k : List ℕ) (d : Data) → is_listed k known ≡ false → (rs : List (List ℕ × Reader)) → every (λ n. is_listed n known) (names_of rs) ≡ true
    → read_among rs x k d ≡ nothing_read
none-among known x k d none [] all = refl
none-among known x k d none (r ∷ rs) all = by (bytes_eq r.0 k) (is_listed r.0 known) refl refl all (none-among known x k d none rs)
  where
    by : (b c : Bool) → bytes_eq r.0 k ≡ b → is_listed r.0 known ≡ c → (c && every (λ n. is_listed n known) (names_of rs)) ≡ true
        → (every (λ n. is_listed n known) (names_of rs) ≡ true → read_among rs x k d ≡ nothing_read) → (if b then r.1 x k d else read_among rs x k d) ≡ nothing_read
    by true true is listed all rest = absurd (true≢false (sym listed ∙ ap (λ n. is_listed n known) ((bytes_eq-Decides r.0 k).0 is) ∙ none))
    by false true is listed all rest = rest all
    by b false is listed all rest = absurd (true≢false (sym all))

pub none-read : (x : Context) (k : List ℕ) (d : Data) → named k ≡ None → is_listed k assertion_names ≡ false → is_listed k own_names ≡ false → is_listed k applicator_names ≡ false
    → read_among readers x k d ≡ nothing_read
none-read x k d reference assertion own other =
    let references = codes "$ref" ∷ codes "$dynamicRef" ∷ codes "$recursiveRef" ∷ [] in
    none-among (references ++ assertion_names ++ own_names ++ applicator_names) x k d
    (unlisted-both k references (assertion_names ++ own_names ++ applicator_names) (no-reference k reference)
    (unlisted-both k assertion_names (own_names ++ applicator_names) assertion (unlisted-both k own_names applicator_names own other)))
    readers refl
