-- The row of a member by its name.
use Rattle.std.proofs.Common.{◌≡◌, ◌∙◌, refl, sym, ap, subst, ℕ, List, [], ◌∷◌, Bool, true, false, true≢false, codes, if◌then◌else◌}
use Rattle.serde_json.specs.Data.{Data, Members}
use Rattle.schema_drafts.specs.Counts.{counts}
use Rattle.schema_definitions.specs.Places.{Dialect}
use Rattle.schema_meaning.specs.Members.{first}
use Rattle.referencing.specs.Resolved.{scope_of}
use Rattle.schema_definitions.specs.Rows.{Row, nothing_read, refused, keyword_value, left_out, place_at, at, bad_value, Context, counts_here, has_reference, if_row, consequent_row, readers, read_among, row_at}
use Rattle.schema_definitions.specs.Sites.{Site}
use Rattle.schema_sites.specs.Arms.{one_pattern_row}
use Rattle.schema_sites.specs.Read.{IsRowOf, context_at, Surrounds}
use Rattle.assertions.specs.Reads.{IsCause}
use Rattle.schema_sites.specs.Refused.{Refuses}
use Rattle.schema_sites.specs.Seen.{Stands, counts_at}
use Rattle.schema_sites.specs.declared.keyword.Keyword.{Keyword}
use Rattle.schema_sites.specs.declared.keyword.Keyword.TheVariants.{Nothing}
use Rattle.schema_sites.specs.declared.keyword.Refusal.{Refusal}
use Rattle.schema_sites.specs.declared.site.Site as code
use Rattle.schema_sites.proofs.MadeLemmas.{plain-row, same-row}

pub row-if : (b : Bool) (r s : Row) → b ≡ true → (if b then r else s) ≡ r
row-if true r s e = refl
row-if false r s e = absurd (true≢false (sym e))

row-else : (b : Bool) (r s : Row) → b ≡ false → (if b then r else s) ≡ s
row-else true r s e = absurd (true≢false e)
row-else false r s e = refl

-- ---- what counts

pub surrounding : (c : code.Site) (ms : Members) (makes : List ℕ → Bool) (s : Site) → Stands c s → s.scope ≡ scope_of c.resolver → Surrounds c ms (context_at c ms makes s)
surrounding c ms makes s stands scope = record { documents = refl; members = refl; stands = stands; scope = scope }

pub counts-there : (c : code.Site) (ms : Members) (s : Site) → Stands c s → (k : List ℕ) → counts s.dialect (has_reference ms) k ≡ counts_at c (has_reference ms) k
counts-there c ms s stands k = ap (λ (y : Dialect). counts y (has_reference ms) k) stands.dialect

-- ---- the rows of the names that are read

pub pattern-row : (x : Context) (d : Data) → counts_here x (codes "pattern") ≡ true → row_at x (codes "pattern") d ≡ one_pattern_row x d
pattern-row x d e = row-if (counts_here x (codes "pattern")) (one_pattern_row x d) nothing_read e

pub dependencies-row : (x : Context) (d : Data) → counts_here x (codes "dependencies") ≡ true → row_at x (codes "dependencies") d ≡ read_among readers x (codes "dependencies") d
dependencies-row x d e = row-if (counts_here x (codes "dependencies")) (read_among readers x (codes "dependencies") d) nothing_read e

pub if-row : (x : Context) (d : Data) → counts_here x (codes "if") ≡ true → row_at x (codes "if") d ≡ if_row x (codes "if") d
if-row x d e = row-if (counts_here x (codes "if")) (if_row x (codes "if") d) nothing_read e

pub then-row : (x : Context) (d : Data) → counts_here x (codes "then") ≡ true → row_at x (codes "then") d ≡ consequent_row x (codes "then") d
then-row x d e = row-if (counts_here x (codes "then")) (consequent_row x (codes "then") d) nothing_read e

pub else-row : (x : Context) (d : Data) → counts_here x (codes "else") ≡ true → row_at x (codes "else") d ≡ consequent_row x (codes "else") d
else-row x d e = row-if (counts_here x (codes "else")) (consequent_row x (codes "else") d) nothing_read e

abbrev pub left_row : List ℕ → Context → Data → Row
left_row k x d = refused (left_out (place_at x (at k)) ∷ [])

pub left-items-row : (x : Context) (d : Data) → counts_here x (codes "unevaluatedItems") ≡ true → row_at x (codes "unevaluatedItems") d ≡ left_row (codes "unevaluatedItems") x d
left-items-row x d e = row-if (counts_here x (codes "unevaluatedItems")) (left_row (codes "unevaluatedItems") x d) nothing_read e

pub left-properties-row : (x : Context) (d : Data) → counts_here x (codes "unevaluatedProperties") ≡ true → row_at x (codes "unevaluatedProperties") d ≡ left_row (codes "unevaluatedProperties") x d
left-properties-row x d e = row-if (counts_here x (codes "unevaluatedProperties")) (left_row (codes "unevaluatedProperties") x d) nothing_read e

-- a name that is known, with its row, in such contexts
module _ (P : Context → Type 0) (k known : List ℕ) (d : Data) (row : Context → Data → Row) (is : k ≡ known)
    (row-known : (x : Context) (e : Data) → counts_here x known ≡ true → row_at x known e ≡ row x e) where
  there : (x : Context) → counts_here x k ≡ true → counts_here x known ≡ true
  there x e = ap (λ (n : List ℕ). counts_here x n) (sym is) ∙ e

  row-here : (x : Context) → counts_here x k ≡ true → row_at x k d ≡ row x d
  row-here x e = ap (λ (n : List ℕ). row_at x n d) is ∙ row-known x d (there x e)

  pub read-here : (r : Keyword) → ((x : Context) → P x → IsRowOf x known (row x d) r) → (x : Context) → P x → counts_here x k ≡ true → IsRowOf x k (row_at x k d) r
  read-here r h x s e = same-row x k (row_at x k d) (row x d) r (row-here x e) (subst (λ (n : List ℕ). IsRowOf x n (row x d) r) (sym is) (h x s))

  pub refused-here : (e : Refusal) → ((x : Context) → P x → counts_here x known ≡ true → Refuses x known d (row x d) e)
      → (x : Context) → P x → counts_here x k ≡ true → Refuses x k d (row_at x k d) e
  refused-here e h x s counted =
      subst (λ (r : Row). Refuses x k d r e) (sym (row-here x counted)) (subst (λ (n : List ℕ). Refuses x n d (row x d) e) (sym is) (h x s (there x counted)))

-- the same of a member of a schema whose name counts
module _ (c : code.Site) (ms : Members) (k : List ℕ) (d : Data) (counted : counts_at c (has_reference ms) k ≡ true) where
  here : (makes : List ℕ → Bool) (s : Site) → Stands c s → counts_here (context_at c ms makes s) k ≡ true
  here makes s stands = counts-there c ms s stands k ∙ counted

  pub reads-where : (r : Keyword) → ((x : Context) → Surrounds c ms x → counts_here x k ≡ true → IsRowOf x k (row_at x k d) r)
      → (makes : List ℕ → Bool) (s : Site) → Stands c s → s.scope ≡ scope_of c.resolver → IsRowOf (context_at c ms makes s) k (row_at (context_at c ms makes s) k d) r
  reads-where r h makes s stands scope = h (context_at c ms makes s) (surrounding c ms makes s stands scope) (here makes s stands)

  pub refuses-where : (e : Refusal) → ((x : Context) → Surrounds c ms x → counts_here x k ≡ true → Refuses x k d (row_at x k d) e)
      → (makes : List ℕ → Bool) (s : Site) → Stands c s → s.scope ≡ scope_of c.resolver → Refuses (context_at c ms makes s) k d (row_at (context_at c ms makes s) k d) e
  refuses-where e h makes s stands scope = h (context_at c ms makes s) (surrounding c ms makes s stands scope) (here makes s stands)

-- ---- a name that does not count

pub nothing-there : (c : code.Site) (ms : Members) (k : List ℕ) (d : Data) → counts_at c (has_reference ms) k ≡ false → (makes : List ℕ → Bool) (s : Site) → Stands c s
    → IsRowOf (context_at c ms makes s) k (row_at (context_at c ms makes s) k d) Nothing
nothing-there c ms k d none makes s stands =
    let x = context_at c ms makes s in plain-row x k (row_at x k d) Nothing refl (row-else (counts_here x k) _ nothing_read (counts-there c ms s stands k ∙ none))

-- ---- values that the keyword may not have

pub value-refused : (x : Context) (k word : List ℕ) (row : Row) → row ≡ bad_value x k word → IsCause (keyword_value (place_at x (at k)) word) row
value-refused x k word row e = subst (λ (r : Row). IsCause (keyword_value (place_at x (at k)) word) r) (sym e) (record { stands = first; alone = refl })
