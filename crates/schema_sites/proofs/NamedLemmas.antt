-- The keywords of references by their names.
use Rattle.std.proofs.Common.{◌≡◌, ◌∙◌, refl, ap, ℕ, List, Bool, true, false, bytes_eq, codes, if◌then◌else◌, Option, Some, None}
use Rattle.std.proofs.lemmas.Slice.Eq.{bytes_eq-Decides}
use Rattle.serde_json.specs.Data.{Data}
use Rattle.schema_definitions.specs.Rows.{Context, counts_here, nothing_read, row_at}
use Rattle.schema_sites.specs.References.{name_of, named, reference_row}
use Rattle.schema_sites.specs.declared.reference_keyword.ReferenceKeyword.{ReferenceKeyword}
use Rattle.schema_sites.specs.declared.reference_keyword.ReferenceKeyword.TheVariants.{Ref, DynamicRef, RecursiveRef}
use Rattle.schema_sites.proofs.ArmLemmas.{row-if}

some-or : (b : Bool) (k n : List ℕ) (w : ReferenceKeyword) (rest : Option ReferenceKeyword) → bytes_eq k n ≡ b → n ≡ name_of w
    → ((r : ReferenceKeyword) → rest ≡ Some r → k ≡ name_of r) → (r : ReferenceKeyword) → (if b then Some w else rest) ≡ Some r → k ≡ name_of r
some-or true k n w rest e is h r same = let one : w ≡ r = cc in (bytes_eq-Decides k n).0 e ∙ is ∙ ap name_of one
some-or false k n w rest e is h r same = h r same

no-more : (k : List ℕ) (r : ReferenceKeyword) → None ≡ Some r → k ≡ name_of r
no-more k r e = absurd (cc (e))

pub named-is : (k : List ℕ) (r : ReferenceKeyword) → named k ≡ Some r → k ≡ name_of r
named-is k =
    some-or (bytes_eq k (codes "$ref")) k (codes "$ref") Ref _ refl refl
    (some-or (bytes_eq k (codes "$dynamicRef")) k (codes "$dynamicRef") DynamicRef _ refl refl
    (some-or (bytes_eq k (codes "$recursiveRef")) k (codes "$recursiveRef") RecursiveRef None refl refl (no-more k)))

record Two (b : Bool) (rest : Option ReferenceKeyword) : Type 0 where
  left : b ≡ false
  right : rest ≡ None

none-or : (b : Bool) (w : ReferenceKeyword) (rest : Option ReferenceKeyword) → (if b then Some w else rest) ≡ None → Two b rest
none-or true w rest e = absurd (cc (e))
none-or false w rest e = record { left = refl; right = e }

pub record IsNoReference (k : List ℕ) : Type 0 where
  pub plain : bytes_eq k (codes "$ref") ≡ false
  pub dynamic : bytes_eq k (codes "$dynamicRef") ≡ false
  pub recursive : bytes_eq k (codes "$recursiveRef") ≡ false

pub named-none : (k : List ℕ) → named k ≡ None → IsNoReference k
named-none k e =
    let one = none-or (bytes_eq k (codes "$ref")) Ref _ e in
    let two = none-or (bytes_eq k (codes "$dynamicRef")) DynamicRef _ one.right in
    let three = none-or (bytes_eq k (codes "$recursiveRef")) RecursiveRef None two.right in
    record { plain = one.left; dynamic = two.left; recursive = three.left }

pub reference-row : (r : ReferenceKeyword) (x : Context) (d : Data) → counts_here x (name_of r) ≡ true → row_at x (name_of r) d ≡ reference_row r x d
reference-row Ref x d e = row-if (counts_here x (codes "$ref")) (reference_row Ref x d) nothing_read e
reference-row DynamicRef x d e = row-if (counts_here x (codes "$dynamicRef")) (reference_row DynamicRef x d) nothing_read e
reference-row RecursiveRef x d e = row-if (counts_here x (codes "$recursiveRef")) (reference_row RecursiveRef x d) nothing_read e
