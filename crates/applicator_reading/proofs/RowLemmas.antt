-- Rows of keywords whose value is one schema, and of those that refuse their value.
use Rattle.std.proofs.Common.{◌≡◌, ℕ, List, [], ◌∷◌, Bool, true, false, codes, None, refl, sym, ap, ◌∙◌, subst}
use Rattle.std.specs.Prelude.{if◌then◌else◌, Ok, Err}
use Rattle.serde_json.specs.Data.{Data, Members}
use Rattle.serde_json.specs.Find.{get_member}
use Rattle.serde_json.specs.View.{members_view}
use Rattle.schema_drafts.specs.Counts.{counts}
use Rattle.schema_definitions.specs.Places.{Dialect, is_schema}
use Rattle.schema_meaning.specs.Keywords.{Shape}
use Rattle.schema_meaning.specs.Members.{In, first}
use Rattle.schema_definitions.specs.Sites.{Site}
use Rattle.schema_definitions.specs.Rows.{Row, row_of, reads, expected, bad_value, keyword_value, place_at, at, Context, has_reference, beside, one_schema}
use Rattle.applicators.specs.Shapes.{shape_of, leads_of}
use Rattle.applicators.specs.Made.{patterns_in}
use Rattle.applicators.specs.Applied.{Applicator}
use Rattle.applicator_reading.specs.Beside.{beside_in, Surrounds}
use Rattle.applicator_reading.specs.Reads.{site_in, IsCause, AppliesAs}
use Rattle.applicator_reading.specs.declared.neighbours.Neighbours.{Neighbours}

pub if-true : {A : Type 0} (b : Bool) (x y : A) → b ≡ true → (if b then x else y) ≡ x
if-true true x y e = refl
if-true false x y e = cc

pub if-false : {A : Type 0} (b : Bool) (x y : A) → b ≡ false → (if b then x else y) ≡ y
if-false true x y e = cc
if-false false x y e = refl

pub neighbour : (n : Neighbours) (x : Context) → Surrounds n x → (k : List ℕ) → beside x k ≡ beside_in n k
neighbour n x s k =
    let ms = members_view n.members.now.entries in
    ap (λ (m : Members). if counts x.site.dialect (has_reference m) k then get_member k m else None) s.members
    ∙ ap (λ (y : Dialect). if counts y (has_reference ms) k then get_member k ms else None) s.dialect

none-in : {A : Type 0} (p : A) (ps : List A) → ps ≡ [] → In p ps → ⊥
none-in p ps none i =
    let there : In p [] = subst (λ (qs : List _). In p qs) none i in
    elim there [ ]

-- what a keyword without patterns applies
pub plainly : (x : Context) (k : List ℕ) (row : Row) (a : Applicator) → patterns_in a ≡ [] → row ≡ reads (leads_of (site_in x) a) (shape_of (site_in x) a ∷ []) → AppliesAs x k row a
plainly x k row a none is =
    record { made = λ m. is; right = λ h. record { each = λ p i. absurd (none-in p (patterns_in a) none i) }; bad = λ p i h. absurd (none-in p (patterns_in a) none i) }

pub value-cause : (x : Context) (k word : List ℕ) (row : Row) → row ≡ bad_value x k word → IsCause (keyword_value (place_at x (at k)) word) row
value-cause x k word row e = subst (λ (r : Row). IsCause (keyword_value (place_at x (at k)) word) r) (sym e) (record { stands = first; alone = refl })

pub one-read : (x : Context) (k : List ℕ) (shapes : Site → List (Shape Site)) (d : Data) → is_schema d ≡ true
    → one_schema x k shapes d ≡ reads (site_in x (at k) d ∷ []) (shapes (site_in x (at k) d))
one-read x k shapes d e = ap (row_of (λ s. s ∷ []) shapes) (if-true (is_schema d) (Ok (site_in x (at k) d)) (Err (expected x (at k) (codes "schema"))) e)

pub one-refused : (x : Context) (k : List ℕ) (shapes : Site → List (Shape Site)) (d : Data) → is_schema d ≡ false
    → IsCause (keyword_value (place_at x (at k)) (codes "schema")) (one_schema x k shapes d)
one-refused x k shapes d e =
    value-cause x k (codes "schema") (one_schema x k shapes d)
    (ap (row_of (λ s. s ∷ []) shapes) (if-false (is_schema d) (Ok (site_in x (at k) d)) (Err (expected x (at k) (codes "schema"))) e))
