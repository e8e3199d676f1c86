-- Rows of keywords, by what was read of their values.
use Rattle.std.proofs.Common.{◌≡◌, ℕ, List, [], Bool, true, false, codes, Option, Some, None, option_map, refl, sym, ap, ◌∙◌, subst}
use Rattle.std.specs.Prelude.{if◌then◌else◌, Result, Ok, Err, IfOk}
use Rattle.std.specs.declared.alloc.AllocError.{AllocError}
use Rattle.serde_json.specs.Data.{Data}
use Rattle.schema_drafts.specs.declared.draft.Draft.{Draft}
use Rattle.schema_meaning.specs.Keywords as told
use Rattle.schema_meaning.specs.Members.{first, is_listed}
use Rattle.schema_definitions.specs.Rows.{Row, Context, asserted, assertion, reads, bad_value, keyword_value, place_at, at, beside, is_draft_4, is_true, nothing_read, readers, read_among, unique_row}
use Rattle.serde_json.specs.Find.{as_bool}
use Rattle.schema_definitions.specs.Values.{whole_number}
use Rattle.assertions.specs.Arms.{row_of, limit_row, strict_row}
use Rattle.assertions.specs.Names.{name_of, limit_name, strict_name, assertion_names}
use Rattle.assertions.specs.Reads.{ReadsAs, Makes, Surrounds, IsCause}
use Rattle.assertions.specs.Shapes.{assertion_of, bound_assertion, old_assertion, plain_bound, strict_bound}
use Rattle.assertions.specs.declared.assertion.Assertion.{Assertion}
use Rattle.assertions.specs.declared.keyword.Count.TheVariants as count
use Rattle.assertions.specs.declared.keyword.Limit.{Limit}
use Rattle.assertions.specs.declared.keyword.Limit.TheVariants as side
use Rattle.assertions.specs.declared.keyword.AssertionKeyword.{AssertionKeyword}
use Rattle.assertions.specs.declared.keyword.AssertionKeyword.TheVariants as keyword
use Rattle.assertions.specs.declared.reading.Reading.{Reading}
use Rattle.assertions.specs.declared.reading.Reading.TheVariants as reading

pub refused-value : (c : Context) (k word : List ℕ) (x : Reading) → Makes None word x → ReadsAs c k (bad_value c k word) x
refused-value c k word (reading.Read a) h = absurd h
refused-value c k word reading.Nothing h = absurd h
refused-value c k word (reading.Value expected) h =
    subst (λ (w : List ℕ). IsCause (keyword_value (place_at c (at k)) expected.now) (bad_value c k w)) h (record { stands = first; alone = refl })
refused-value c k word (reading.Entry n expected) h = absurd h

pub asserted-row : {A : Type 0} (c : Context) (k word : List ℕ) (f : A → told.Assertion) (o : Option A) (r : Option Assertion) (x : Reading)
    → option_map assertion_of r ≡ option_map f o → Makes r word x → ReadsAs c k (asserted c k word (λ y. assertion (f y)) o) x
asserted-row c k word f (Some y) (Some a) x e h =
    let same : assertion_of a ≡ f y = cc in
    subst (λ (z : Reading). ReadsAs c k (reads [] (assertion (f y))) z) (sym h) (ap (λ b. reads [] (assertion b)) (sym same))
asserted-row c k word f (Some y) None x e h = cc
asserted-row c k word f None (Some a) x e h = cc
asserted-row c k word f None None x e h = refused-value c k word x h

-- the row at a keyword's name
pub at-name : (w : AssertionKeyword) (c : Context) (d : Data) → read_among readers c (name_of w) d ≡ row_of w c d
at-name keyword.Type c d = refl
at-name keyword.Enum c d = refl
at-name keyword.Const c d = refl
at-name keyword.MultipleOf c d = refl
at-name (keyword.Limit side.Maximum) c d = refl
at-name (keyword.Limit side.Minimum) c d = refl
at-name (keyword.ExclusiveLimit side.Maximum) c d = refl
at-name (keyword.ExclusiveLimit side.Minimum) c d = refl
at-name (keyword.Count count.MaxLength) c d = refl
at-name (keyword.Count count.MinLength) c d = refl
at-name (keyword.Count count.MaxItems) c d = refl
at-name (keyword.Count count.MinItems) c d = refl
at-name (keyword.Count count.MaxProperties) c d = refl
at-name (keyword.Count count.MinProperties) c d = refl
at-name keyword.UniqueItems c d = refl
at-name keyword.Required c d = refl
at-name keyword.DependentRequired c d = refl

-- its name is among those of the keywords that only assert
listed-name : (w : AssertionKeyword) → is_listed (name_of w) assertion_names ≡ true
listed-name keyword.Type = refl
listed-name keyword.Enum = refl
listed-name keyword.Const = refl
listed-name keyword.MultipleOf = refl
listed-name (keyword.Limit side.Maximum) = refl
listed-name (keyword.Limit side.Minimum) = refl
listed-name (keyword.ExclusiveLimit side.Maximum) = refl
listed-name (keyword.ExclusiveLimit side.Minimum) = refl
listed-name (keyword.Count count.MaxLength) = refl
listed-name (keyword.Count count.MinLength) = refl
listed-name (keyword.Count count.MaxItems) = refl
listed-name (keyword.Count count.MinItems) = refl
listed-name (keyword.Count count.MaxProperties) = refl
listed-name (keyword.Count count.MinProperties) = refl
listed-name keyword.UniqueItems = refl
listed-name keyword.Required = refl
listed-name keyword.DependentRequired = refl

pub listed-known : (k : List ℕ) (w : AssertionKeyword) → k ≡ name_of w → is_listed k assertion_names ≡ true
listed-known k w is = ap (λ (n : List ℕ). is_listed n assertion_names) is ∙ listed-name w

if-true : {A : Type 0} (b : Bool) (x y : A) → b ≡ true → (if b then x else y) ≡ x
if-true true x y e = refl
if-true false x y e = cc

if-false : {A : Type 0} (b : Bool) (x y : A) → b ≡ false → (if b then x else y) ≡ y
if-false true x y e = cc
if-false false x y e = refl

-- Draft 4's limit
pub old-row : (s : Limit) (draft : Draft) (strict : Option Data) (c : Context) (d : Data) (r : Option Assertion) (x : Reading) → is_draft_4 draft ≡ true
    → Surrounds draft strict (limit_name s) c → option_map assertion_of r ≡ option_map (λ z. old_assertion s z (is_true strict)) (whole_number d) → Makes r (codes "number") x
    → ReadsAs c (limit_name s) (limit_row s c d) x
old-row side.Maximum draft strict c d r x four around e h =
    asserted-row c (codes "maximum") (codes "number") _ (whole_number d) r x
    (e ∙ ap (λ f. option_map f (whole_number d)) (λ i. λ z. (sym (if-true (is_draft_4 c.site.dialect.draft) (told.maximum_of_draft_4 z (is_true (beside c (codes "exclusiveMaximum")))) (told.maximum z) (ap is_draft_4 around.draft ∙ four)
    ∙ ap (λ o. told.maximum_of_draft_4 z (is_true o)) (around.maximum refl))) i)) h
old-row side.Minimum draft strict c d r x four around e h =
    asserted-row c (codes "minimum") (codes "number") _ (whole_number d) r x
    (e ∙ ap (λ f. option_map f (whole_number d)) (λ i. λ z. (sym (if-true (is_draft_4 c.site.dialect.draft) (told.minimum_of_draft_4 z (is_true (beside c (codes "exclusiveMinimum")))) (told.minimum z) (ap is_draft_4 around.draft ∙ four)
    ∙ ap (λ o. told.minimum_of_draft_4 z (is_true o)) (around.minimum refl))) i)) h

pub later-row : (s : Limit) (draft : Draft) (strict : Option Data) (c : Context) (d : Data) (r : Option Assertion) (x : Reading) → is_draft_4 draft ≡ false
    → Surrounds draft strict (limit_name s) c → option_map assertion_of r ≡ option_map (bound_assertion (plain_bound s)) (whole_number d) → Makes r (codes "number") x
    → ReadsAs c (limit_name s) (limit_row s c d) x
later-row side.Maximum draft strict c d r x later around e h =
    asserted-row c (codes "maximum") (codes "number") _ (whole_number d) r x
    (e ∙ ap (λ f. option_map f (whole_number d)) (λ i. λ z. (sym (if-false (is_draft_4 c.site.dialect.draft) (told.maximum_of_draft_4 z (is_true (beside c (codes "exclusiveMaximum")))) (told.maximum z) (ap is_draft_4 around.draft ∙ later))) i)) h
later-row side.Minimum draft strict c d r x later around e h =
    asserted-row c (codes "minimum") (codes "number") _ (whole_number d) r x
    (e ∙ ap (λ f. option_map f (whole_number d)) (λ i. λ z. (sym (if-false (is_draft_4 c.site.dialect.draft) (told.minimum_of_draft_4 z (is_true (beside c (codes "exclusiveMinimum")))) (told.minimum z) (ap is_draft_4 around.draft ∙ later))) i)) h

pub strict-row : (s : Limit) (draft : Draft) (c : Context) (d : Data) (r : Option Assertion) (x : Reading) → is_draft_4 draft ≡ false → c.site.dialect.draft ≡ draft
    → option_map assertion_of r ≡ option_map (bound_assertion (strict_bound s)) (whole_number d) → Makes r (codes "number") x → ReadsAs c (strict_name s) (strict_row s c d) x
strict-row side.Maximum draft c d r x later is e h =
    subst (λ (row : Row). ReadsAs c (codes "exclusiveMaximum") row x)
    (sym (if-false (is_draft_4 c.site.dialect.draft) nothing_read (asserted c (codes "exclusiveMaximum") (codes "number") (λ z. assertion (told.exclusive_maximum z)) (whole_number d)) (ap is_draft_4 is ∙ later)))
    (asserted-row c (codes "exclusiveMaximum") (codes "number") told.exclusive_maximum (whole_number d) r x e h)
strict-row side.Minimum draft c d r x later is e h =
    subst (λ (row : Row). ReadsAs c (codes "exclusiveMinimum") row x)
    (sym (if-false (is_draft_4 c.site.dialect.draft) nothing_read (asserted c (codes "exclusiveMinimum") (codes "number") (λ z. assertion (told.exclusive_minimum z)) (whole_number d)) (ap is_draft_4 is ∙ later)))
    (asserted-row c (codes "exclusiveMinimum") (codes "number") told.exclusive_minimum (whole_number d) r x e h)

pub boolean-row : (s : Limit) (draft : Draft) (c : Context) (d : Data) → is_draft_4 draft ≡ true → c.site.dialect.draft ≡ draft → strict_row s c d ≡ reads [] []
boolean-row side.Maximum draft c d four is =
    if-true (is_draft_4 c.site.dialect.draft) nothing_read (asserted c (codes "exclusiveMaximum") (codes "number") (λ z. assertion (told.exclusive_maximum z)) (whole_number d)) (ap is_draft_4 is ∙ four)
boolean-row side.Minimum draft c d four is =
    if-true (is_draft_4 c.site.dialect.draft) nothing_read (asserted c (codes "exclusiveMinimum") (codes "number") (λ z. assertion (told.exclusive_minimum z)) (whole_number d)) (ap is_draft_4 is ∙ four)

pub unique-row : (c : Context) (d : Data) (x : Reading) → None ≡ as_bool d → Makes None (codes "boolean") x → ReadsAs c (codes "uniqueItems") (unique_row c (codes "uniqueItems") (as_bool d)) x
unique-row c d x e h = subst (λ (o : Option Bool). ReadsAs c (codes "uniqueItems") (unique_row c (codes "uniqueItems") o) x) e (refused-value c (codes "uniqueItems") (codes "boolean") x h)

pub at-known-name : (w : AssertionKeyword) (k : List ℕ) (draft : Draft) (strict : Option Data) (d : Data) (r : Reading) → k ≡ name_of w
    → ((c : Context) → Surrounds draft strict (name_of w) c → ReadsAs c (name_of w) (row_of w c d) r)
    → (c : Context) → Surrounds draft strict k c → ReadsAs c k (read_among readers c k d) r
at-known-name w k draft strict d r is h =
    subst (λ (n : List ℕ). (c : Context) → Surrounds draft strict n c → ReadsAs c n (read_among readers c n d) r) (sym is)
    (λ c around. subst (λ (row : Row). ReadsAs c (name_of w) row r) (sym (at-name w c d)) (h c around))

pub at-keyword : (w known : AssertionKeyword) (draft : Draft) (strict : Option Data) (d : Data) (r : Reading) → w ≡ known
    → ((c : Context) → Surrounds draft strict (name_of known) c → ReadsAs c (name_of known) (row_of known c d) r)
    → (c : Context) → Surrounds draft strict (name_of w) c → ReadsAs c (name_of w) (row_of w c d) r
at-keyword w known draft strict d r is h =
    subst (λ (k : AssertionKeyword). (c : Context) → Surrounds draft strict (name_of k) c → ReadsAs c (name_of k) (row_of k c d) r) (sym is) h

pub if-at-keyword : (w known : AssertionKeyword) (draft : Draft) (strict : Option Data) (d : Data) (r : Result Reading AllocError) → w ≡ known
    → IfOk r (λ x. (c : Context) → ReadsAs c (name_of known) (row_of known c d) x)
    → IfOk r (λ x. (c : Context) → Surrounds draft strict (name_of w) c → ReadsAs c (name_of w) (row_of w c d) x)
if-at-keyword w known draft strict d (Ok x) is h = at-keyword w known draft strict d x is (λ c around. h c)
if-at-keyword w known draft strict d (Err e) is h = tt
