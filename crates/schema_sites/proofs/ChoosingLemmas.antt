-- What `if`, `then` and `else` are, by what is read of them.
use Rattle.std.proofs.Common.{◌≡◌, refl, sym, ap, subst, ℕ, List, [], ◌∷◌, codes, Bor, Option}
use Rattle.serde_json.specs.Data.{Data}
use Rattle.serde_json.specs.View.{view}
use Rattle.serde_json.specs.declared.value.Value.{Value}
use Rattle.schema_definitions.specs.Rows.{Row, Context, reads}
use Rattle.applicators.specs.Applied.{Applicator}
use Rattle.applicators.specs.Asks.{form_by, leads_by, patterns_among}
use Rattle.applicators.specs.Forms.{shape_by}
use Rattle.applicators.specs.Lent.{Asks}
use Rattle.applicators.specs.Made.{AreMade}
use Rattle.applicators.specs.declared.asks.AsksOf.TheVariants as asked
use Rattle.applicators.specs.declared.combining.Combining.{Combining}
use Rattle.applicators.specs.declared.combining.Combining.TheVariants as combining
use Rattle.applicator_reading.specs.Conditions.{IsIf, IsCondition, IsConsequent}
use Rattle.applicator_reading.specs.Reads.{ReadsAs, AppliesAs, site_in}
use Rattle.applicator_reading.specs.declared.reading.Reading.{Reading}
use Rattle.applicator_reading.specs.declared.reading.Reading.TheVariants as reading
use Rattle.schema_sites.specs.Read.{IsRowOf, Finds}
use Rattle.schema_sites.specs.Refused.{Refuses}
use Rattle.schema_sites.specs.declared.keyword.Keyword.{Keyword}
use Rattle.schema_sites.specs.declared.site.Site as code
use Rattle.schema_sites.specs.declared.keyword.Keyword.TheVariants.{Nothing, If, Consequent}
use Rattle.schema_sites.specs.declared.keyword.Refusal.TheVariants as refusal
use Rattle.schema_sites.proofs.ApplyingLemmas.{same-cause}
use Rattle.schema_sites.proofs.MadeLemmas.{plain-row, same-keyword}

module _ (r : Reading) where
  -- ---- as it is read

  pub consequent-read : (x : Context) (k : Bor (List ℕ)) (row : Row) (schema : Bor Value) → r ≡ reading.Consequent schema → ReadsAs x k.now row r
      → IsRowOf x k.now row (Consequent k schema)
  consequent-read x k row schema is h = plain-row x k.now row (Consequent k schema) refl (subst (ReadsAs x k.now row) is h)

  pub nothing-read : (x : Context) (k : List ℕ) (row : Row) → r ≡ reading.Nothing → ReadsAs x k row r → IsRowOf x k row Nothing
  nothing-read x k row is h = plain-row x k row Nothing refl (subst (ReadsAs x k row) is h)

  pub value-read : (x : Context) (k : List ℕ) (d : Data) (row : Row) (expected : Bor (List ℕ)) → r ≡ reading.Value expected → ReadsAs x k row r → Refuses x k d row (refusal.Value expected)
  value-read x k d row expected is h = same-cause _ row (subst (ReadsAs x k row) is h)

  -- ---- the value is the schema

  pub consequent-schema : (value schema : Bor Value) → r ≡ reading.Consequent schema → IsConsequent value r → view value.now ≡ view schema.now
  consequent-schema value schema is h =
      let same : schema ≡ value = subst (IsConsequent value) is h in
      ap (λ (v : Bor Value). view v.now) (sym same)

-- an `if`
module _ (r : Reading) (value : Bor Value) (a : Applicator) (k : Keyword) (is : r ≡ reading.Applied a) (h : IsCondition value r)
    (found : (condition : Bor Value) (t e : Option (Bor Value)) → a.asks ≡ asked.Condition condition t e → k ≡ If condition t e) where
  its : IsIf value a
  its = subst (IsCondition value) is h

  same : k ≡ If value its.then_schema its.else_schema
  same = found value its.then_schema its.else_schema its.asked

  abbrev Made : Context → Row → List ℕ → Combining → Asks → Type 0
  Made x row n c f = AreMade x.makes (patterns_among f) → row ≡ reads (leads_by (site_in x) n f) (shape_by n c (form_by (site_in x) n f) ∷ [])

  pub if-read : (x : Context) (n : List ℕ) (row : Row) → ReadsAs x n row r → IsRowOf x n row k
  if-read x n row read =
      let applies : AppliesAs x n row a = subst (ReadsAs x n row) is read in
      let made : Made x row (codes "if") combining.Conditional (asked.Condition value its.then_schema its.else_schema) =
      subst (λ (f : Asks). Made x row (codes "if") combining.Conditional f) its.asked
      (subst (λ (c : Combining). Made x row (codes "if") c a.asks) its.combined (subst (λ (m : List ℕ). Made x row m a.combining a.asks) its.named applies.made)) in
      same-keyword x n row k (If value its.then_schema its.else_schema) same
      (plain-row x n row (If value its.then_schema its.else_schema) refl (made (record { each = λ p i. elim i [ ] })))

  pub if-found : (c : code.Site) → Finds c (view value.now) k
  if-found c = subst (λ (w : Keyword). Finds c (view value.now) w) (sym same) refl

-- ---- nothing else is read

pub no-condition : (value : Bor Value) (r : Reading) → IsCondition value r → ((a : Applicator) → r ≡ reading.Applied a → ⊥)
    → ((expected : Bor (List ℕ)) → r ≡ reading.Value expected → ⊥) → r ≡ reading.Nothing
no-condition value (reading.Applied a) h no_if right = absurd (no_if a refl)
no-condition value reading.Nothing h no_if right = refl
no-condition value (reading.Consequent schema) h no_if right = absurd h
no-condition value (reading.Value expected) h no_if right = absurd (right expected refl)
no-condition value (reading.Entry n expected) h no_if right = absurd h
no-condition value (reading.Element i expected) h no_if right = absurd h

pub no-consequent : (value : Bor Value) (r : Reading) → IsConsequent value r → ((schema : Bor Value) → r ≡ reading.Consequent schema → ⊥)
    → ((expected : Bor (List ℕ)) → r ≡ reading.Value expected → ⊥) → r ≡ reading.Nothing
no-consequent value (reading.Applied a) h other right = absurd h
no-consequent value reading.Nothing h other right = refl
no-consequent value (reading.Consequent schema) h other right = absurd (other schema refl)
no-consequent value (reading.Value expected) h other right = absurd (right expected refl)
no-consequent value (reading.Entry n expected) h other right = absurd h
no-consequent value (reading.Element i expected) h other right = absurd h
