-- What each compiled keyword stands for.
use Rattle.std.specs.Prelude.{ℕ, List, [], map, string_bytes}
use Rattle.serde_json.specs.View.{view, items_view}
use Rattle.json_values.specs.Parts.{Part}
use Rattle.schema_meaning.specs.Keywords as told
use Rattle.assertions.specs.Shapes as plain
use Rattle.compiled_keywords.specs.Applied.{name_of, combining_of, asks_of}
use Rattle.applicators.specs.Forms.{shape_by}
use Rattle.compiled_keywords.specs.declared.asks.Asks.TheVariants as code
use Rattle.compiled_keywords.specs.Owned.{text_of, needed_by, IsNumbered, AreNumbered, AllNumbered}
use Rattle.compiled_keywords.specs.declared.asks.Asks.{Asks}
use Rattle.compiled_keywords.specs.Forms.{form_of, added_in, whole_at}
use Rattle.compiled_keywords.specs.declared.assertion.Assertion.{Assertion}
use Rattle.compiled_keywords.specs.declared.assertion.Assertion.TheVariants as assertion
use Rattle.compiled_keywords.specs.declared.keyword.ReferenceKind.{ReferenceKind}
use Rattle.compiled_keywords.specs.declared.keyword.ReferenceKind.TheVariants as reference
use Rattle.compiled_keywords.specs.declared.keyword.Keyword.{Keyword}
use Rattle.compiled_keywords.specs.declared.keyword.Keyword.TheVariants as keyword

abbrev pub assertion_of : Assertion → told.Assertion
assertion_of (assertion.Plain a) = plain.assertion_of a
assertion_of (assertion.Enumeration options) = told.enumeration (items_view options.list.items)
assertion_of (assertion.Constant expected) = told.constant (view expected)
assertion_of (assertion.Required names) = told.required (map string_bytes names.listed.items)
assertion_of (assertion.DependentRequired entries) = told.dependent_required (map needed_by entries.items)

abbrev pub reference_of : ReferenceKind → told.Reference
reference_of reference.Static = told.static
reference_of reference.Dynamic = told.dynamic
reference_of reference.Recursive = told.recursive

abbrev pub shape_of : Keyword → told.Shape ℕ
shape_of keyword.Never = told.never
shape_of (keyword.Assertion alloc a) = told.asserts (assertion_of a)
shape_of (keyword.Pattern p) = told.asserts (told.pattern (text_of p))
shape_of (keyword.Applicator a) = shape_by (name_of a) (combining_of a) (form_of (asks_of a))
shape_of (keyword.Reference r node) = told.reference (reference_of r) node

-- its numbers of patterns name its patterns
abbrev pub KnowsAsked : Asks → (ℕ → List ℕ) → Type 0
KnowsAsked (code.MatchingMembers nodes) table = AreNumbered table nodes.items
KnowsAsked (code.OtherMembers declared node) table = AllNumbered table declared.patterns.items
KnowsAsked asks table = Unit {0}

abbrev pub Knows : Keyword → (ℕ → List ℕ) → Type 0
Knows keyword.Never table = Unit {0}
Knows (keyword.Assertion alloc a) table = Unit {0}
Knows (keyword.Pattern p) table = IsNumbered table p
Knows (keyword.Applicator a) table = KnowsAsked (asks_of a) table
Knows (keyword.Reference r node) table = Unit {0}

-- the parts that its entries add to a road
abbrev pub added_by : Keyword → ℕ → List Part
added_by keyword.Never = whole_at []
added_by (keyword.Assertion alloc a) = whole_at []
added_by (keyword.Pattern p) = whole_at []
added_by (keyword.Applicator a) = added_in (name_of a) (form_of (asks_of a))
added_by (keyword.Reference r node) = whole_at (told.reference_name (reference_of r))
