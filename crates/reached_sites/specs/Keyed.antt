-- The compile keys by which visits are told apart: what they stand for, when they are equal, and what their hash feeds a hasher.
use Rattle.std.specs.Prelude.{◌≡◌, ◌++◌, ◌&&◌, ℕ, List, [], ◌∷◌, Bool, true, false, Option, Some, None, map, bytes_eq}
use Rattle.std.specs.Cmp.{IsEquivalence, IsPartialEquivalence, on_equiv, and_equiv, partial_equiv_from_equiv}
use Rattle.std.specs.Cmp.Lexicographic.{pointwise, lists_equiv, nat_list_eq_equiv}
use Rattle.std.specs.Hash.{HashWrites}
use Rattle.std.specs.Hash as fed
use Rattle.std.specs.Cmp.{first_so, second_so}
use Rattle.std.proofs.Common.{ap, ap₂}
use Rattle.std.proofs.lemmas.Slice.Eq.{bytes_eq-Decides}
use Rattle.shared_lists.specs.Hashes.{marked, marked_alike}
use Rattle.schema_steps.specs.Parts.{part_eq, part_eq_equiv, part_fed, part_fed_alike}
use Rattle.schema_drafts.specs.declared.draft.Draft.{Draft}
use Rattle.schema_drafts.specs.declared.draft.Draft.TheVariants.{Draft4, Draft6, Draft7, Draft201909, Draft202012, Unknown}
use Rattle.schema_definitions.specs.CompileKeys.{CompileKey}
use Rattle.schema_dialects.specs.Dialects.{dialect_of}
use Rattle.schema_dialects.specs.Sets.{flags}
use Rattle.schema_dialects.specs.declared.dialect.Dialect.{Dialect}
use Rattle.schema_dialects.specs.declared.known.KnownVocabularies.{KnownVocabularies}
use Rattle.document_index.specs.Seen.{name_of}
use Rattle.referencing.specs.Keys as scopes
use Rattle.reached_sites.specs.Visits.{AreOnePoint}
use Rattle.reached_sites.specs.declared.compile_key.CompileKey as code

abbrev pub key_in : code.CompileKey → CompileKey
key_in k = record {
  document = name_of k.point.place.document;
  path = k.point.place.path;
  base = k.base.value;
  scope = scopes.key_of k.scope.value;
  dialect = dialect_of k.dialect;
  schema_path = k.point.schema_path.steps;
}

-- keys that tell the same
pub record AreOne (a b : code.CompileKey) : Type 0 where
  pub point : AreOnePoint a.point b.point
  pub scope : scopes.key_of a.scope.value ≡ scopes.key_of b.scope.value
  pub dialect : a.dialect ≡ b.dialect
  pub base : a.base.value ≡ b.base.value

-- ---- a dialect, told by numbers

abbrev pub draft_number : Draft → ℕ
draft_number Draft4 = 0
draft_number Draft6 = 1
draft_number Draft7 = 2
draft_number Draft201909 = 3
draft_number Draft202012 = 4
draft_number Unknown = 5

abbrev pub flag_number : Bool → ℕ
flag_number true = 1
flag_number false = 0

abbrev pub known_numbers : Option KnownVocabularies → List ℕ
known_numbers None = []
known_numbers (Some k) = map flag_number (flags k)

abbrev pub numbers_of : Dialect → List ℕ
numbers_of d = draft_number d.draft ∷ flag_number d.siblings ∷ known_numbers d.required

-- ---- equal keys

abbrev pub keys_equal : code.CompileKey → code.CompileKey → Bool
keys_equal a b =
    pointwise part_eq a.point.schema_path.steps b.point.schema_path.steps
    && (pointwise part_eq a.point.place.path b.point.place.path
    && (bytes_eq (name_of a.point.place.document) (name_of b.point.place.document)
    && (scopes.keys_eq (scopes.key_of a.scope.value) (scopes.key_of b.scope.value)
    && (bytes_eq (numbers_of a.dialect) (numbers_of b.dialect) && bytes_eq a.base.value b.base.value))))

pub keys_equal_equiv : IsEquivalence keys_equal
keys_equal_equiv =
    and_equiv (on_equiv (λ (k : code.CompileKey). k.point.schema_path.steps) (lists_equiv part_eq_equiv))
    (and_equiv (on_equiv (λ (k : code.CompileKey). k.point.place.path) (lists_equiv part_eq_equiv))
    (and_equiv (on_equiv (λ (k : code.CompileKey). name_of k.point.place.document) nat_list_eq_equiv)
    (and_equiv (on_equiv (λ (k : code.CompileKey). scopes.key_of k.scope.value) scopes.keys_eq_equiv)
    (and_equiv (on_equiv (λ (k : code.CompileKey). numbers_of k.dialect) nat_list_eq_equiv) (on_equiv (λ (k : code.CompileKey). k.base.value) nat_list_eq_equiv)))))

pub keys_equal_per : IsPartialEquivalence keys_equal
keys_equal_per = partial_equiv_from_equiv keys_equal_equiv

-- ---- what is fed

-- a document's layer and its URI
abbrev pub name_fed : List ℕ → HashWrites
name_fed [] = []
name_fed (layer ∷ uri) = fed.usize layer ++ fed.str uri

abbrev pub key_fed : CompileKey → HashWrites
key_fed k = name_fed k.document ++ (marked part_fed k.path ++ (fed.str k.base ++ (scopes.key_fed k.scope ++ marked part_fed k.schema_path)))

-- equal keys are fed alike
pub keys_fed_alike : (a b : code.CompileKey) → keys_equal a b ≡ true → key_fed (key_in a) ≡ key_fed (key_in b)
keys_fed_alike a b h =
    let road = first_so _ _ h in
    let behind = second_so _ _ h in
    let path = first_so _ _ behind in
    let further = second_so _ _ behind in
    let document = first_so _ _ further in
    let last = second_so _ _ further in
    let scope = first_so _ _ last in
    let base = second_so _ _ (second_so _ _ last) in
    ap₂ (λ x y. x ++ y) (ap name_fed ((bytes_eq-Decides (name_of a.point.place.document) (name_of b.point.place.document)).0 document))
    (ap₂ (λ x y. x ++ y) (marked_alike part_eq part_fed part_fed_alike a.point.place.path b.point.place.path path)
    (ap₂ (λ x y. x ++ y) (ap fed.str ((bytes_eq-Decides a.base.value b.base.value).0 base))
    (ap₂ (λ x y. x ++ y) (scopes.keys_fed_alike (scopes.key_of a.scope.value) (scopes.key_of b.scope.value) scope) (marked_alike part_eq part_fed part_fed_alike a.point.schema_path.steps b.point.schema_path.steps road))))
