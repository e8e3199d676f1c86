-- A plain schema bears no name, names no meta-schema and refers to nothing.
use Rattle.std.proofs.Common.{◌≡◌, ◌∙◌, ℕ, List, [], Bool, true, false, ◌&&◌, ◌||◌, not, codes, nat_cmp, Option, Some, None, is_some, Ordering, Less, Equal, Greater, is_eq, true≢false, refl, sym, ap}
use Rattle.std.specs.Prelude.{if◌then◌else◌, option_and_then}
use Rattle.std.specs.Cmp.Lexicographic.{slice_cmp}
use Rattle.std.specs.List.{flat_map}
use Rattle.std.specs.Ordering.{match_ordering}
use Rattle.std.proofs.lemmas.Map.Text.{is_eq-slice_cmp}
use Rattle.std.proofs.lemmas.Slice.Eq.{bytes_eq-Decides}
use Rattle.serde_json.specs.Data.{Data, null, boolean, number, string, array, object, Members, no_members, member}
use Rattle.serde_json.specs.Find.{get_member, get, as_str}
use Rattle.json_values.specs.Parts.{Part}
use Rattle.schema_drafts.specs.Drafts.{identifier_name, ignores_siblings, draft_named}
use Rattle.schema_drafts.specs.declared.draft.Draft.{Draft}
use Rattle.schema_drafts.specs.declared.draft.Draft.TheVariants.{Draft4, Draft6, Draft7, Draft201909, Draft202012, Unknown}
use Rattle.schema_definitions.specs.Words.{text_at, listed, or}
use Rattle.schema_definitions.specs.Identifiers.{is_hidden, identifier_text, without_fragment, identifier, after_hash, resolved, anchors_by, dynamic_anchors, dynamic_anchors_by}
use Rattle.schema_definitions.specs.Places.{Dialect, standard, draft_beside, schema_in_force, uri_named, named_meta_schema, by_schema, placed}
use Rattle.schema_places.specs.Plain.{is_core_name, has_core_name, IsPlain}

-- ---- no member of such a name is there

none_if : (o : Ordering) (k l : List ℕ) (d : Data) (rest : Option Data) → slice_cmp nat_cmp k l ≡ o → is_core_name k ≡ true → is_core_name l ≡ false → rest ≡ None → match_ordering o rest (Some d) rest ≡ None
none_if Less k l d rest is core other none = none
none_if Equal k l d rest is core other none =
    let same : k ≡ l = (bytes_eq-Decides k l).0 (sym (is_eq-slice_cmp k l) ∙ ap is_eq is) in
    absurd (true≢false (sym core ∙ ap is_core_name same ∙ other))
none_if Greater k l d rest is core other none = none

left-false : (a b : Bool) → (a || b) ≡ false → a ≡ false
left-false true b h = h
left-false false b h = refl

right-false : (a b : Bool) → (a || b) ≡ false → b ≡ false
right-false true b h = absurd (true≢false h)
right-false false b h = h

none_among : (k : List ℕ) (ms : Members) → is_core_name k ≡ true → has_core_name ms ≡ false → get_member k ms ≡ None
none_among k no_members core plain = refl
none_among k (member l d ms) core plain =
    none_if (slice_cmp nat_cmp k l) k l d (get_member k ms) refl core (left-false (is_core_name l) (has_core_name ms) plain)
    (none_among k ms core (right-false (is_core_name l) (has_core_name ms) plain))

not-true : (b : Bool) → not b ≡ true → b ≡ false
not-true true h = sym h
not-true false h = refl

none_at : (k : List ℕ) (d : Data) → is_core_name k ≡ true → IsPlain d → get k d ≡ None
none_at k null core plain = refl
none_at k (boolean b) core plain = refl
none_at k (number n) core plain = refl
none_at k (string s) core plain = refl
none_at k (array ds) core plain = refl
none_at k (object ms) core plain = none_among k ms core (not-true (has_core_name ms) plain)

-- ---- so nothing is borne, named or referred to

module _ (d : Data) (plain : IsPlain d) where
  no_text : (k : List ℕ) → is_core_name k ≡ true → text_at k d ≡ None
  no_text k core = ap (option_and_then as_str) (none_at k d core plain)

  pub no_reference : text_at (codes "$ref") d ≡ None
  no_reference = no_text (codes "$ref") refl

  pub not_hidden : (e : Dialect) → is_hidden e d ≡ false
  not_hidden e = neither-so (ignores_siblings e.siblings e.draft) (is_some (get (codes "$ref") d)) (ap is_some (none_at (codes "$ref") d refl plain))
    where
      neither-so : (a b : Bool) → b ≡ false → (a && b) ≡ false
      neither-so true b h = h
      neither-so false b h = refl

  core_identifier : (draft : Draft) → is_core_name (identifier_name draft) ≡ true
  core_identifier Draft4 = refl
  core_identifier Draft6 = refl
  core_identifier Draft7 = refl
  core_identifier Draft201909 = refl
  core_identifier Draft202012 = refl
  core_identifier Unknown = refl

  pub no_identifier_text : (e : Dialect) → identifier_text e d ≡ None
  no_identifier_text e =
      ap (λ b. if b then None else text_at (identifier_name e.draft) d) (not_hidden e)
      ∙ no_text (identifier_name e.draft) (core_identifier e.draft)

  pub no_identifier : (e : Dialect) → identifier e d ≡ None
  no_identifier e = ap (option_and_then without_fragment) (no_identifier_text e)

  no_dynamic_anchors_by : (draft : Draft) → dynamic_anchors_by draft d ≡ []
  no_dynamic_anchors_by Draft4 = refl
  no_dynamic_anchors_by Draft6 = refl
  no_dynamic_anchors_by Draft7 = refl
  no_dynamic_anchors_by Draft201909 = refl
  no_dynamic_anchors_by Draft202012 = ap listed (no_text (codes "$dynamicAnchor") refl)
  no_dynamic_anchors_by Unknown = ap listed (no_text (codes "$dynamicAnchor") refl)

  pub no_dynamic_anchors : (e : Dialect) → dynamic_anchors e d ≡ []
  no_dynamic_anchors e = no_dynamic_anchors_by e.draft

  pub no_anchors_by : (draft : Draft) (e : Dialect) → anchors_by draft e d ≡ []
  no_anchors_by Draft4 e = ap (λ o. flat_map after_hash (listed o)) (no_identifier_text e)
  no_anchors_by Draft6 e = ap (λ o. flat_map after_hash (listed o)) (no_identifier_text e)
  no_anchors_by Draft7 e = ap (λ o. flat_map after_hash (listed o)) (no_identifier_text e)
  no_anchors_by Draft201909 e = ap listed (no_text (codes "$anchor") refl)
  no_anchors_by Draft202012 e = ap listed (no_text (codes "$anchor") refl)
  no_anchors_by Unknown e = ap listed (no_text (codes "$anchor") refl)

  pub no_schema : (siblings is_root : Bool) → schema_in_force siblings is_root d ≡ None
  no_schema siblings is_root =
      ap (option_and_then (λ t. if is_root || is_some (identifier (standard siblings (draft_beside t)) d) then Some t else None)) (no_text (codes "$schema") refl)

  pub no_meta_schema : (siblings is_root : Bool) → named_meta_schema siblings is_root d ≡ None
  no_meta_schema siblings is_root = ap (option_and_then (λ t. uri_named t (draft_named t))) (no_schema siblings is_root)

  -- all of its place comes from around it
  pub placed_plainly : (meta : List ℕ → Option Dialect) (outer : List ℕ) (around : Dialect) (is_root : Bool) (path : List Part)
      → placed outer around path d (by_schema meta around (schema_in_force around.siblings is_root d))
      ≡ record { path = path; contents = d; base = outer; dialect = around; awaits = None }
  placed_plainly meta outer around is_root path =
      ap (λ o. placed outer around path d (by_schema meta around o)) (no_schema around.siblings is_root)
      ∙ ap (λ o. record { path = path; contents = d; base = or outer (option_and_then (resolved outer) o); dialect = around; awaits = None }) (no_identifier around)
