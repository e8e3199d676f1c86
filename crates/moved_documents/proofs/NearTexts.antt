-- What is read by name in a value, and in the same with the moved document inside: identifiers, anchors, and the rest of what places are told by.
use Rattle.std.proofs.Common.{◌≡◌, ◌∙◌, ℕ, List, ◌++◌, Bool, true, false, ◌||◌, ◌&&◌, if◌then◌else◌, bytes_eq, codes, Option, Some, None, is_some, option_and_then, refl, ap, ap₂}
use Rattle.std.specs.List.{flat_map}
use Rattle.serde_json.specs.Data.{Data}
use Rattle.serde_json.specs.Find.{get, as_str, as_bool}
use Rattle.schema_drafts.specs.Drafts.{ignores_siblings, identifier_name}
use Rattle.schema_drafts.specs.Vocabularies.{Dialect, standard}
use Rattle.schema_drafts.specs.declared.draft.Draft.{Draft}
use Rattle.schema_drafts.specs.declared.draft.Draft.TheVariants.{Draft4, Draft6, Draft7, Draft201909, Draft202012, Unknown}
use Rattle.schema_definitions.specs.Words.{text_at, listed}
use Rattle.schema_definitions.specs.Identifiers.{is_hidden, identifier_text, without_fragment, identifier, after_hash, fragment_anchor, dynamic_anchors_by, dynamic_anchors, anchors_by, anchors}
use Rattle.schema_definitions.specs.Places.{draft_beside, schema_in_force, own_base}
use Rattle.schema_definitions.specs.Bearers.{required_by}
use Rattle.moved_documents.specs.Premises.{IsFresh}
use Rattle.moved_documents.specs.Linked.{Near}
use Rattle.moved_documents.proofs.Near.{is_looked, looked_same}

module _ (fresh : List ℕ) (moved : Data) (is_fresh : IsFresh fresh) (d e : Data) (near : Near fresh moved d e) where
  pub get_near : (j : List ℕ) → is_looked j ≡ true → bytes_eq j (codes "$defs") ≡ false → get j e ≡ get j d
  get_near j known apart = looked_same fresh moved is_fresh j known apart d e near

  pub text_near : (j : List ℕ) → is_looked j ≡ true → bytes_eq j (codes "$defs") ≡ false → text_at j e ≡ text_at j d
  text_near j known apart = ap (λ o. option_and_then as_str o) (get_near j known apart)

  pub hidden_near : (x : Dialect) → is_hidden x e ≡ is_hidden x d
  hidden_near x = ap (λ (o : Option Data). ignores_siblings x.siblings x.draft && is_some o) (get_near (codes "$ref") refl refl)

  named_near : (draft : Draft) → text_at (identifier_name draft) e ≡ text_at (identifier_name draft) d
  named_near Draft4 = text_near (codes "id") refl refl
  named_near Draft6 = text_near (codes "$id") refl refl
  named_near Draft7 = text_near (codes "$id") refl refl
  named_near Draft201909 = text_near (codes "$id") refl refl
  named_near Draft202012 = text_near (codes "$id") refl refl
  named_near Unknown = text_near (codes "$id") refl refl

  identifier_text_near : (x : Dialect) → identifier_text x e ≡ identifier_text x d
  identifier_text_near x = ap₂ (λ (b : Bool) o. if b then None else o) (hidden_near x) (named_near x.draft)

  pub identifier_near : (x : Dialect) → identifier x e ≡ identifier x d
  identifier_near x = ap (λ o. option_and_then without_fragment o) (identifier_text_near x)

  pub base_near : (outer : List ℕ) (x : Dialect) → own_base outer x e ≡ own_base outer x d
  base_near outer x = rw (identifier_near x) refl

  dynamic_by : (draft : Draft) → dynamic_anchors_by draft e ≡ dynamic_anchors_by draft d
  dynamic_by Draft4 = refl
  dynamic_by Draft6 = refl
  dynamic_by Draft7 = refl
  dynamic_by Draft201909 = refl
  dynamic_by Draft202012 = ap (λ o. listed o) (text_near (codes "$dynamicAnchor") refl refl)
  dynamic_by Unknown = ap (λ o. listed o) (text_near (codes "$dynamicAnchor") refl refl)

  pub dynamic_near : (x : Dialect) → dynamic_anchors x e ≡ dynamic_anchors x d
  dynamic_near x = dynamic_by x.draft

  by_fragment : (x : Dialect) → fragment_anchor x e ≡ fragment_anchor x d
  by_fragment x = ap (λ o. flat_map after_hash (listed o)) (identifier_text_near x)

  by_anchor : listed (text_at (codes "$anchor") e) ≡ listed (text_at (codes "$anchor") d)
  by_anchor = ap (λ o. listed o) (text_near (codes "$anchor") refl refl)

  anchored_by : (draft : Draft) (x : Dialect) → anchors_by draft x e ≡ anchors_by draft x d
  anchored_by Draft4 x = by_fragment x
  anchored_by Draft6 x = by_fragment x
  anchored_by Draft7 x = by_fragment x
  anchored_by Draft201909 x = by_anchor
  anchored_by Draft202012 x = by_anchor
  anchored_by Unknown x = by_anchor

  pub anchors_near : (x : Dialect) → anchors x e ≡ anchors x d
  anchors_near x = ap₂ (λ a b. a ++ b) (anchored_by x.draft x) (dynamic_near x)

  abbrev in_force_by : Bool → (List ℕ → Option (List ℕ)) → Option (List ℕ) → Option (List ℕ)
  in_force_by is_root identified o = option_and_then (λ t. if is_root || is_some (identified t) then Some t else None) o

  in_force_one : (siblings is_root : Bool) (o : Option (List ℕ))
      → in_force_by is_root (λ t. identifier (standard siblings (draft_beside t)) e) o ≡ in_force_by is_root (λ t. identifier (standard siblings (draft_beside t)) d) o
  in_force_one siblings is_root None = refl
  in_force_one siblings is_root (Some t) =
      ap (λ (o : Option (List ℕ)). if is_root || is_some o then Some t else None) (identifier_near (standard siblings (draft_beside t)))

  pub in_force_near : (siblings is_root : Bool) → schema_in_force siblings is_root e ≡ schema_in_force siblings is_root d
  in_force_near siblings is_root =
      ap (λ o. in_force_by is_root (λ t. identifier (standard siblings (draft_beside t)) e) o) (text_near (codes "$schema") refl refl)
      ∙ in_force_one siblings is_root (text_at (codes "$schema") d)

  pub required_near : required_by (get (codes "$vocabulary") e) ≡ required_by (get (codes "$vocabulary") d)
  required_near = ap (λ o. required_by o) (get_near (codes "$vocabulary") refl refl)

  pub recurring_near : option_and_then as_bool (get (codes "$recursiveAnchor") e) ≡ option_and_then as_bool (get (codes "$recursiveAnchor") d)
  recurring_near = ap (λ o. option_and_then as_bool o) (get_near (codes "$recursiveAnchor") refl refl)
