-- Types by their names, and lists of them.
use Rattle.std.proofs.Common.{◌≡◌, ◌≢◌, ℕ, Bool, true, false, List, [], ◌∷◌, map, Option, Some, None, option_map, IfSome, IfNone, refl, sym, ap, ◌∙◌}
use Rattle.std.specs.List.{list_any}
use Rattle.std.specs.Str.{bytes_eq}
use Rattle.std.proofs.lemmas.Slice.Eq.{bytes_eq-Decides}
use Rattle.json_values.specs.Kinds.{Primitive, null_type, boolean_type, object_type, array_type, number_type, string_type, integer_type, type_name}
use Rattle.schema_definitions.specs.Values.{type_among, all_types}
use Rattle.value_checks.specs.Code.{primitive_of}
use Rattle.value_checks.specs.declared.json_types.JsonType.{JsonType}
use Rattle.value_checks.specs.declared.json_types.JsonType.TheVariants.{Null, Boolean, Object, Array, Number, String, Integer}

of_its_name : (t : JsonType) → Some (primitive_of t) ≡ type_among all_types (type_name (primitive_of t))
of_its_name Null = refl
of_its_name Boolean = refl
of_its_name Object = refl
of_its_name Array = refl
of_its_name Number = refl
of_its_name String = refl
of_its_name Integer = refl

in_code : (p : Primitive) → (t : JsonType) × (p ≡ primitive_of t)
in_code null_type = (Null, refl)
in_code boolean_type = (Boolean, refl)
in_code object_type = (Object, refl)
in_code array_type = (Array, refl)
in_code number_type = (Number, refl)
in_code string_type = (String, refl)
in_code integer_type = (Integer, refl)

elsewhere : (k : List ℕ) (p : Primitive) (ps : List Primitive) (b : Bool) → bytes_eq (type_name p) k ≡ b → k ≢ type_name p → type_among ps k ≡ None → type_among (p ∷ ps) k ≡ None
elsewhere k p ps true e other rest = absurd (other (sym ((bytes_eq-Decides (type_name p) k).0 e)))
elsewhere k p ps false e other rest = rw e rest

among_none : (k : List ℕ) → ((p : Primitive) → k ≢ type_name p) → (ps : List Primitive) → type_among ps k ≡ None
among_none k other [] = refl
among_none k other (p ∷ ps) = elsewhere k p ps (bytes_eq (type_name p) k) refl (other p) (among_none k other ps)

pub by_name : (k : List ℕ) (r : Option JsonType) → IfSome r (λ t. k ≡ type_name (primitive_of t)) → IfNone r ((t : JsonType) → k ≢ type_name (primitive_of t)) → option_map primitive_of r ≡ type_among all_types k
by_name k (Some t) is other = of_its_name t ∙ ap (type_among all_types) (sym is)
by_name k None is other = sym (among_none k (λ p e. other (in_code p).0 (e ∙ ap type_name (in_code p).1)) all_types)

pub list_any-map : {A B : Type 0} (p : B → Bool) (f : A → B) (xs : List A) → list_any p (map f xs) ≡ list_any (λ x. p (f x)) xs
list_any-map p f [] = refl
list_any-map p f (x ∷ xs) = rw (list_any-map p f xs) refl
