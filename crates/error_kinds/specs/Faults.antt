-- When two faults are one.
use Rattle.std.specs.Prelude.{ℕ, ◌==◌, ◌&&◌, List, Bool, true, false, bytes_eq}
use Rattle.std.specs.Cmp.Lexicographic.{pointwise}
use Rattle.std.specs.Ordering.{int_eq}
use Rattle.json_values.specs.Kinds.{Primitive, null_type, boolean_type, object_type, array_type, number_type, string_type, integer_type}
use Rattle.json_values.specs.Parts.{Part}
use Rattle.schema_meaning.specs.Faults.{Fault, fault, Kind, Faults, none, also, Branches, no_branch, branch}
use Rattle.schema_meaning.specs.Faults as told
use Rattle.schema_steps.specs.Parts.{part_eq}
use Rattle.error_kinds.specs.Values.{same_data, same_items}

abbrev pub same_type : Primitive → Primitive → Bool
same_type null_type null_type = true
same_type boolean_type boolean_type = true
same_type object_type object_type = true
same_type array_type array_type = true
same_type number_type number_type = true
same_type string_type string_type = true
same_type integer_type integer_type = true
same_type t u = false

abbrev pub same_types : List Primitive → List Primitive → Bool
same_types = pointwise same_type

abbrev pub same_texts : List (List ℕ) → List (List ℕ) → Bool
same_texts = pointwise bytes_eq

abbrev pub same_path : List Part → List Part → Bool
same_path = pointwise part_eq

-- limits of one kind
abbrev pub same_limit : Kind → Kind → Bool
same_limit (told.ExclusiveMaximum y) (told.ExclusiveMaximum z) = int_eq y z
same_limit (told.ExclusiveMinimum y) (told.ExclusiveMinimum z) = int_eq y z
same_limit (told.MaxItems m) (told.MaxItems n) = m == n
same_limit (told.Maximum y) (told.Maximum z) = int_eq y z
same_limit (told.MaxLength m) (told.MaxLength n) = m == n
same_limit (told.MaxProperties m) (told.MaxProperties n) = m == n
same_limit (told.MinItems m) (told.MinItems n) = m == n
same_limit (told.Minimum y) (told.Minimum z) = int_eq y z
same_limit (told.MinLength m) (told.MinLength n) = m == n
same_limit (told.MinProperties m) (told.MinProperties n) = m == n
same_limit k l = false

-- kinds that carry texts or types, or a limit
abbrev pub same_names : Kind → Kind → Bool
same_names (told.AdditionalProperties ns) (told.AdditionalProperties os) = same_texts ns os
same_names (told.Pattern s) (told.Pattern t) = bytes_eq s t
same_names (told.Required s) (told.Required t) = bytes_eq s t
same_names (told.Types ts) (told.Types us) = same_types ts us
same_names (told.UnfinishedMatch s) (told.UnfinishedMatch t) = bytes_eq s t
same_names k l = same_limit k l

-- kinds that carry no errors
abbrev pub same_plain_kind : Kind → Kind → Bool
same_plain_kind told.AdditionalItems told.AdditionalItems = true
same_plain_kind (told.Constant d) (told.Constant e) = same_data d e
same_plain_kind told.Contains told.Contains = true
same_plain_kind (told.Enumeration ds) (told.Enumeration es) = same_items ds es
same_plain_kind told.FalseSchema told.FalseSchema = true
same_plain_kind (told.MultipleOf m) (told.MultipleOf n) = m == n
same_plain_kind (told.Not d) (told.Not e) = same_data d e
same_plain_kind told.UniqueItems told.UniqueItems = true
same_plain_kind k l = same_names k l

-- paths and values are the same, and so is the kind with all that it carries
abbrev mutual
  pub same_fault : Fault → Fault → Bool
  same_fault (fault k d i s e) (fault l c j t f) = same_path i j && same_path s t && same_path e f && same_data d c && same_kind k l

  pub same_kind : Kind → Kind → Bool
  same_kind (told.AnyOf bs) (told.AnyOf cs) = same_branches bs cs
  same_kind (told.OneOfMultipleValid bs) (told.OneOfMultipleValid cs) = same_branches bs cs
  same_kind (told.OneOfNotValid bs) (told.OneOfNotValid cs) = same_branches bs cs
  same_kind (told.PropertyNames f) (told.PropertyNames g) = same_fault f g
  same_kind k l = same_plain_kind k l

  pub same_faults : Faults → Faults → Bool
  same_faults none none = true
  same_faults (also f fs) (also g gs) = same_fault f g && same_faults fs gs
  same_faults fs gs = false

  pub same_branches : Branches → Branches → Bool
  same_branches no_branch no_branch = true
  same_branches (branch fs bs) (branch gs cs) = same_faults fs gs && same_branches bs cs
  same_branches bs cs = false
