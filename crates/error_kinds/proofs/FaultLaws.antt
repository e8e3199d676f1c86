-- Faults that are the same are one, and a fault whose numbers are whole is the same as itself.
use Rattle.std.proofs.Common.{◌≡◌, ℕ, ◌&&◌, List, true, false, Decides, refl, sym, ap, ap₂, ◌∙◌}
use Rattle.std.specs.Cmp.{first_so, second_so}
use Rattle.std.proofs.lemmas.Bool.{false≢true, or_parts}
use Rattle.std.proofs.lemmas.Bool.Decides.{Decides-eqb, Decides-int_eq}
use Rattle.std.proofs.lemmas.Slice.Eq.{bytes_eq-Decides, slice_eq-Decides}
use Rattle.serde_json.specs.Written.{has_float}
use Rattle.json_values.specs.Kinds.{Primitive, null_type, boolean_type, object_type, array_type, number_type, string_type, integer_type}
use Rattle.json_values.specs.Parts.{Part}
use Rattle.json_values.proofs.Names.{both}
use Rattle.schema_meaning.specs.Faults.{Fault, fault, Kind, Faults, none, also, Branches, no_branch, branch}
use Rattle.schema_meaning.specs.Faults as told
use Rattle.schema_steps.proofs.EqualLemmas.{part_eq-Decides}
use Rattle.error_kinds.specs.Values.{same_data}
use Rattle.error_kinds.specs.Faults.{same_type, same_types, same_texts, same_path, same_limit, same_names, same_plain_kind, same_fault, same_kind, same_faults, same_branches}
use Rattle.error_kinds.specs.Floats.{fault_has_float, kind_has_float, faults_have_float, branches_have_float}
use Rattle.error_kinds.proofs.ValueLaws.{data_sound, items_sound, data_itself, items_itself, int_itself, nat_itself, bytes_itself}

-- ---- lists

type_sound : (t u : Primitive) → same_type t u ≡ true → t ≡ u
type_sound null_type null_type h = refl
type_sound boolean_type boolean_type h = refl
type_sound object_type object_type h = refl
type_sound array_type array_type h = refl
type_sound number_type number_type h = refl
type_sound string_type string_type h = refl
type_sound integer_type integer_type h = refl
type_sound t u h = absurd (false≢true h)

type_itself : (t : Primitive) → same_type t t ≡ true
type_itself null_type = refl
type_itself boolean_type = refl
type_itself object_type = refl
type_itself array_type = refl
type_itself number_type = refl
type_itself string_type = refl
type_itself integer_type = refl

type-Decides : (t u : Primitive) → Decides (same_type t u) (t ≡ u)
type-Decides t u = (type_sound t u, λ e. ap (same_type t) (sym e) ∙ type_itself t)

types-Decides : (ts us : List Primitive) → Decides (same_types ts us) (ts ≡ us)
types-Decides ts us = slice_eq-Decides type-Decides ts us (same_types ts us) refl

texts-Decides : (ss ts : List (List ℕ)) → Decides (same_texts ss ts) (ss ≡ ts)
texts-Decides ss ts = slice_eq-Decides bytes_eq-Decides ss ts (same_texts ss ts) refl

path-Decides : (p q : List Part) → Decides (same_path p q) (p ≡ q)
path-Decides p q = slice_eq-Decides part_eq-Decides p q (same_path p q) refl

-- ---- what is the same is one

limit_sound : (k l : Kind) → same_limit k l ≡ true → k ≡ l
limit_sound (told.ExclusiveMaximum y) (told.ExclusiveMaximum z) h = ap told.ExclusiveMaximum ((Decides-int_eq y z).0 h)
limit_sound (told.ExclusiveMinimum y) (told.ExclusiveMinimum z) h = ap told.ExclusiveMinimum ((Decides-int_eq y z).0 h)
limit_sound (told.MaxItems m) (told.MaxItems n) h = ap told.MaxItems ((Decides-eqb m n).0 h)
limit_sound (told.Maximum y) (told.Maximum z) h = ap told.Maximum ((Decides-int_eq y z).0 h)
limit_sound (told.MaxLength m) (told.MaxLength n) h = ap told.MaxLength ((Decides-eqb m n).0 h)
limit_sound (told.MaxProperties m) (told.MaxProperties n) h = ap told.MaxProperties ((Decides-eqb m n).0 h)
limit_sound (told.MinItems m) (told.MinItems n) h = ap told.MinItems ((Decides-eqb m n).0 h)
limit_sound (told.Minimum y) (told.Minimum z) h = ap told.Minimum ((Decides-int_eq y z).0 h)
limit_sound (told.MinLength m) (told.MinLength n) h = ap told.MinLength ((Decides-eqb m n).0 h)
limit_sound (told.MinProperties m) (told.MinProperties n) h = ap told.MinProperties ((Decides-eqb m n).0 h)
limit_sound k l h = absurd (false≢true h)

names_sound : (k l : Kind) → same_names k l ≡ true → k ≡ l
names_sound (told.AdditionalProperties ns) (told.AdditionalProperties os) h = ap told.AdditionalProperties ((texts-Decides ns os).0 h)
names_sound (told.Pattern s) (told.Pattern t) h = ap told.Pattern ((bytes_eq-Decides s t).0 h)
names_sound (told.Required s) (told.Required t) h = ap told.Required ((bytes_eq-Decides s t).0 h)
names_sound (told.Types ts) (told.Types us) h = ap told.Types ((types-Decides ts us).0 h)
names_sound (told.UnfinishedMatch s) (told.UnfinishedMatch t) h = ap told.UnfinishedMatch ((bytes_eq-Decides s t).0 h)
names_sound k l h = limit_sound k l h

plain_sound : (k l : Kind) → same_plain_kind k l ≡ true → k ≡ l
plain_sound told.AdditionalItems told.AdditionalItems h = refl
plain_sound (told.Constant d) (told.Constant e) h = ap told.Constant (data_sound d e h)
plain_sound told.Contains told.Contains h = refl
plain_sound (told.Enumeration ds) (told.Enumeration es) h = ap told.Enumeration (items_sound ds es h)
plain_sound told.FalseSchema told.FalseSchema h = refl
plain_sound (told.MultipleOf m) (told.MultipleOf n) h = ap told.MultipleOf ((Decides-eqb m n).0 h)
plain_sound (told.Not d) (told.Not e) h = ap told.Not (data_sound d e h)
plain_sound told.UniqueItems told.UniqueItems h = refl
plain_sound k l h = names_sound k l h

mutual
  pub fault_sound : (f g : Fault) → same_fault f g ≡ true → f ≡ g
  fault_sound (fault k d i s e) (fault l c j t f) h =
      let places : (same_path i j && same_path s t && same_path e f && same_data d c) ≡ true =
      first_so (same_path i j && same_path s t && same_path e f && same_data d c) (same_kind k l) h in
      let paths : (same_path i j && same_path s t && same_path e f) ≡ true = first_so (same_path i j && same_path s t && same_path e f) (same_data d c) places in
      let front : (same_path i j && same_path s t) ≡ true = first_so (same_path i j && same_path s t) (same_path e f) paths in
      let instance : i ≡ j = (path-Decides i j).0 (first_so (same_path i j) (same_path s t) front) in
      let schema : s ≡ t = (path-Decides s t).0 (second_so (same_path i j) (same_path s t) front) in
      let evaluation : e ≡ f = (path-Decides e f).0 (second_so (same_path i j && same_path s t) (same_path e f) paths) in
      let value : d ≡ c = data_sound d c (second_so (same_path i j && same_path s t && same_path e f) (same_data d c) places) in
      let kinds : k ≡ l = kind_sound k l (second_so (same_path i j && same_path s t && same_path e f && same_data d c) (same_kind k l) h) in
      λ x. fault (kinds x) (value x) (instance x) (schema x) (evaluation x)

  kind_sound : (k l : Kind) → same_kind k l ≡ true → k ≡ l
  kind_sound (told.AnyOf bs) (told.AnyOf cs) h = ap told.AnyOf (branches_sound bs cs h)
  kind_sound (told.OneOfMultipleValid bs) (told.OneOfMultipleValid cs) h = ap told.OneOfMultipleValid (branches_sound bs cs h)
  kind_sound (told.OneOfNotValid bs) (told.OneOfNotValid cs) h = ap told.OneOfNotValid (branches_sound bs cs h)
  kind_sound (told.PropertyNames f) (told.PropertyNames g) h = ap told.PropertyNames (fault_sound f g h)
  kind_sound k l h = plain_sound k l h

  faults_sound : (fs gs : Faults) → same_faults fs gs ≡ true → fs ≡ gs
  faults_sound none none h = refl
  faults_sound (also f fs) (also g gs) h =
      ap₂ also (fault_sound f g (first_so (same_fault f g) (same_faults fs gs) h)) (faults_sound fs gs (second_so (same_fault f g) (same_faults fs gs) h))
  faults_sound fs gs h = absurd (false≢true h)

  branches_sound : (bs cs : Branches) → same_branches bs cs ≡ true → bs ≡ cs
  branches_sound no_branch no_branch h = refl
  branches_sound (branch fs bs) (branch gs cs) h =
      ap₂ branch (faults_sound fs gs (first_so (same_faults fs gs) (same_branches bs cs) h)) (branches_sound bs cs (second_so (same_faults fs gs) (same_branches bs cs) h))
  branches_sound bs cs h = absurd (false≢true h)

-- ---- what is one is the same

texts_itself : (ss : List (List ℕ)) → same_texts ss ss ≡ true
texts_itself ss = (texts-Decides ss ss).1 refl

types_itself : (ts : List Primitive) → same_types ts ts ≡ true
types_itself ts = (types-Decides ts ts).1 refl

path_itself : (p : List Part) → same_path p p ≡ true
path_itself p = (path-Decides p p).1 refl

mutual
  pub fault_itself : (f : Fault) → fault_has_float f ≡ false → same_fault f f ≡ true
  fault_itself (fault k d i s e) h =
      let parts = or_parts (has_float d) (kind_has_float k) h in
      both (same_path i i && same_path s s && same_path e e && same_data d d) (same_kind k k)
      (both (same_path i i && same_path s s && same_path e e) (same_data d d)
      (both (same_path i i && same_path s s) (same_path e e)
      (both (same_path i i) (same_path s s) (path_itself i) (path_itself s))
      (path_itself e))
      (data_itself d parts.0))
      (kind_itself k parts.1)

  kind_itself : (k : Kind) → kind_has_float k ≡ false → same_kind k k ≡ true
  kind_itself told.AdditionalItems h = refl
  kind_itself (told.AdditionalProperties ns) h = texts_itself ns
  kind_itself (told.AnyOf bs) h = branches_itself bs h
  kind_itself (told.Constant d) h = data_itself d h
  kind_itself told.Contains h = refl
  kind_itself (told.Enumeration ds) h = items_itself ds h
  kind_itself (told.ExclusiveMaximum z) h = int_itself z
  kind_itself (told.ExclusiveMinimum z) h = int_itself z
  kind_itself told.FalseSchema h = refl
  kind_itself (told.MaxItems n) h = nat_itself n
  kind_itself (told.Maximum z) h = int_itself z
  kind_itself (told.MaxLength n) h = nat_itself n
  kind_itself (told.MaxProperties n) h = nat_itself n
  kind_itself (told.MinItems n) h = nat_itself n
  kind_itself (told.Minimum z) h = int_itself z
  kind_itself (told.MinLength n) h = nat_itself n
  kind_itself (told.MinProperties n) h = nat_itself n
  kind_itself (told.MultipleOf n) h = nat_itself n
  kind_itself (told.Not d) h = data_itself d h
  kind_itself (told.OneOfMultipleValid bs) h = branches_itself bs h
  kind_itself (told.OneOfNotValid bs) h = branches_itself bs h
  kind_itself (told.Pattern s) h = bytes_itself s
  kind_itself (told.PropertyNames f) h = fault_itself f h
  kind_itself (told.Required s) h = bytes_itself s
  kind_itself (told.Types ts) h = types_itself ts
  kind_itself told.UniqueItems h = refl
  kind_itself (told.UnfinishedMatch s) h = bytes_itself s

  faults_itself : (fs : Faults) → faults_have_float fs ≡ false → same_faults fs fs ≡ true
  faults_itself none h = refl
  faults_itself (also f fs) h =
      let parts = or_parts (fault_has_float f) (faults_have_float fs) h in
      both (same_fault f f) (same_faults fs fs) (fault_itself f parts.0) (faults_itself fs parts.1)

  branches_itself : (bs : Branches) → branches_have_float bs ≡ false → same_branches bs bs ≡ true
  branches_itself no_branch h = refl
  branches_itself (branch fs bs) h =
      let parts = or_parts (faults_have_float fs) (branches_have_float bs) h in
      both (same_faults fs fs) (same_branches bs bs) (faults_itself fs parts.0) (branches_itself bs parts.1)
