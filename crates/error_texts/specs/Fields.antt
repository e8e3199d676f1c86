-- What a kind of error carries, as members of an object.
use Rattle.std.specs.Prelude.{ℕ, List, [], ◌∷◌, reverse, map, count_by, codes, string_bytes, box_value}
use Rattle.std.specs.Borrow.{Bor}
use Rattle.std.specs.declared.alloc.Global.{Global}
use Rattle.std.specs.declared.vec.Vec.{Vec}
use Rattle.serde_json.specs.Data.{Data, unsigned, number, string, array, object, Members, no_members, member, put}
use Rattle.serde_json.specs.View.{view, items_of}
use Rattle.serde_json.specs.declared.value.Value.{Value}
use Rattle.json_values.specs.Kinds.{Primitive, type_name}
use Rattle.json_values.specs.Parts.{Part}
use Rattle.json_values.specs.Pointers.{pointer_text}
use Rattle.assertions.specs.Named.{names_in}
use Rattle.schema_reports.specs.Contexts.{branches_of}
use Rattle.schema_reports.specs.Instances.{value_in}
use Rattle.schema_reports.specs.Kinds.{kind_name}
use Rattle.schema_reports.specs.Sentences.{accepts}
use Rattle.schema_reports.specs.declared.error.ValidationError.{ValidationError}
use Rattle.schema_reports.specs.declared.kind.ValidationErrorKind.{ValidationErrorKind}
use Rattle.schema_reports.specs.declared.kind.ValidationErrorKind.TheVariants as kind

-- the name of a member, and its value
abbrev pub Field : Type 0
Field = List ℕ × Data

abbrev pub field_data : Bor (List ℕ) × Value → Field
field_data f = (f.0.now, view f.1)

-- members with these further ones, all in the order of their names
abbrev pub with_fields : List Field → Members → Members
with_fields [] ms = ms
with_fields (f ∷ fs) ms = with_fields fs (put f.0 f.1 ms)

abbrev pub only : List ℕ → Data → List Field
only name d = (name, d) ∷ []

abbrev pub count : ℕ → Data
count n = number (unsigned n)

-- a list of a value for each
abbrev pub list_of : {X : Type 0} → (X → Data) → List X → Data
list_of f xs = array (items_of (map f xs))

abbrev pub type_data : Primitive → Data
type_data t = string (type_name t)

-- a path, whose last part comes first, as a pointer (RFC 6901)
abbrev pub path_data : List Part → Data
path_data path = string (pointer_text (reverse path))

-- ---- errors that a kind carries

-- the name of its kind, and its paths in the instance, of the schema and of evaluation
abbrev pub carried_data : ValidationErrorKind → List Part → List Part → List Part → Data
carried_data k i s e =
    object (member (codes "evaluation_path") (path_data e)
    (member (codes "instance_path") (path_data i)
    (member (codes "kind") (string (kind_name k))
    (member (codes "schema_path") (path_data s) no_members))))

abbrev pub carried : ValidationError → Data
carried e = carried_data (box_value e.kind) e.instance_path e.schema_path e.evaluation_path

-- the errors of a branch; one that accepts has none
abbrev pub branch_data : Vec ValidationError Global → Data
branch_data es = list_of carried es.items

-- how many branches accept, and the errors of each in turn
abbrev pub branch_fields : List (Vec ValidationError Global) → List Field
branch_fields branches = (codes "accepting", count (count_by accepts branches)) ∷ (codes "context", list_of branch_data branches) ∷ []

-- the error of a name, and the name
abbrev pub name_fields : ValidationError → List Field
name_fields e = (codes "error", carried e) ∷ (codes "property", value_in e.instance) ∷ []

-- ---- the fields of each kind

abbrev pub fields : ValidationErrorKind → List Field
fields kind.AdditionalItems = []
fields (kind.AdditionalProperties unexpected) = only (codes "unexpected") (list_of string (map string_bytes unexpected.items))
fields (kind.AnyOf context) = branch_fields (branches_of context)
fields (kind.Constant expected_value) = only (codes "expected_value") (view expected_value)
fields kind.Contains = []
fields (kind.Enumeration options) = only (codes "options") (view options)
fields (kind.ExclusiveMaximum limit) = only (codes "limit") (view limit)
fields (kind.ExclusiveMinimum limit) = only (codes "limit") (view limit)
fields kind.FalseSchema = []
fields (kind.MaxItems limit) = only (codes "limit") (count limit)
fields (kind.Maximum limit) = only (codes "limit") (view limit)
fields (kind.MaxLength limit) = only (codes "limit") (count limit)
fields (kind.MaxProperties limit) = only (codes "limit") (count limit)
fields (kind.MinItems limit) = only (codes "limit") (count limit)
fields (kind.Minimum limit) = only (codes "limit") (view limit)
fields (kind.MinLength limit) = only (codes "limit") (count limit)
fields (kind.MinProperties limit) = only (codes "limit") (count limit)
fields (kind.MultipleOf multiple_of) = only (codes "multiple_of") (view multiple_of)
fields (kind.Not schema) = only (codes "schema") (view schema)
fields (kind.OneOfMultipleValid context) = branch_fields (branches_of context)
fields (kind.OneOfNotValid context) = branch_fields (branches_of context)
fields (kind.Pattern pattern) = only (codes "pattern") (string (string_bytes pattern))
fields (kind.PropertyNames' p q k v i s e l) = (codes "error", carried_data k i s e) ∷ (codes "property", value_in v) ∷ []
fields (kind.Required property) = only (codes "property") (string (string_bytes property))
fields (kind.Types names) = only (codes "names") (list_of type_data (names_in names))
fields kind.UniqueItems = []
fields (kind.UnfinishedMatch pattern) = only (codes "pattern") (string (string_bytes pattern))
