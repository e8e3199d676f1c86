-- What is said of each kind of error.
use Rattle.std.specs.Prelude.{ℕ, suc, ◌==◌, Bool, if◌then◌else◌, List, [], ◌∷◌, ◌++◌, length, map, count_by, codes, string_bytes, box_value}
use Rattle.std.specs.declared.alloc.Global.{Global}
use Rattle.std.specs.declared.vec.Vec.{Vec}
use Rattle.serde_json.specs.View.{view}
use Rattle.json_values.specs.Kinds.{Primitive, type_name}
use Rattle.json_values.specs.Parts.{Part}
use Rattle.assertions.specs.Named.{names_in}
use Rattle.schema_reports.specs.Contexts.{branches_of}
use Rattle.schema_reports.specs.Instances.{value_in}
use Rattle.schema_reports.specs.Phrases.{Phrase, words, value, name, count, place}
use Rattle.schema_reports.specs.declared.error.ValidationError.{ValidationError}
use Rattle.schema_reports.specs.declared.kind.ValidationErrorKind.{ValidationErrorKind}
use Rattle.schema_reports.specs.declared.kind.ValidationErrorKind.TheVariants as kind

-- what is said of the value; what the kind carries is named behind it
abbrev pub said : ValidationErrorKind → List ℕ
said kind.AdditionalItems = codes " has an item that is not allowed"
said (kind.AdditionalProperties unexpected) = codes " has members that are not allowed: "
said (kind.AnyOf context) = codes " is to be accepted by a schema of anyOf, and is by "
said (kind.Constant expected_value) = codes " differs from the constant "
said kind.Contains = codes " has too few or too many items that contains accepts"
said (kind.Enumeration options) = codes " is none of the values "
said (kind.ExclusiveMaximum limit) = codes " is not below the exclusive maximum "
said (kind.ExclusiveMinimum limit) = codes " is not above the exclusive minimum "
said kind.FalseSchema = codes " is refused by the schema false"
said (kind.MaxItems limit) = codes " has more items than the maximum "
said (kind.Maximum limit) = codes " is above the maximum "
said (kind.MaxLength limit) = codes " has more characters than the maximum "
said (kind.MaxProperties limit) = codes " has more members than the maximum "
said (kind.MinItems limit) = codes " has fewer items than the minimum "
said (kind.Minimum limit) = codes " is below the minimum "
said (kind.MinLength limit) = codes " has fewer characters than the minimum "
said (kind.MinProperties limit) = codes " has fewer members than the minimum "
said (kind.MultipleOf multiple_of) = codes " is not a multiple of "
said (kind.Not schema) = codes " is accepted by the schema of not: "
said (kind.OneOfMultipleValid context) = codes " is to be accepted by exactly one schema of oneOf, and is by "
said (kind.OneOfNotValid context) = codes " is to be accepted by exactly one schema of oneOf, and is by "
said (kind.Pattern pattern) = codes " does not match the pattern "
said (kind.PropertyNames' p q k v i s e l) = codes " has a name that is refused: "
said (kind.Required property) = codes " has no member of the required name "
said (kind.Types names) = codes " is not of type "
said kind.UniqueItems = codes " has items that are equal"
said (kind.UnfinishedMatch pattern) = codes " goes by a match that stays unfinished, of the pattern "

-- names with commas between
abbrev pub more_names : List (List ℕ) → List Phrase
more_names [] = []
more_names (text ∷ rest) = words (codes ", ") ∷ name text ∷ more_names rest

abbrev pub names_listed : List (List ℕ) → List Phrase
names_listed [] = []
names_listed (text ∷ rest) = name text ∷ more_names rest

-- types with "or" between
abbrev pub more_types : List Primitive → List Phrase
more_types [] = []
more_types (t ∷ rest) = words (codes " or ") ∷ words (type_name t) ∷ more_types rest

abbrev pub types_listed : List Primitive → List Phrase
types_listed [] = []
types_listed (t ∷ rest) = words (type_name t) ∷ more_types rest

-- how many branches accept, which tell no error, and of how many
abbrev pub accepts : Vec ValidationError Global → Bool
accepts es = length es.items == 0

abbrev pub counted : List (Vec ValidationError Global) → List Phrase
counted branches = count (count_by accepts branches) ∷ words (codes " of ") ∷ count (length branches) ∷ []

-- what the kind carries: of the error of a name what that one says
abbrev pub named : ValidationErrorKind → List Phrase
named kind.AdditionalItems = []
named (kind.AdditionalProperties unexpected) = names_listed (map string_bytes unexpected.items)
named (kind.AnyOf context) = counted (branches_of context)
named (kind.Constant expected_value) = value (view expected_value) ∷ []
named kind.Contains = []
named (kind.Enumeration options) = value (view options) ∷ []
named (kind.ExclusiveMaximum limit) = value (view limit) ∷ []
named (kind.ExclusiveMinimum limit) = value (view limit) ∷ []
named kind.FalseSchema = []
named (kind.MaxItems limit) = count limit ∷ []
named (kind.Maximum limit) = value (view limit) ∷ []
named (kind.MaxLength limit) = count limit ∷ []
named (kind.MaxProperties limit) = count limit ∷ []
named (kind.MinItems limit) = count limit ∷ []
named (kind.Minimum limit) = value (view limit) ∷ []
named (kind.MinLength limit) = count limit ∷ []
named (kind.MinProperties limit) = count limit ∷ []
named (kind.MultipleOf multiple_of) = value (view multiple_of) ∷ []
named (kind.Not schema) = value (view schema) ∷ []
named (kind.OneOfMultipleValid context) = counted (branches_of context)
named (kind.OneOfNotValid context) = counted (branches_of context)
named (kind.Pattern pattern) = name (string_bytes pattern) ∷ []
named (kind.PropertyNames' p q k v i s e l) = value (value_in v) ∷ words (said k) ∷ named k
named (kind.Required property) = name (string_bytes property) ∷ []
named (kind.Types names) = types_listed (names_in names)
named kind.UniqueItems = []
named (kind.UnfinishedMatch pattern) = name (string_bytes pattern) ∷ []

-- the value, what is said of it, and what the kind carries
abbrev pub sentence_of : ValidationError → List Phrase
sentence_of e = value (value_in e.instance) ∷ words (said (box_value e.kind)) ∷ named (box_value e.kind)

-- ---- branches, a line for each error, and one for a branch that accepts

-- a keyword, and the index of a branch
abbrev pub line_at : List ℕ → ℕ → List Phrase
line_at keyword n = words (10 ∷ codes "  ") ∷ words keyword ∷ words (codes "/") ∷ count n ∷ words (codes ": ") ∷ []

-- where the value stands, if it is not the whole instance
abbrev pub place_at : List Part → List Phrase
place_at path = if length path == 0 then [] else place path ∷ words (codes ": ") ∷ []

abbrev pub line_of : List ℕ → ℕ → ValidationError → List Phrase
line_of keyword n e = line_at keyword n ++ place_at e.instance_path ++ sentence_of e

abbrev pub lines_of : List ℕ → ℕ → List ValidationError → List Phrase
lines_of keyword n [] = []
lines_of keyword n (e ∷ es) = line_of keyword n e ++ lines_of keyword n es

abbrev pub branch_said : List ℕ → ℕ → Vec ValidationError Global → List Phrase
branch_said keyword n es = if accepts es then line_at keyword n ++ words (codes "it is accepted") ∷ [] else lines_of keyword n es.items

abbrev pub branches_said : List ℕ → ℕ → List (Vec ValidationError Global) → List Phrase
branches_said keyword n [] = []
branches_said keyword n (es ∷ rest) = branch_said keyword n es ++ branches_said keyword (suc n) rest

abbrev pub branches_in_kind : ValidationErrorKind → List Phrase
branches_in_kind (kind.AnyOf context) = branches_said (codes "anyOf") 0 (branches_of context)
branches_in_kind (kind.OneOfMultipleValid context) = branches_said (codes "oneOf") 0 (branches_of context)
branches_in_kind (kind.OneOfNotValid context) = branches_said (codes "oneOf") 0 (branches_of context)
branches_in_kind other = []

abbrev pub description_of : ValidationError → List Phrase
description_of e = sentence_of e ++ branches_in_kind (box_value e.kind)
