-- The names under which the keyword of a member may refuse.
use Rattle.std.specs.Prelude.{ℕ, List, Bool, bytes_eq}
use Rattle.schema_meaning.specs.Members.{is_listed}
use Rattle.schema_meaning.specs.Keywords.{named}
use Rattle.applicators.specs.Combined.{name_of, combining_of}
use Rattle.applicators.specs.Applied as applied
use Rattle.applicators.specs.declared.combining.Combining.{Combining}
use Rattle.applicators.specs.declared.combining.Combining.TheVariants as code
use Rattle.fault_checks.specs.Passed.{Keyword, assertion_of}
use Rattle.fault_checks.specs.Passed.{Nothing, Assertion, Pattern, If, Consequent, Applicator, Reference}
use Rattle.certificate_laws.specs.Words.{count_names, choice_names}

-- a keyword of this name: where it counts, under those of its bounds too; where an answer chooses, under `then` and `else`
abbrev pub combining_bears : Combining → List ℕ → List ℕ → Bool
combining_bears code.Every k n = bytes_eq k n
combining_bears code.Together k n = bytes_eq k n
combining_bears code.EachNamed k n = bytes_eq k n
combining_bears code.SomeBranch k n = bytes_eq k n
combining_bears code.OneBranch k n = bytes_eq k n
combining_bears code.Refusal k n = bytes_eq k n
combining_bears (code.Counted least most) k n = is_listed n count_names
combining_bears code.Conditional k n = is_listed n choice_names

abbrev pub applicator_bears : applied.Applicator → List ℕ → Bool
applicator_bears a n = combining_bears (combining_of a) (name_of a) n

-- an assertion under its own, which for a strict limit of Draft 4 is that of the boolean beside
abbrev pub bears : Keyword → List ℕ → List ℕ → Bool
bears Nothing member n = bytes_eq member n
bears (Assertion a) member n = bytes_eq (named (assertion_of a)) n
bears (Pattern p) member n = bytes_eq member n
bears (If schema then_schema else_schema) member n = is_listed n choice_names
bears (Consequent k schema) member n = bytes_eq member n
bears (Applicator a) member n = applicator_bears a n
bears (Reference keyword text target) member n = bytes_eq member n
