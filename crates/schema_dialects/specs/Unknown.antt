-- Where no meta-schema of one's own is read: a `$schema` that names none of the drafts gives no dialect.
use Rattle.std.specs.Prelude.{ℕ, List, Option, None}
use Rattle.schema_dialects.specs.Passed.{Dialect}

abbrev pub no_meta : List ℕ → Option Dialect
no_meta uri = None
