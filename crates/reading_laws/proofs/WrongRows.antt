-- Each row has no causes or no leads.
use Rattle.std.proofs.Common.{◌≡◌, ◌⊎◌, inl, inr, ℕ, List, [], Bool, true, false, refl, subst}
use Rattle.std.specs.List.{AllByRecursion}
use Rattle.serde_json.specs.Data.{Data, boolean, object, Members, no_members, member}
use Rattle.schema_definitions.specs.Bearers.{Documents}
use Rattle.schema_meaning.specs.Members.{In}
use Rattle.schema_definitions.specs.Sites.{Site}
use Rattle.schema_definitions.specs.Rows.{BuildCause, Row, Context, row_at, rows_of, rows_in, rows_at}
use Rattle.reading_laws.proofs.Elements.{each_in}
use Rattle.reading_laws.proofs.KeywordRows.{row_clear}

-- no causes or no leads
abbrev IsClear : Row → Type 0
IsClear row = (row.causes ≡ []) ⊎ (row.leads ≡ [])

-- ---- all that stands at a site

clear_among : (x : Context) (ms : Members) → AllByRecursion IsClear (rows_of x ms)
clear_among x no_members = tt
clear_among x (member k d ms) = (row_clear x k d, clear_among x ms)

clear_in : (s : Site) (context : Members → Context) (d : Data) → AllByRecursion IsClear (rows_in s context d)
clear_in s context (boolean true) = tt
clear_in s context (boolean false) = (inl refl, tt)
clear_in s context (object ms) = clear_among (context ms) ms
clear_in s context d = (inr refl, tt)

clear_at : (docs : Documents) (makes : List ℕ → Bool) (s : Site) → AllByRecursion IsClear (rows_at docs makes s)
unfolding rows_at
clear_at docs makes s = clear_in s (λ ms. record { documents = docs; makes = makes; site = s; members = ms }) s.contents

-- ---- what has a cause

none_in : {A : Type 0} (x : A) → In x [] → ⊥
none_in x i = elim i [ ]

none_led : (row : Row) → IsClear row → (cause : BuildCause) → In cause row.causes → row.leads ≡ []
none_led row (inl none) cause i = absurd (none_in cause (subst (In cause) none i))
none_led row (inr none) cause i = none

pub wrong-leads-nowhere : (x : Context) (k : List ℕ) (d : Data) (cause : BuildCause) → In cause (row_at x k d).causes → (row_at x k d).leads ≡ []
wrong-leads-nowhere x k d = none_led (row_at x k d) (row_clear x k d)

pub wrong-row-leads-nowhere : (docs : Documents) (makes : List ℕ → Bool) (s : Site) (row : Row) (cause : BuildCause)
    → In row (rows_at docs makes s) → In cause row.causes → row.leads ≡ []
wrong-row-leads-nowhere docs makes s row cause i = none_led row (each_in IsClear (rows_at docs makes s) (clear_at docs makes s) row i) cause
