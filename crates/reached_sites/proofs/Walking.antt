-- The rows of a visit.
use Rattle.std.proofs.Common.{◌≡◌, ℕ, List, Bool, ap}
use Rattle.serde_json.specs.Data.{Data, object, Members}
use Rattle.schema_definitions.specs.Bearers.{Document, Documents}
use Rattle.referencing.specs.Resolved.{documents_in}
use Rattle.schema_definitions.specs.Sites.{Site}
use Rattle.schema_definitions.specs.Rows.{Row, Context, row_at, rows_of, rows_in, rows_at}
use Rattle.reached_sites.specs.Members.{context_in}
use Rattle.reached_sites.specs.Visits.{site_of}
use Rattle.reached_sites.specs.declared.visit.Visit.{Visit}

abbrev pub own_of : Visit → List Document
own_of v = documents_in v.site.resolver

abbrev pub context_of : Visit → (List ℕ → Bool) → Members → Context
context_of v makes all = context_in (own_of v) makes (site_of v) all

abbrev pub row_here : Visit → (List ℕ → Bool) → Members → List ℕ → Data → Row
row_here v makes all k d = row_at (context_of v makes all) k d

abbrev pub contexts : Documents → (List ℕ → Bool) → Site → Members → Context
contexts docs makes s ms = record { documents = docs; makes = makes; site = s; members = ms }

pub rows-of-object : (docs : Documents) (makes : List ℕ → Bool) (s : Site) (ms : Members) → s.contents ≡ object ms
    → rows_at docs makes s ≡ rows_of (record { documents = docs; makes = makes; site = s; members = ms }) ms
unfolding rows_at
rows-of-object docs makes s ms e = ap (rows_in s (λ all. record { documents = docs; makes = makes; site = s; members = all })) e
