-- When a member of a schema is refused.
use Rattle.std.specs.Prelude.{◌≡◌, ℕ, List, [], ◌∷◌, true, codes}
use Rattle.serde_json.specs.Data.{Data, Members}
use Rattle.json_values.specs.Parts.{name, index}
use Rattle.assertions.specs.Reads.{IsCause}
use Rattle.schema_definitions.specs.Lookup.{LookupCause}
use Rattle.referencing.specs.Resolved.{target_in}
use Rattle.document_sources.specs.Causes.{NamesLookup}
use Rattle.schema_definitions.specs.Rows.{Row, keyword_value, left_out, bad_reference, Context, counts_here, row_at, place_at, at}
use Rattle.applicator_reading.specs.Beside as beside
use Rattle.applicator_reading.specs.declared.neighbours.Neighbours.{Neighbours}
use Rattle.schema_sites.specs.Read.{Surrounds}
use Rattle.schema_sites.specs.declared.site.Site as code
use Rattle.schema_sites.specs.declared.keyword.Refusal.{Refusal}
use Rattle.schema_sites.specs.declared.keyword.Refusal.TheVariants as refusal

-- what a refusal says of a member's row
abbrev pub Refuses : Context → List ℕ → Data → Row → Refusal → Type 0
Refuses x k d row (refusal.Value expected) = IsCause (keyword_value (place_at x (at k)) expected.now) row
Refuses x k d row (refusal.Entry n expected) = IsCause (keyword_value (place_at x (name n.now ∷ name k ∷ [])) expected.now) row
Refuses x k d row (refusal.Element i expected) = IsCause (keyword_value (place_at x (index i ∷ name k ∷ [])) expected.now) row
Refuses x k d row (refusal.Target target) = IsCause (keyword_value (record { document = (target_in target).document; path = (target_in target).path }) (codes "schema")) row
Refuses x k d row (refusal.Reference error) = (cause : LookupCause) × NamesLookup cause error × IsCause (bad_reference (place_at x (at k)) cause) row
Refuses x k d row refusal.LeftOut = IsCause (left_out (place_at x (at k))) row
Refuses x k d row refusal.Memory = Unit {0}

-- the same in each context of a site where the keyword counts
abbrev pub RefusedAs : code.Site → Members → List ℕ → Data → (Context → Row) → Refusal → Type 0
RefusedAs c ms k d row e = (x : Context) → Surrounds c ms x → counts_here x k ≡ true → Refuses x k d (row x) e

-- the same beside these neighbours
abbrev pub RefusedBeside : Neighbours → List ℕ → Data → (Context → Row) → Refusal → Type 0
RefusedBeside n k d row e = (x : Context) → beside.Surrounds n x → counts_here x k ≡ true → Refuses x k d (row x) e

-- where its name counts
abbrev pub RefusedCounted : Neighbours → List ℕ → Data → Refusal → Type 0
RefusedCounted n k d e = (x : Context) → beside.Surrounds n x → counts_here x k ≡ true → Refuses x k d (row_at x k d) e
