-- Keywords that apply the schemas in their values.
use Rattle.std.proofs.Common.{◌≡◌, ◌∙◌, sym, ap, subst, ℕ, List, true}
use Rattle.serde_json.specs.Data.{Data, Members}
use Rattle.serde_json.specs.View.{members_view}
use Rattle.schema_definitions.specs.Rows.{Row, BuildCause, Context, counts_here, nothing_read, readers, read_among, row_at}
use Rattle.applicator_reading.specs.Beside as beside
use Rattle.applicator_reading.specs.Reads as applying
use Rattle.applicator_reading.specs.declared.neighbours.Neighbours.{Neighbours}
use Rattle.assertions.specs.Reads.{IsCause}
use Rattle.schema_sites.specs.Read.{IsRowOf, Surrounds}
use Rattle.schema_sites.specs.Refused.{Refuses}
use Rattle.schema_sites.specs.declared.keyword.Keyword.{Keyword}
use Rattle.schema_sites.specs.declared.keyword.Refusal.{Refusal}
use Rattle.schema_sites.specs.declared.site.Site as code
use Rattle.schema_sites.proofs.ArmLemmas.{row-if}
use Rattle.schema_sites.proofs.MadeLemmas.{same-row}

pub same-cause : (cause : BuildCause) (row : Row) → applying.IsCause cause row → IsCause cause row
same-cause cause row h = record { stands = h.stands; alone = h.alone }

pub surrounded : (c : code.Site) (ms : Members) (n : Neighbours) (x : Context) → n.dialect ≡ c.dialect → members_view n.members.now.entries ≡ ms → Surrounds c ms x → beside.Surrounds n x
surrounded c ms n x dialect members s = record {
  dialect = s.stands.dialect ∙ ap (λ y. Rattle.schema_dialects.specs.Dialects.dialect_of y) (sym dialect);
  members = s.members ∙ sym members;
}

-- its row where the name counts
pub row-counted : (x : Context) (k : List ℕ) (d : Data) → counts_here x k ≡ true → row_at x k d ≡ read_among readers x k d
row-counted x k d counted = row-if (counts_here x k) (read_among readers x k d) nothing_read counted

pub refused-counted : (x : Context) (k : List ℕ) (d : Data) → counts_here x k ≡ true → (e : Refusal) → Refuses x k d (read_among readers x k d) e → Refuses x k d (row_at x k d) e
refused-counted x k d counted e h = subst (λ (r : Row). Refuses x k d r e) (sym (row-counted x k d counted)) h

pub read-counted : (x : Context) (k : List ℕ) (d : Data) → counts_here x k ≡ true → (r : Keyword) → IsRowOf x k (read_among readers x k d) r → IsRowOf x k (row_at x k d) r
read-counted x k d counted r h = same-row x k (row_at x k d) (read_among readers x k d) r (row-counted x k d counted) h
