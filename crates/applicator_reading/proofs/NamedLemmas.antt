-- Members by their names.
use Rattle.std.proofs.Common.{◌≡◌, ℕ, List, true, sym, ap, ◌∙◌, subst}
use Rattle.serde_json.specs.Data.{Data}
use Rattle.schema_meaning.specs.Members.{is_listed}
use Rattle.schema_definitions.specs.Rows.{Context, readers, read_among}
use Rattle.applicator_reading.specs.Beside.{Surrounds}
use Rattle.applicator_reading.specs.Names.{applicator_names}
use Rattle.applicator_reading.specs.Reads.{ReadsAs}
use Rattle.applicator_reading.specs.declared.neighbours.Neighbours.{Neighbours}
use Rattle.applicator_reading.specs.declared.reading.Reading.{Reading}

pub read-at : (k known : List ℕ) (n : Neighbours) (d : Data) (r : Reading) → k ≡ known → ((x : Context) → Surrounds n x → ReadsAs x known (read_among readers x known d) r)
    → (x : Context) → Surrounds n x → ReadsAs x k (read_among readers x k d) r
read-at k known n d r is h = subst (λ (w : List ℕ). (x : Context) → Surrounds n x → ReadsAs x w (read_among readers x w d) r) (sym is) h

pub named-at : (k known : List ℕ) → k ≡ known → is_listed known applicator_names ≡ true → is_listed k applicator_names ≡ true
named-at k known is listed = ap (λ (w : List ℕ). is_listed w applicator_names) is ∙ listed
