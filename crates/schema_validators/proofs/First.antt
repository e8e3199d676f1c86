-- The first cause is a cause.
use Rattle.std.proofs.Common.{ℕ, List, [], ◌∷◌, Bool, subst}
use Rattle.schema_definitions.specs.Bearers.{Documents}
use Rattle.schema_definitions.specs.BuildCauses.{IsCauseOf}
use Rattle.schema_definitions.specs.Rows as rows
use Rattle.schema_definitions.specs.Sites.{Site}
use Rattle.reached_sites.specs.Causes.{NamesCause}
use Rattle.reached_sites.specs.declared.cause.BuildCause.{BuildCause}
use Rattle.reached_sites.proofs.Listing.{in-one}
use Rattle.compiled_graphs.specs.First.{IsFirstCause}
use Rattle.compiled_graphs.proofs.Ordered.{first-from-one}

pub first_is_cause : (docs : Documents) (makes : List ℕ → Bool) (root : Site) (e : BuildCause) → IsFirstCause docs makes (root ∷ []) e → (c : rows.BuildCause) × NamesCause c e × IsCauseOf docs makes root c
first_is_cause docs makes root e first =
    let h = first-from-one docs makes (root ∷ []) e first in
    (h.cause, h.named, subst (λ (r : Site). IsCauseOf docs makes r h.cause) (in-one h.listed) h.stands)
