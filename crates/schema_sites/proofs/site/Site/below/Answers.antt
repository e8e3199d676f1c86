use Rattle.std.proofs.Common.{◌∙◌, refl, ap, ℕ, List}
use Rattle.serde_json.specs.View.{view}
use Rattle.schema_definitions.specs.Places.{entered}
use Rattle.schema_dialects.specs.Dialects.{dialect_of, dialects_in}
use Rattle.schema_sites.specs.Seen.{documents_at}
use Rattle.schema_sites.proofs.Standing.{below-stands}
use Rattle.schema_sites.proofs.site.Site.below.Goals as goal

pub returns-clause-stands : goal.returns-clause-stands
returns-clause-stands c = λ s added stands.
    let self = c.args.self.now in
    let d = view c.args.contents.now in
    let known = c.meta_schemas-known.result.now in
    below-stands (documents_at self) known c.meta_schemas-known.ensures self _ s added d c.in_ok-settled.settled stands refl c.in_ok-at.ensures.base refl
    (λ path. c.in_ok-settled.ensures path ∙ ap (λ (b : List ℕ). entered (dialects_in known) b (dialect_of self.dialect) path d) c.in_ok-base.ensures)
