use Rattle.std.proofs.Common.{◌∙◌, ap, sym}
use Rattle.reading_laws.specs.Spelled.{spelled}
use Rattle.schema_definitions.specs.Sites.{target_site}
use Rattle.referencing.specs.Resolved.{target_in}
use Rattle.reached_sites.proofs.Meeting.{met-exactly}
use Rattle.reached_sites.proofs.visit.Visit.of_target.Goals as goal

pub returns-clause-met : goal.returns-clause-met
returns-clause-met c = λ s entered.
    let place = c.in_ok-of_target.ensures in
    let site = c.in_ok-site.ensures in
    let reference = c.args.text.now in
    let stands = site.stands s reference in
    met-exactly _ (target_site s reference (target_in c.args.target.now)) (sym place.document) (sym place.path) (sym site.contents) (ap spelled (sym place.road))
    (record { base = stands.base; scope = sym entered ∙ sym site.scope; dialect = stands.dialect })
