-- What is read at a site holds at those that are alike.
use Rattle.std.proofs.Common.{List, [], ◌∷◌}
use Rattle.std.specs.List.{AllZip}
use Rattle.schema_definitions.specs.Bearers.{Documents}
use Rattle.schema_definitions.specs.Rows.{Row}
use Rattle.reading_laws.proofs.Results.{zip_append}
use Rattle.reading_laws.specs.SiteLaws.{AreAlike, RowsAgree}
use Rattle.reached_sites.specs.Led.{leads_in}

pub alike-leads : (docs : Documents) (rs qs : List Row) → AllZip (RowsAgree docs) rs qs → AllZip (AreAlike docs) (leads_in rs) (leads_in qs)
alike-leads docs [] [] z = tt
alike-leads docs [] (q ∷ qs) z = absurd z
alike-leads docs (r ∷ rs) [] z = absurd z
alike-leads docs (r ∷ rs) (q ∷ qs) z = zip_append (AreAlike docs) r.leads q.leads (leads_in rs) (leads_in qs) z.0.leads (alike-leads docs rs qs z.1)
