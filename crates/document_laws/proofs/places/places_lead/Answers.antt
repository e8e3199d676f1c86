use Rattle.serde_json.specs.View.{view}
use Rattle.document_laws.proofs.Leading.{places_lead}
use Rattle.document_laws.proofs.places.places_lead.Goals as goal

pub returns : goal.returns
returns c = places_lead (view c.args.contents.now) c.names_rise.ensures
