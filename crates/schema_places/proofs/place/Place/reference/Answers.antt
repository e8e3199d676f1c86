use Rattle.std.proofs.Common.{sym}
use Rattle.serde_json.specs.View.{view}
use Rattle.schema_places.proofs.PlainLaws.{no_reference}
use Rattle.schema_places.proofs.place.Place.reference.Goals as goal

pub returns-then-self : goal.returns-then-self
returns-then-self c = sym (no_reference (view c.args.self.now.contents.now) (c.args.self.now.plain c.if-self.true))
