use Rattle.std.proofs.Common.{sym}
use Rattle.serde_json.specs.View.{view}
use Rattle.schema_definitions.specs.Bearers.{is_root}
use Rattle.schema_places.proofs.PlainLaws.{no_schema}
use Rattle.schema_places.proofs.place.Place.schema_in_force.Goals as goal

pub returns-then-self : goal.returns-then-self
returns-then-self c = sym (no_schema (view c.args.self.now.contents.now) (c.args.self.now.plain c.if-self.true) c.args.self.now.dialect.siblings (is_root c.args.self.now.path))
