use Rattle.std.proofs.Common.{sym}
use Rattle.serde_json.specs.View.{view}
use Rattle.schema_dialects.specs.Dialects.{dialect_of}
use Rattle.schema_places.proofs.PlainLaws.{no_anchors_by}
use Rattle.schema_places.proofs.place.Place.anchor.Goals as goal

pub returns-then-self : goal.returns-then-self
returns-then-self c = sym (no_anchors_by (view c.args.self.now.contents.now) (c.args.self.now.plain c.if-self.true) c.args.self.now.dialect.draft (dialect_of c.args.self.now.dialect))
