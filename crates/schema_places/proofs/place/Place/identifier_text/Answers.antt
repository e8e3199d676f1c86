use Rattle.std.proofs.Common.{sym}
use Rattle.serde_json.specs.View.{view}
use Rattle.schema_dialects.specs.Dialects.{dialect_of}
use Rattle.schema_places.proofs.PlainLaws.{no_identifier_text}
use Rattle.schema_places.proofs.place.Place.identifier_text.Goals as goal

pub returns-then-self : goal.returns-then-self
returns-then-self c = sym (no_identifier_text (view c.args.self.now.contents.now) (c.args.self.now.plain c.if-self.true) (dialect_of c.args.self.now.dialect))
