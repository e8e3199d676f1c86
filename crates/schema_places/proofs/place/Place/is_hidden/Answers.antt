use Rattle.std.proofs.Common.{◌∙◌, not, sym, ap}
use Rattle.serde_json.specs.View.{view}
use Rattle.schema_dialects.specs.Dialects.{dialect_of}
use Rattle.schema_places.proofs.PlainLaws.{not_hidden}
use Rattle.schema_places.proofs.place.Place.is_hidden.Goals as goal

pub returns-else-not-self : goal.returns-else-not-self
returns-else-not-self c =
    ap not c.if-not-self.false
    ∙ sym (not_hidden (view c.args.self.now.contents.now) (c.args.self.now.plain c.if-not-self.false) (dialect_of c.args.self.now.dialect))
