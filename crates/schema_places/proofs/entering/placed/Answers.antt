use Rattle.std.proofs.Common.{◌≡◌, ◌∙◌, ℕ, List, None, sym, ap₂}
use Rattle.serde_json.specs.View.{view}
use Rattle.json_values.specs.Parts.{Part}
use Rattle.schema_definitions.specs.Places.{SchemaPlace}
use Rattle.schema_dialects.specs.Dialects.{dialect_of, dialects_in}
use Rattle.schema_places.specs.Plain.{IsPlain}
use Rattle.schema_places.proofs.PlainLaws.{placed_plainly}
use Rattle.schema_places.proofs.entering.placed.Goals as goal

pub returns-then-is_plain : goal.returns-then-is_plain
returns-then-is_plain c =
    let d = view c.args.contents.now in
    let plain : IsPlain d = sym c.is_plain.ensures ∙ c.if-is_plain.true in
    let at : List Part → List ℕ → SchemaPlace = λ path base. record { path = path; contents = d; base = base; dialect = dialect_of c.args.dialect; awaits = None } in
    ap₂ at c.path.view_is c.in_ok-clone.ensures.cases
    ∙ sym (placed_plainly d plain (dialects_in c.args.known.now) c.args.outer.now.value (dialect_of c.args.dialect) c.args.is_root c.args.path)
