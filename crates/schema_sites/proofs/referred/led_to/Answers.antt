use Rattle.std.proofs.Common.{◌≡◌, ◌∙◌, sym, ap, false, Bor}
use Rattle.serde_json.specs.View.{view}
use Rattle.serde_json.specs.declared.value.Value.{Value}
use Rattle.schema_definitions.specs.Places.{is_schema}
use Rattle.referencing.specs.Resolved.{target_in}
use Rattle.schema_sites.specs.References.{kind_of, name_of}
use Rattle.schema_sites.proofs.ReferredLemmas.{led-elsewhere}
use Rattle.schema_sites.proofs.referred.led_to.Goals as goal

pub returns-then-not-is_schema-clause-refused : goal.returns-then-not-is_schema-clause-refused
returns-then-not-is_schema-clause-refused c = λ x d.
    let target = c.args.target in
    let other : is_schema (view target.contents.now) ≡ false = ap (λ (v : Bor Value). is_schema (view v.now)) (sym c.contents.ensures) ∙ sym c.if-not-is_schema.ensures in
    led-elsewhere (name_of c.args.keyword) (kind_of c.args.keyword) x c.args.text.now (target_in target) other
