use Rattle.std.proofs.Common.{◌≡◌, ◌∙◌, Some, sym, ap, inr}
use Rattle.serde_json.specs.View.{view}
use Rattle.schema_definitions.specs.Identifiers.{identifier_text}
use Rattle.schema_definitions.specs.Lookup.{invalid_uri}
use Rattle.schema_definitions.specs.Rows.{Place, bad_reference}
use Rattle.schema_dialects.specs.Dialects.{dialect_of}
use Rattle.reached_sites.specs.Places.{place_in}
use Rattle.reached_sites.proofs.Identified.{wrongly-named}
use Rattle.reached_sites.proofs.identifying.check_identifier.Goals as goal

pub returns-clause-refused : goal.returns-clause-refused
returns-clause-refused c = λ s m.
    let v = c.args.visit.now in
    let i = c.in-Some.text.now in
    let text : identifier_text (dialect_of v.site.dialect) (view v.site.contents.now) ≡ Some i = sym c.in-Some.ensures in
    inr (
      bad_reference (place_in v.point.place) (invalid_uri i),
      (invalid_uri i, ap invalid_uri (sym c.in_ok-uri.ensures.ok), ap (λ (p : Place). bad_reference p (invalid_uri i)) (sym c.in_ok-shared.ensures)),
      wrongly-named v s m i text (sym c.if-is_uri_reference.ensures),
    )

pub returns-clause-tells : goal.returns-clause-tells
returns-clause-tells c = inr (sym c.in-Some.ensures ∙ ap Some (sym c.in_ok-from_str.ensures.ok))
