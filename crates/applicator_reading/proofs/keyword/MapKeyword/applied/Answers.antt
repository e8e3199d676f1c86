use Rattle.std.proofs.Common.{◌≡◌, List, sym, subst, ap}
use Rattle.serde_json.specs.View.{members_view}
use Rattle.schema_definitions.specs.Sites.{Site}
use Rattle.schema_definitions.specs.Rows.{sites_named}
use Rattle.applicators.specs.Asks.{leads_by}
use Rattle.applicators.specs.Shapes.{sites_of_map}
use Rattle.applicator_reading.specs.Arms.{map_name}
use Rattle.applicator_reading.specs.declared.keyword.MapKeyword.{MapKeyword}
use Rattle.applicator_reading.proofs.keyword.MapKeyword.applied.Goals as goal
use Rattle.applicator_reading.proofs.keyword.MapKeyword.applied.Goals.{in-Properties, in-PatternProperties, in-DependentSchemas}

pub returns-clause-leads : goal.returns-clause-leads
returns-clause-leads c = λ site.
    let ms = members_view c.args.schemas.now.entries in
    let leads : MapKeyword → List Site = λ m. sites_named (sites_of_map site (map_name m) ms) in
    elim c.match-self.branch [
      | in-Properties w ↦ subst (λ t. leads_by site t.0.now t.1 ≡ leads c.args.self) (sym w.t-6-is) (ap leads (sym w.in-Properties.is))
      | in-PatternProperties w ↦ subst (λ t. leads_by site t.0.now t.1 ≡ leads c.args.self) (sym w.t-6-is) (ap leads (sym w.in-PatternProperties.is))
      | in-DependentSchemas w ↦ subst (λ t. leads_by site t.0.now t.1 ≡ leads c.args.self) (sym w.t-6-is) (ap leads (sym w.in-DependentSchemas.is))
    ]
