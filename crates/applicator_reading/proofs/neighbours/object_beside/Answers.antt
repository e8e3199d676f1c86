use Rattle.std.proofs.Common.{◌≡◌, ◌∙◌, [], Option, None, Some, Bor, option_map, refl, ap}
use Rattle.serde_json.specs.Data.{Members}
use Rattle.serde_json.specs.View.{members_view}
use Rattle.schema_definitions.specs.Words.{or}
use Rattle.schema_definitions.specs.Rows.{member_names, names_of_object}
use Rattle.applicators.specs.Shapes.{Schemas, names_declared}
use Rattle.applicator_reading.proofs.neighbours.object_beside.Goals as goal

names-found : (o : Option (Bor Schemas)) → names_declared o ≡ or [] (option_map member_names (option_map (λ m. members_view m.now.entries) o))
names-found None = refl
names-found (Some m) = refl

pub returns-in-Some : goal.returns-in-Some
returns-in-Some c =
    names-found c.as_object.result ∙ ap (λ (o : Option Members). or [] (option_map member_names o)) c.as_object.ensures ∙ ap names_of_object c.in-Some.ensures

pub returns-in-None : goal.returns-in-None
returns-in-None c = ap names_of_object c.in-None.ensures
