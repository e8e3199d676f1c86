use Rattle.std.proofs.Common.{◌≡◌, ◌++◌, map, get_or, sym, ap, ◌∙◌}
use Rattle.std.proofs.lemmas.List.{get_or-map}
use Rattle.std.proofs.lemmas.Result.{on_ok_weaker}
use Rattle.schema_definitions.specs.Places.{SchemaPlace, children}
use Rattle.schema_dialects.specs.Dialects.{dialects_in}
use Rattle.schema_places.specs.Seen.{place_of}
use Rattle.schema_places.proofs.document.push_below.Goals as goal

pub returns : goal.returns
returns c =
    let items = c.args.found.now.items in
    let copied : (p : SchemaPlace) → place_of c.in_ok-place.place ≡ get_or (map place_of items) c.args.position p =
    λ p. c.in_ok-place.ensures.cases ∙ ap place_of c.index.ensures ∙ sym (get_or-map place_of items c.args.position c.index.result.now p c.requires) in
    on_ok_weaker c.push_children.result (λ e p. e ∙ ap (λ q. map place_of items ++ children (dialects_in c.args.known.now) q) (copied p)) c.push_children.ensures
