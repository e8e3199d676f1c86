use Rattle.std.proofs.Common.{◌∙◌, map, string_bytes, ap}
use Rattle.serde_json.specs.Find.{get_member}
use Rattle.serde_json.specs.View.{members_view}
use Rattle.schema_meaning.specs.Keywords.{none_there}
use Rattle.compiled_keywords.proofs.RequiredLemmas.{are_there, alike}
use Rattle.compiled_keywords.proofs.required.RequiredNames.are_in.Goals as goal

pub returns : goal.returns
returns c =
    let ms = members_view c.args.members.now.entries in
    let names = c.args.self.now in
    c.are_met.ensures ∙ ap (λ xs. are_there ms (map string_bytes xs)) c.as_slice.ensures.value
    ∙ alike (λ k. none_there (get_member k ms)) (map string_bytes names.rising.list.items) (map string_bytes names.listed.items) names.same
