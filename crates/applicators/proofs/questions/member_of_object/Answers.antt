use Rattle.std.proofs.Common.{◌≡◌, Some, option_map, string_bytes, is_eq, sym, ap, ◌∙◌}
use Rattle.std.proofs.lemmas.Slice.Eq.{bytes_eq-Decides}
use Rattle.std.proofs.lemmas.Map.Text.{is_eq-slice_cmp}
use Rattle.serde_json.proofs.Views.{view-lookup}
use Rattle.serde_json.specs.Find.{get_member}
use Rattle.serde_json.specs.View.{view, members_view}
use Rattle.schema_meaning.specs.Places.{to_member}
use Rattle.applicators.proofs.questions.member_of_object.Goals as goal

pub returns-in-Some : goal.returns-in-Some
returns-in-Some c =
    let name = c.args.name.now in
    let key = string_bytes c.in-Some.name.now in
    let same : name ≡ key = (bytes_eq-Decides name key).0 (sym (is_eq-slice_cmp name key) ∙ ap is_eq c.in-Some.ensures.same_key) in
    let found : Some (view c.in-Some.member.now) ≡ get_member name (members_view c.args.members.now.entries) = ap (option_map view) c.in-Some.ensures.value ∙ view-lookup name c.args.members.now.entries in
    ap (λ k. Some (to_member k (view c.in-Some.member.now))) (c.as_str.ensures.value ∙ sym same) ∙ ap (option_map (to_member name)) found

pub returns-in-None : goal.returns-in-None
returns-in-None c =
    let name = c.args.name.now in
    ap (option_map (to_member name)) (ap (option_map view) c.in-None.ensures.value ∙ view-lookup name c.args.members.now.entries)
