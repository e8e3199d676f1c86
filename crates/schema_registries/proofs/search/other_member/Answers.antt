use Rattle.std.proofs.Common.{◌≡◌, ◌∙◌, ◌∷◌, ap, rules, string_bytes, subst, sym}
use Rattle.serde_json.specs.View.{members_view}
use Rattle.json_values.specs.Parts.{name}
use Rattle.json_values.proofs.Walked.{entries_rise}
use Rattle.schema_registries.proofs.Nearer.{Left, left_at_first, left_behind, first_left}
use Rattle.schema_registries.proofs.search.other_member.Goals as goal

pub loop-name-init : goal.loop-name-init
loop-name-init c =
    let entries = c.args.members.now.entries in
    let same : c.into_iter-name-iterator.result ≡ entries = search rules in
    subst (λ es. Left (members_view es) (members_view entries)) (sym same) (left_at_first (members_view entries) c.requires (entries_rise entries c.len-count.ensures.ordered))

pub loop-name-preserved : goal.loop-name-preserved
loop-name-preserved c =
    left_behind c.loop-name.name-iterator c.next.new.self (c.in-Some.name.now, c.in-Some.member.now) (members_view c.args.members.now.entries) c.in-Some.ensures.steps
    (sym c.has_only_whole.ensures.whole ∙ c.if-not-has_only_whole.false) c.loop-name.invariant

pub returns-then-not-has_only_whole : goal.returns-then-not-has_only_whole
returns-then-not-has_only_whole c = record {
  part = name (string_bytes c.in-Some.name.now);
  further = c.in_ok-push_name.ensures ∙ ap (λ t. name t ∷ c.args.path.now) c.as_str.ensures.value;
  leads = first_left c.loop-name.name-iterator c.next.new.self (c.in-Some.name.now, c.in-Some.member.now) (members_view c.args.members.now.entries) c.in-Some.ensures.steps c.loop-name.invariant;
  not_whole = sym c.has_only_whole.ensures.whole ∙ c.if-not-has_only_whole.true;
}
