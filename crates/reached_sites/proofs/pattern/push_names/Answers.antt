use Rattle.std.proofs.Common.{refl, sym, subst, ℕ, List, [], ◌∷◌, string_bytes}
use Rattle.serde_json.specs.View.{members_view}
use Rattle.json_values.specs.Parts.{Part, name}
use Rattle.schema_definitions.specs.Rows.{member_names}
use Rattle.document_index.specs.Seen.{name_of}
use Rattle.reached_sites.specs.Patterns.{Puts}
use Rattle.reached_sites.specs.Places.{place_in}
use Rattle.reached_sites.proofs.Placing.{member-in}
use Rattle.reached_sites.proofs.Putting.{puts-none, puts-one, puts-both}
use Rattle.reached_sites.proofs.pattern.push_names.Goals as goal

abbrev parts : List ℕ → List Part
parts p = name p ∷ []

pub loop-name-preserved : goal.loop-name-preserved
loop-name-preserved c = λ fin rest.
    let place = c.args.place.now in
    let at = place_in place in
    let n = string_bytes c.in-Some.name.now in
    let before = c.loop-name.patterns.items in
    let after = c.push.new.self.items in
    let there = sym (member-in (name_of place.document) place.path c.as_str-text.result.now place c.in_ok-member.field-0 refl c.in_ok-member.ensures.document c.in_ok-member.ensures.path) in
    let one = puts-one at parts before after _ n c.in_ok-push.ensures.items c.as_str-text.ensures.value there in
    c.loop-name.invariant fin
    (subst (λ es. Puts at parts (member_names (members_view es)) before fin) (sym c.in-Some.ensures.steps)
    (puts-both at parts before after fin (n ∷ []) (member_names (members_view c.next.new.self)) one rest))

pub returns : goal.returns
returns c =
    let at = place_in c.args.place.now in
    let patterns = c.loop-name.patterns.items in
    c.loop-name.invariant patterns
    (subst (λ es. Puts at parts (member_names (members_view es)) patterns patterns) (sym c.in-None.ensures.steps.0) (puts-none at parts patterns))
