use Rattle.std.proofs.Common.{List, ℕ, subst}
use Rattle.serde_json.proofs.Views.{Entry}
use Rattle.serde_json.specs.View.{view, members_view}
use Rattle.schema_definitions.specs.Rows.{Context, required_entry}
use Rattle.assertions.specs.Reads.{cause_of, IsRefusedFor}
use Rattle.assertions.proofs.EntryLemmas.{Left, left_stop}
use Rattle.assertions.proofs.names.first_refused.Goals as goal

pub returns-in-Some-2-clause-refused : goal.returns-in-Some-2-clause-refused
returns-in-Some-2-clause-refused c =
    let all = members_view c.args.entries.now.entries in
    let left = subst (λ (es : List Entry). Left all (members_view es)) c.in-Some.ensures.steps c.loop-name.invariant in
    let e = view c.in-Some.entry.now in
    let r = c.in-Some-2.refused in
    let told : (x : Context) (k : List ℕ) → IsRefusedFor (cause_of x k r) (required_entry x k c.as_str.result.now e) = rw c.in-Some-2.is at c.in_ok-refused.ensures.refused in
    left_stop all _ e (members_view c.next.new.self) r left (λ x k. subst (λ (n : List ℕ). IsRefusedFor (cause_of x k r) (required_entry x k n e)) c.as_str.ensures.value (told x k))
