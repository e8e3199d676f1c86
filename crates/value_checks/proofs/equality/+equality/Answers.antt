use Rattle.std.proofs.Common.{◌≡◌, length, false, [], ◌∷◌, sym, ap, ◌∙◌, string_bytes, bytes_eq}
use Rattle.value_checks.proofs.Walked.{other_lengths, in_step, same_in_step, other_counts, names_differ, values_differ, flipped, nothing_left}
use Rattle.json_values.proofs.Walked.{entries_rise}
use Rattle.serde_json.specs.Data.{member}
use Rattle.serde_json.proofs.Views.{items_len-items_view, members_len-members_view}
use Rattle.serde_json.specs.View.{view, items_view, members_view}
use Rattle.value_checks.proofs.equality.+equality.Goals as goal
use Rattle.value_checks.proofs.equality.+equality.Goals.{equal_members-then-ne-via-then-ne, equal_members-then-ne-via-else-ne+then-not-equal}

pub equal_items-returns-then-ones-others : goal.equal_items-returns-then-ones-others
equal_items-returns-then-ones-others t c =
    let ds = c.args.ones.now in let es = c.args.others.now in
    sym (other_lengths (items_view ds) (items_view es) (λ s.
    c.if-ones-others.true (sym (items_len-items_view ds) ∙ s ∙ items_len-items_view es)))

pub equal_members-returns-then-len : goal.equal_members-returns-then-len
equal_members-returns-then-len t c =
    let ms = c.args.ones.now.entries in let ns = c.args.others.now.entries in
    sym (same_in_step (members_view ms) (members_view ns) (entries_rise ms c.len.ensures.ordered) (entries_rise ns c.len-2.ensures.ordered)
    ∙ other_counts (members_view ms) (members_view ns) (λ s.
    (let e : length ms ≡ length ns = sym (members_len-members_view ms) ∙ s ∙ members_len-members_view ns in
    c.if-len.true (c.len.ensures.len ∙ e ∙ sym c.len-2.ensures.len))))

pub equal_members-returns-in_default : goal.equal_members-returns-in_default
equal_members-returns-in_default t c =
    let l = c.loop-name in
    let ms = c.args.ones.now.entries in let ns = c.args.others.now.entries in
    let h = c.in_default.ensures.steps in
    sym (same_in_step (members_view ms) (members_view ns) (entries_rise ms c.len.ensures.ordered) (entries_rise ns c.len-2.ensures.ordered)
    ∙ l.invariant.same
    ∙ ap (λ es. in_step (members_view es) (members_view l.rest)) c.in-Some.ensures.steps
    ∙ ap (λ es. in_step (members_view ((c.in-Some.name.now, c.in-Some.one.now) ∷ c.next.new.self)) (members_view es)) h.0)

pub equal_members-returns-then-ne : goal.equal_members-returns-then-ne
equal_members-returns-then-ne t c =
    let l = c.loop-name in
    let ms = c.args.ones.now.entries in let ns = c.args.others.now.entries in
    let k = string_bytes c.in-Some.name.now in
    let n = string_bytes c.in-Some-next.other_name.now in
    let d = view c.in-Some.one.now in
    let e = view c.in-Some-next.other.now in
    let more = members_view c.next.new.self in
    let others = members_view c.next-in-loop-name.new.self in
    let here : in_step (members_view l.name-iterator) (members_view l.rest) ≡ in_step (member k d more) (member n e others) =
    ap (λ es. in_step (members_view es) (members_view l.rest)) c.in-Some.ensures.steps
    ∙ ap (λ es. in_step (member k d more) (members_view es)) c.in-Some-next.ensures.steps in
    let differ : in_step (member k d more) (member n e others) ≡ false =
    elim c.then-ne.branch [
      | equal_members-then-ne-via-then-ne w ↦
          names_differ k n d e more others
          (ap (λ x. bytes_eq x n) (sym c.as_str.ensures.value) ∙ ap (bytes_eq c.as_str.result.now) (sym c.as_str-in-loop-name.ensures.value)
          ∙ flipped (bytes_eq c.as_str.result.now c.as_str-in-loop-name.result.now) c.ne.result c.ne.ensures w.if-ne.true)
      | equal_members-then-ne-via-else-ne+then-not-equal w ↦ values_differ k n d e more others (sym w.equal.ensures ∙ w.if-not-equal.true)
    ] in
    sym (same_in_step (members_view ms) (members_view ns) (entries_rise ms c.len.ensures.ordered) (entries_rise ns c.len-2.ensures.ordered)
    ∙ l.invariant.same ∙ here ∙ differ)

pub equal_members-returns : goal.equal_members-returns
equal_members-returns t c =
    let l = c.loop-name in
    let ms = c.args.ones.now.entries in let ns = c.args.others.now.entries in
    let h = c.in-None.ensures.steps in
    let none : l.rest ≡ [] = nothing_left l.rest (sym (ap length h.0) ∙ l.invariant.long) in
    sym (same_in_step (members_view ms) (members_view ns) (entries_rise ms c.len.ensures.ordered) (entries_rise ns c.len-2.ensures.ordered)
    ∙ l.invariant.same
    ∙ ap (λ es. in_step (members_view es) (members_view l.rest)) h.0
    ∙ ap (λ es. in_step (members_view []) (members_view es)) none)
