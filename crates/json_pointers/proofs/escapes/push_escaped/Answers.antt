use Rattle.std.proofs.Common.{◌++◌, Some, None, ap, ◌∙◌, lit<, rules, string_bytes, string_len, ◌<◌, ◌+◌, codes, length, length-append, arith}
use Rattle.std.specs.String.{string_capacity}
use Rattle.std.proofs.lemmas.Str.Pattern.{split_parts}
use Rattle.json_values.specs.Pointers.{escape, escape_slashes}
use Rattle.json_pointers.proofs.EscapeLemmas.{escape_cut, escape_plain, onto, onto_last}
use Rattle.json_pointers.proofs.GrowLemmas.{grows_by, grows_on, completed, full_on, on_err}
use Rattle.json_pointers.proofs.escapes.push_escaped.Goals as goal

pub loop-before-preserved : goal.loop-before-preserved
loop-before-preserved c =
    let cut = split_parts 126 c.loop-before.rest.now (Some (c.in-Some.before, c.in-Some.after)) c.in-Some.ensures.cases (lit< tt) in
    let bytes = c.in_ok-push_str.ensures.bytes ∙ ap (λ b. b ++ codes "~0") c.in_ok-push_slashes.ensures.ok in
    let all = escape_cut c.loop-before.rest.now c.in-Some.before.now c.in-Some.after.now cut in
    record {
      text = search rules;
      left = ap (λ b. b ++ escape c.in-Some.after.now) bytes
          ∙ onto (string_bytes c.loop-before.buffer) (escape_slashes c.in-Some.before.now) (codes "~0") (escape c.in-Some.after.now) _ all
          ∙ c.loop-before.invariant.left;
      grows = grows_by c.args.buffer.now c.push_slashes.new.buffer c.push_str.new.self (codes "~0")
          (grows_on c.args.buffer.now c.loop-before.buffer c.push_slashes.new.buffer c.loop-before.invariant.grows c.push_slashes.ensures.grows)
          c.in_ok-push_str.ensures.bytes c.in_ok-push_str.ensures.capacity;
    }

pub returns-clause-ok : goal.returns-clause-ok
returns-clause-ok c =
    let lacks = split_parts 126 c.loop-before.rest.now None c.in_default.ensures.cases (lit< tt) in
    let all = onto_last (string_bytes c.loop-before.buffer) (escape_slashes c.loop-before.rest.now) (escape c.loop-before.rest.now) (escape_plain c.loop-before.rest.now lacks) in
    completed c.push_slashes-2.result _ _ _ c.push_slashes-2.ensures.ok (all ∙ c.loop-before.invariant.left)

pub returns-clause-full : goal.returns-clause-full
returns-clause-full c =
    let lacks = split_parts 126 c.loop-before.rest.now None c.in_default.ensures.cases (lit< tt) in
    let same = ap length (escape_plain c.loop-before.rest.now lacks) in
    let lengths = simp length-append at (ap length c.loop-before.invariant.left) in
    full_on c.push_slashes-2.result c.push_slashes-2.ensures.full (λ h. omega (arith, h, same, lengths, c.loop-before.invariant.grows.capacity, c.loop-before.buffer.bytes.ok.0, c.args.buffer.now.bytes.ok.0))

pub returns-in_err-push_slashes-clause-full : goal.returns-in_err-push_slashes-clause-full
returns-in_err-push_slashes-clause-full c =
    let cut = split_parts 126 c.loop-before.rest.now (Some (c.in-Some.before, c.in-Some.after)) c.in-Some.ensures.cases (lit< tt) in
    let all = simp length-append at (ap length (escape_cut c.loop-before.rest.now c.in-Some.before.now c.in-Some.after.now cut)) in
    let lengths = simp length-append at (ap length c.loop-before.invariant.left) in
    on_err {Q = string_capacity c.args.buffer.now < string_len c.args.buffer.now + length (escape c.args.text.now)} c.from_residual.result (omega (arith, c.in_err-push_slashes.ensures.full, all, lengths, c.loop-before.invariant.grows.capacity, c.loop-before.buffer.bytes.ok.0, c.args.buffer.now.bytes.ok.0))

pub returns-in_err-push_str-clause-full : goal.returns-in_err-push_str-clause-full
returns-in_err-push_str-clause-full c =
    let cut = split_parts 126 c.loop-before.rest.now (Some (c.in-Some.before, c.in-Some.after)) c.in-Some.ensures.cases (lit< tt) in
    let all = simp length-append at (ap length (escape_cut c.loop-before.rest.now c.in-Some.before.now c.in-Some.after.now cut)) in
    let lengths = simp length-append at (ap length c.loop-before.invariant.left) in
    let pushed = simp length-append at (ap length c.in_ok-push_slashes.ensures.ok) in
    on_err {Q = string_capacity c.args.buffer.now < string_len c.args.buffer.now + length (escape c.args.text.now)} c.from_residual-in_err-push_str.result (omega (arith, c.in_err-push_str.ensures.full, pushed, c.push_slashes.ensures.grows.capacity, c.push_slashes.new.buffer.bytes.ok.0, all, lengths, c.loop-before.invariant.grows.capacity, c.loop-before.buffer.bytes.ok.0, c.args.buffer.now.bytes.ok.0))
