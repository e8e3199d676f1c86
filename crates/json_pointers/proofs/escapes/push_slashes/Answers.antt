use Rattle.std.proofs.Common.{◌++◌, Some, None, ap, ◌∙◌, lit<, rules, string_bytes, string_len, ◌<◌, ◌+◌, codes, length, length-append, arith}
use Rattle.std.specs.String.{string_capacity}
use Rattle.std.proofs.lemmas.Str.Pattern.{split_parts}
use Rattle.json_values.specs.Pointers.{escape_slashes}
use Rattle.json_pointers.proofs.EscapeLemmas.{slashes_cut, escape_slashes_plain, onto, onto_last}
use Rattle.json_pointers.proofs.GrowLemmas.{grows_by, appended, full_on, on_err}
use Rattle.json_pointers.proofs.escapes.push_slashes.Goals as goal

pub loop-before-preserved : goal.loop-before-preserved
loop-before-preserved c =
    let cut = split_parts 47 c.loop-before.rest.now (Some (c.in-Some.before, c.in-Some.after)) c.in-Some.ensures.cases (lit< tt) in
    let bytes = c.in_ok-push_str-2.ensures.bytes ∙ ap (λ b. b ++ codes "~1") c.in_ok-push_str.ensures.bytes in
    let all = slashes_cut c.loop-before.rest.now c.in-Some.before.now c.in-Some.after.now cut in
    record {
      text = search rules;
      left = ap (λ b. b ++ escape_slashes c.in-Some.after.now) bytes
          ∙ onto (string_bytes c.loop-before.buffer) c.in-Some.before.now (codes "~1") (escape_slashes c.in-Some.after.now) _ all
          ∙ c.loop-before.invariant.left;
      grows = grows_by c.args.buffer.now c.push_str.new.self c.push_str-in-Some.new.self (codes "~1")
          (grows_by c.args.buffer.now c.loop-before.buffer c.push_str.new.self c.in-Some.before.now c.loop-before.invariant.grows c.in_ok-push_str.ensures.bytes c.in_ok-push_str.ensures.capacity)
          c.in_ok-push_str-2.ensures.bytes c.in_ok-push_str-2.ensures.capacity;
    }

pub returns-clause-ok : goal.returns-clause-ok
returns-clause-ok c =
    let lacks = split_parts 47 c.loop-before.rest.now None c.in_default.ensures.cases (lit< tt) in
    let all = onto_last (string_bytes c.loop-before.buffer) c.loop-before.rest.now (escape_slashes c.loop-before.rest.now) (escape_slashes_plain c.loop-before.rest.now lacks) in
    appended c.push_str-2.result (string_bytes c.push_str-2.new.self) (string_bytes c.loop-before.buffer) c.loop-before.rest.now _ c.push_str-2.ensures.bytes (all ∙ c.loop-before.invariant.left)

pub returns-clause-full : goal.returns-clause-full
returns-clause-full c =
    let lacks = split_parts 47 c.loop-before.rest.now None c.in_default.ensures.cases (lit< tt) in
    let same = ap length (escape_slashes_plain c.loop-before.rest.now lacks) in
    let lengths = simp length-append at (ap length c.loop-before.invariant.left) in
    full_on c.push_str-2.result c.push_str-2.ensures.full (λ h. omega (arith, h, same, lengths, c.loop-before.invariant.grows.capacity, c.loop-before.buffer.bytes.ok.0, c.args.buffer.now.bytes.ok.0))

pub returns-in_err-push_str-clause-full : goal.returns-in_err-push_str-clause-full
returns-in_err-push_str-clause-full c =
    let cut = split_parts 47 c.loop-before.rest.now (Some (c.in-Some.before, c.in-Some.after)) c.in-Some.ensures.cases (lit< tt) in
    let all = simp length-append at (ap length (slashes_cut c.loop-before.rest.now c.in-Some.before.now c.in-Some.after.now cut)) in
    let lengths = simp length-append at (ap length c.loop-before.invariant.left) in
    on_err {Q = string_capacity c.args.buffer.now < string_len c.args.buffer.now + length (escape_slashes c.args.text.now)} c.from_residual.result (omega (arith, c.in_err-push_str.ensures.full, all, lengths, c.loop-before.invariant.grows.capacity, c.loop-before.buffer.bytes.ok.0, c.args.buffer.now.bytes.ok.0))

pub returns-in_err-push_str-2-clause-full : goal.returns-in_err-push_str-2-clause-full
returns-in_err-push_str-2-clause-full c =
    let cut = split_parts 47 c.loop-before.rest.now (Some (c.in-Some.before, c.in-Some.after)) c.in-Some.ensures.cases (lit< tt) in
    let all = simp length-append at (ap length (slashes_cut c.loop-before.rest.now c.in-Some.before.now c.in-Some.after.now cut)) in
    let lengths = simp length-append at (ap length c.loop-before.invariant.left) in
    on_err {Q = string_capacity c.args.buffer.now < string_len c.args.buffer.now + length (escape_slashes c.args.text.now)} c.from_residual-in_err-push_str-2.result (omega (arith, c.in_err-push_str-2.ensures.full, c.in_ok-push_str.ensures.len, c.in_ok-push_str.ensures.capacity, all, lengths, c.loop-before.invariant.grows.capacity, c.loop-before.buffer.bytes.ok.0, c.args.buffer.now.bytes.ok.0))
