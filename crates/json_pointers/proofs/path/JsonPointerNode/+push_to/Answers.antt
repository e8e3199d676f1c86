use Rattle.std.proofs.Common.{◌++◌, ◌∷◌, [], ◌<◌, ◌+◌, length, string_bytes, string_len, ap, ◌∙◌, arith, length-append}
use Rattle.std.specs.String.{string_capacity}
use Rattle.json_values.specs.Pointers.{part_text, pointer_text}
use Rattle.json_pointers.specs.Lent.{part_of, path_of}
use Rattle.json_pointers.specs.declared.path.JsonPointerNode.{out-JsonPointerNode}
use Rattle.json_pointers.proofs.EscapeLemmas.{onto}
use Rattle.json_pointers.proofs.GrowLemmas.{grows_by, grows_either, completed, full_on, on_err, then_on}
use Rattle.json_pointers.proofs.NodeLemmas.{text_step, fits_step}
use Rattle.json_pointers.proofs.path.JsonPointerNode.+push_to.Goals as goal

pub returns-in_err-push_to-clause-full : goal.returns-in_err-push_to-clause-full
returns-in_err-push_to-clause-full t c =
    let lengths = simp length-append at (ap length (text_step c.args.self.now c.in-Some.parent c.in-Some.is)) in
    on_err {Q = string_capacity c.args.buffer.now < string_len c.args.buffer.now + length (pointer_text (path_of c.args.self.now))} c.from_residual.result (omega (arith, c.in_err-push_to.ensures.full, lengths))

pub returns-in_err-push-clause-full : goal.returns-in_err-push-clause-full
returns-in_err-push-clause-full t c =
    let lengths = simp length-append at (ap length (text_step c.args.self.now c.in-Some.parent c.in-Some.is)) in
    let pushed = simp length-append at (ap length c.in_ok-push_to.ensures.ok) in
    on_err {Q = string_capacity c.args.buffer.now < string_len c.args.buffer.now + length (pointer_text (path_of c.args.self.now))} c.from_residual-in_err-push.result
    (omega (arith, c.in_err-push.ensures.full, c.in_err-push.ensures.ascii_len, pushed, c.push_to.ensures.grows.capacity, c.push_to.new.buffer.bytes.ok.0, c.args.buffer.now.bytes.ok.0, lengths))

pub returns-clause-ok : goal.returns-clause-ok
unfolding lib.Utf8.encode
returns-clause-ok t c =
    let part = part_text (part_of (out-JsonPointerNode c.args.self.now).segment) in
    let bytes = c.in_ok-push.ensures.bytes ∙ ap (λ b. b ++ 47 ∷ []) c.in_ok-push_to.ensures.ok in
    let all = text_step c.args.self.now c.in-Some.parent c.in-Some.is in
    completed c.write_to.result _ _ _ c.write_to.ensures.ok
    (ap (λ b. b ++ part) bytes ∙ onto (string_bytes c.args.buffer.now) (pointer_text (path_of c.in-Some.parent.now)) (47 ∷ []) part _ all)

pub returns-clause-grows : goal.returns-clause-grows
unfolding lib.Utf8.encode
returns-clause-grows t c =
    grows_either c.write_to.result c.args.buffer.now c.push.new.self c.write_to.new.buffer (part_text (part_of (out-JsonPointerNode c.args.self.now).segment))
    (grows_by c.args.buffer.now c.push_to.new.buffer c.push.new.self (47 ∷ []) c.push_to.ensures.grows c.in_ok-push.ensures.bytes c.in_ok-push.ensures.capacity)
    c.write_to.ensures.ok c.write_to.ensures.err c.write_to.ensures.capacity

pub returns-clause-full : goal.returns-clause-full
returns-clause-full t c =
    let lengths = simp length-append at (ap length (text_step c.args.self.now c.in-Some.parent c.in-Some.is)) in
    let pushed = simp length-append at (ap length c.in_ok-push_to.ensures.ok) in
    full_on c.write_to.result c.write_to.ensures.full
    (λ h. omega (arith, h, c.in_ok-push.ensures.len, c.in_ok-push.ensures.ascii_len, c.in_ok-push.ensures.capacity, pushed, c.push_to.ensures.grows.capacity, c.push_to.new.buffer.bytes.ok.0, c.args.buffer.now.bytes.ok.0, lengths))

pub returns-clause-fits : goal.returns-clause-fits
returns-clause-fits t c =
    then_on c.write_to.result c.write_to.ensures.fits (λ h. fits_step c.args.self.now c.in-Some.parent c.in-Some.is c.in_ok-push_to.ensures.fits h)
