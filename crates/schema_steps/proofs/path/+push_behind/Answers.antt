use Rattle.std.proofs.Common.{◌++◌, ◌∷◌, [], ◌<◌, ◌+◌, length, map, reverse, string_bytes, string_len, ap, ◌∙◌, arith, length-append}
use Rattle.std.specs.String.{string_capacity}
use Rattle.json_values.specs.Pointers.{part_text, pointer_text}
use Rattle.json_pointers.proofs.EscapeLemmas.{onto}
use Rattle.json_pointers.proofs.GrowLemmas.{completed, full_on, on_err, then_on}
use Rattle.schema_steps.specs.Steps.{step_part}
use Rattle.schema_steps.proofs.StepLemmas.{text_step, fits_step}
use Rattle.schema_steps.proofs.path.+push_behind.Goals as goal

pub returns-in_err-push_behind-clause-full : goal.returns-in_err-push_behind-clause-full
returns-in_err-push_behind-clause-full t c =
    let lengths = simp length-append at (ap length (text_step c.args.steps c.next.new.self c.in-Some.step.now c.in-Some.ensures.steps)) in
    on_err {Q = string_capacity c.args.buffer.now < string_len c.args.buffer.now + length (pointer_text (reverse (map step_part c.args.steps)))} c.from_residual.result (omega (arith, c.in_err-push_behind.ensures.full, lengths))

pub returns-in_err-push-clause-full : goal.returns-in_err-push-clause-full
returns-in_err-push-clause-full t c =
    let lengths = simp length-append at (ap length (text_step c.args.steps c.next.new.self c.in-Some.step.now c.in-Some.ensures.steps)) in
    let pushed = simp length-append at (ap length c.in_ok-push_behind.ensures.ok) in
    on_err {Q = string_capacity c.args.buffer.now < string_len c.args.buffer.now + length (pointer_text (reverse (map step_part c.args.steps)))} c.from_residual-in_err-push.result
    (omega (arith, c.in_err-push.ensures.full, c.in_err-push.ensures.ascii_len, pushed, c.push_behind.ensures.grows.capacity, c.push_behind.new.buffer.bytes.ok.0, c.args.buffer.now.bytes.ok.0, lengths))

pub returns-clause-ok : goal.returns-clause-ok
unfolding lib.Utf8.encode
returns-clause-ok t c =
    let part = part_text (step_part c.in-Some.step.now) in
    let bytes = c.in_ok-push.ensures.bytes ∙ ap (λ b. b ++ 47 ∷ []) c.in_ok-push_behind.ensures.ok in
    let all = text_step c.args.steps c.next.new.self c.in-Some.step.now c.in-Some.ensures.steps in
    completed c.write_to.result _ _ _ c.write_to.ensures.ok
    (ap (λ b. b ++ part) bytes ∙ onto (string_bytes c.args.buffer.now) (pointer_text (reverse (map step_part c.next.new.self))) (47 ∷ []) part _ all)

pub returns-clause-full : goal.returns-clause-full
returns-clause-full t c =
    let lengths = simp length-append at (ap length (text_step c.args.steps c.next.new.self c.in-Some.step.now c.in-Some.ensures.steps)) in
    let pushed = simp length-append at (ap length c.in_ok-push_behind.ensures.ok) in
    full_on c.write_to.result c.write_to.ensures.full
    (λ h. omega (arith, h, c.in_ok-push.ensures.len, c.in_ok-push.ensures.ascii_len, c.in_ok-push.ensures.capacity, pushed, c.push_behind.ensures.grows.capacity, c.push_behind.new.buffer.bytes.ok.0, c.args.buffer.now.bytes.ok.0, lengths))

pub returns-clause-fits : goal.returns-clause-fits
returns-clause-fits t c =
    then_on c.write_to.result c.write_to.ensures.fits (λ h. fits_step c.args.steps c.next.new.self c.in-Some.step.now c.in-Some.ensures.steps c.in_ok-push_behind.ensures.fits h)
