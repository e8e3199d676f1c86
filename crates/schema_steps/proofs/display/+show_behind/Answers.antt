use Rattle.std.proofs.Common.{sym, refl}
use Rattle.std.proofs.lemmas.Grind.{put_two}
use Rattle.schema_steps.proofs.StepLemmas.{text_step}
use Rattle.schema_steps.proofs.display.+show_behind.Goals as goal

pub returns : goal.returns
returns g t c = λ plain ok.
    let one = c.in_ok-show_behind.ensures plain refl in
    let two = c.write.ensures.writes one.plain ok in
    put_two g.W.Write.write_str_gives c.args.f.now c.show_behind.new.f c.write.new.self _ _ _ one two
    (sym (text_step c.args.steps c.next.new.self c.in-Some.step.now c.in-Some.ensures.steps))
