use Rattle.std.proofs.Common.{Some, None, sym, refl, ◌∙◌, lit<, codes, append_assoc}
use Rattle.std.proofs.lemmas.Grind.{put_two}
use Rattle.std.proofs.lemmas.Str.Pattern.{split_parts}
use Rattle.json_values.specs.Pointers.{escape_slashes}
use Rattle.json_pointers.proofs.EscapeLemmas.{slashes_cut, escape_slashes_plain}
use Rattle.schema_steps.proofs.display.+show_slashes.Goals as goal

pub returns-in_ok-write-in-Some : goal.returns-in_ok-write-in-Some
returns-in_ok-write-in-Some g t c = λ plain ok.
    let before = c.in-Some.before in
    let after = c.in-Some.after in
    let cut = split_parts 47 c.args.text.now (Some (before, after)) c.in-Some.ensures.cases (lit< tt) in
    let one = c.in_ok-write-in-Some.ensures.writes plain refl in
    let two = c.show_slashes.ensures one.plain ok in
    put_two g.W.Write.write_str_gives c.args.f.now c.write.new.self c.show_slashes.new.f _ _ _ one two
    (append_assoc before.now (codes "~1") (escape_slashes after.now) ∙ sym (slashes_cut c.args.text.now before.now after.now cut))

pub returns-in-None : goal.returns-in-None
returns-in-None g t c = λ plain ok.
    let lacks = split_parts 47 c.args.text.now None c.in-None.ensures.cases (lit< tt) in
    rw (escape_slashes_plain c.args.text.now lacks) (c.write_str.ensures.writes plain ok)
