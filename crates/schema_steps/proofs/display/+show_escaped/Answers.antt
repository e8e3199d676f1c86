use Rattle.std.proofs.Common.{Some, None, sym, refl, ◌∙◌, lit<, codes, append_assoc}
use Rattle.std.proofs.lemmas.Grind.{put_two}
use Rattle.std.proofs.lemmas.Str.Pattern.{split_parts}
use Rattle.json_values.specs.Pointers.{escape, escape_slashes}
use Rattle.json_pointers.proofs.EscapeLemmas.{escape_cut, escape_plain}
use Rattle.schema_steps.proofs.display.+show_escaped.Goals as goal

pub returns-in_ok-write_str-in-Some : goal.returns-in_ok-write_str-in-Some
returns-in_ok-write_str-in-Some g t c = λ plain ok.
    let before = c.in-Some.before in
    let after = c.in-Some.after in
    let cut = split_parts 126 c.args.text.now (Some (before, after)) c.in-Some.ensures.cases (lit< tt) in
    let took = g.W.Write.write_str_gives in
    let one = c.in_ok-show_slashes-in-Some.ensures plain refl in
    let two = c.in_ok-write_str-in-Some.ensures.writes one.plain refl in
    let three = c.show_escaped.ensures two.plain ok in
    let both = put_two took c.args.f.now c.show_slashes.new.f c.write_str.new.self (escape_slashes before.now) (codes "~0") _ one two refl in
    put_two took c.args.f.now c.write_str.new.self c.show_escaped.new.f _ _ _ both three
    (append_assoc (escape_slashes before.now) (codes "~0") (escape after.now) ∙ sym (escape_cut c.args.text.now before.now after.now cut))

pub returns-in-None : goal.returns-in-None
returns-in-None g t c = λ plain ok.
    let lacks = split_parts 126 c.args.text.now None c.in-None.ensures.cases (lit< tt) in
    rw (escape_plain c.args.text.now lacks) (c.show_slashes-in-None.ensures plain ok)
