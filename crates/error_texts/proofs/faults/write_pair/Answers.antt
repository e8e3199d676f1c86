use Rattle.std.proofs.Common.{codes}
use Rattle.error_texts.proofs.Growing.{grows_behind, grows_first}
use Rattle.error_texts.proofs.faults.write_pair.Goals as goal

pub returns-in_err-write_quoted-2-clause-grows : goal.returns-in_err-write_quoted-2-clause-grows
returns-in_err-write_quoted-2-clause-grows c =
    let one = grows_first c.args.text.now c.push_str.new.self c.write_quoted.new.text (codes "[") c.in_ok-push_str.ensures.bytes c.in_ok-push_str.ensures.capacity c.write_quoted.ensures.grows in
    grows_behind c.args.text.now c.write_quoted.new.text c.push_str-2.new.self c.write_quoted-2.new.text (codes ",") one c.in_ok-push_str-2.ensures.bytes c.in_ok-push_str-2.ensures.capacity c.write_quoted-2.ensures.grows
