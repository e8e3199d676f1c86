use Rattle.std.proofs.Common.{lit<, ap, sym, ◌∙◌, Some, None, take}
use Rattle.std.proofs.lemmas.Str.Pattern.{rfind_char}
use Rattle.uri_references.specs.Dots.{up}
use Rattle.uri_references.proofs.Ups.{up_at, up_none}
use Rattle.uri_references.proofs.dots.go_up.Goals as goal

pub returns-in-Some : goal.returns-in-Some
returns-in-Some c =
    let f = rfind_char 47 c.deref.result.now (Some c.in-Some.at) c.in-Some.ensures.cases (lit< tt) in
    c.truncate.ensures.bytes ∙ sym (ap up (sym c.deref.ensures) ∙ up_at c.deref.result.now c.in-Some.at f.0 f.1 f.2 ∙ ap (take c.in-Some.at) c.deref.ensures)

pub returns-in-None : goal.returns-in-None
returns-in-None c =
    let f = rfind_char 47 c.deref.result.now None c.in-None.ensures.cases (lit< tt) in
    c.clear.ensures.bytes ∙ sym (ap up (sym c.deref.ensures) ∙ up_none c.deref.result.now f)
