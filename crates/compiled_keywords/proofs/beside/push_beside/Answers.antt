use Rattle.std.proofs.Common.{◌∙◌, List, map, drop, ap, subst}
use Rattle.std.proofs.lemmas.Result.{on_ok_weaker}
use Rattle.schema_meaning.specs.Questions.{each_member}
use Rattle.schema_engine.specs.Places.{value_at}
use Rattle.schema_engine.specs.declared.place.Question.{Question}
use Rattle.compiled_keywords.specs.Forms.{alone, whole_at}
use Rattle.compiled_keywords.specs.Named.{names_asked, others_beside, AreKept}
use Rattle.compiled_keywords.specs.Owned.{declared_by}
use Rattle.compiled_keywords.specs.Seen.{Puts}
use Rattle.compiled_keywords.proofs.NamedLemmas.{others_left}
use Rattle.compiled_keywords.proofs.beside.push_beside.Goals as goal

pub returns-in_ok-asked-in-Some : goal.returns-in_ok-asked-in-Some
returns-in_ok-asked-in-Some c =
    let d = value_at c.args.place in
    let w = declared_by c.args.declared.now in
    let old = c.args.into.now.items in
    on_ok_weaker c.push_others_of.result
    (λ puts m k so. subst (λ ms. Puts (whole_at k) old c.push_others_of.new.into.items (map alone (each_member k c.args.node ms)))
    (ap (others_beside w.names (names_asked (drop c.args.start old))) c.in-Some.ensures ∙ others_left m w d (drop c.args.start old) so)
    (puts k (names_asked (drop c.args.start old)) (subst (λ (qs : List Question). AreKept c.in_ok-asked-in-Some.asked (names_asked (drop c.args.start qs))) c.deref.ensures.value c.in_ok-asked-in-Some.ensures)))
    c.push_others_of.ensures
