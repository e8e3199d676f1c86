use Rattle.std.proofs.Common.{map, subst}
use Rattle.std.proofs.lemmas.Result.{on_ok_weaker}
use Rattle.schema_meaning.specs.Questions.{at, each_name}
use Rattle.compiled_keywords.specs.Forms.{alone, whole_at}
use Rattle.compiled_keywords.specs.Seen.{Puts}
use Rattle.compiled_keywords.proofs.members.push_names.Goals as goal

pub returns-in-Some : goal.returns-in-Some
returns-in-Some c =
    on_ok_weaker c.push_names_of.result
    (λ puts k. subst (λ ms. Puts (whole_at k) c.args.into.now.items c.push_names_of.new.into.items (map alone (each_name (at k) c.args.node (map (λ m. m.0) ms)))) c.in-Some.ensures (puts k))
    c.push_names_of.ensures
