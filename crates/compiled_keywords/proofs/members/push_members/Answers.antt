use Rattle.std.proofs.Common.{map, subst}
use Rattle.std.proofs.lemmas.Result.{on_ok_weaker}
use Rattle.schema_meaning.specs.Questions.{each_member}
use Rattle.compiled_keywords.specs.Forms.{alone, whole_at}
use Rattle.compiled_keywords.specs.Seen.{Puts}
use Rattle.compiled_keywords.proofs.members.push_members.Goals as goal

pub returns-in-Some : goal.returns-in-Some
returns-in-Some c =
    on_ok_weaker c.push_members_of.result
    (λ puts k. subst (λ ms. Puts (whole_at k) c.args.into.now.items c.push_members_of.new.into.items (map alone (each_member k c.args.node ms))) c.in-Some.ensures (puts k))
    c.push_members_of.ensures
