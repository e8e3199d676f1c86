use Rattle.std.proofs.Common.{map, subst}
use Rattle.std.proofs.lemmas.Result.{on_ok_weaker}
use Rattle.schema_meaning.specs.Questions.{each_member}
use Rattle.schema_engine.specs.Matches.{completed}
use Rattle.compiled_keywords.specs.Forms.{alone, whole_at}
use Rattle.compiled_keywords.specs.Members.{others_among}
use Rattle.compiled_keywords.specs.Owned.{declared_by}
use Rattle.compiled_keywords.specs.Seen.{Puts}
use Rattle.compiled_keywords.proofs.members.push_others.Goals as goal

pub returns-in-Some-clause-put : goal.returns-in-Some-clause-put
returns-in-Some-clause-put g c =
    let reads = completed (g.T.Matching.matches c.args.matching.now) in
    on_ok_weaker c.push_others_of.result
    (λ puts rest k. subst (λ ms. Puts (whole_at k) c.args.into.now.items c.push_others_of.new.into.items (map alone (each_member k c.args.node (others_among (reads rest) (declared_by c.args.declared.now) ms)))) c.in-Some.ensures (puts rest k))
    c.push_others_of.ensures.put
