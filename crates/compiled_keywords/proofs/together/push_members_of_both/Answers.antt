use Rattle.std.proofs.Common.{map, subst}
use Rattle.std.proofs.lemmas.Result.{on_ok_weaker}
use Rattle.schema_engine.specs.Matches.{completed}
use Rattle.schema_engine.specs.Questions.{Pushes}
use Rattle.schema_engine.proofs.Pushing.{pushes_nothing}
use Rattle.compiled_keywords.specs.Owned.{by_pattern, declared_by}
use Rattle.compiled_keywords.specs.Paired.{calls_of_members}
use Rattle.compiled_keywords.proofs.together.push_members_of_both.Goals as goal

pub returns-in-Some-clause-pushed : goal.returns-in-Some-clause-pushed
returns-in-Some-clause-pushed g c =
    let reads = completed (g.T.Matching.matches c.args.matching.now) in
    on_ok_weaker c.push_each_member.result
    (λ pushed rest. subst (λ ms. Pushes c.args.into.now.items c.push_each_member.new.into.items (calls_of_members (reads rest) (map by_pattern c.args.nodes.now) (declared_by c.args.declared.now) c.args.node ms)) c.in-Some.ensures (pushed rest))
    c.push_each_member.ensures.pushed

pub returns-in-None-clause-pushed : goal.returns-in-None-clause-pushed
returns-in-None-clause-pushed g c = λ rest.
    let reads = completed (g.T.Matching.matches c.args.matching.now) in
    subst (λ ms. Pushes c.args.into.now.items c.args.into.now.items (calls_of_members (reads rest) (map by_pattern c.args.nodes.now) (declared_by c.args.declared.now) c.args.node ms)) c.in-None.ensures (pushes_nothing c.args.into.now.items)
