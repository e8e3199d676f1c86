use Rattle.std.proofs.Common.{map, subst}
use Rattle.std.proofs.lemmas.Result.{on_ok_weaker}
use Rattle.schema_engine.specs.Matches.{completed}
use Rattle.schema_engine.specs.Places.{value_at}
use Rattle.schema_engine.specs.Questions.{Pushes}
use Rattle.schema_meaning.specs.Questions.{members_of}
use Rattle.compiled_keywords.specs.Owned.{by_pattern, declared_by}
use Rattle.compiled_keywords.specs.Paired.{calls_of_members}
use Rattle.compiled_keywords.proofs.BesideLemmas.{as_both}
use Rattle.compiled_keywords.proofs.together.push_both.Goals as goal

pub returns-in-OtherMembers-clause-pushed : goal.returns-in-OtherMembers-clause-pushed
returns-in-OtherMembers-clause-pushed g c =
    let reads = completed (g.T.Matching.matches c.args.matching.now) in
    let d = value_at c.args.place in
    let old = c.args.into.now.items in
    let new = c.push_members_of_both.new.into.items in
    on_ok_weaker c.push_members_of_both.result
    (λ pushed rest. as_both (reads rest) d old new _ _ _ _ c.in-MatchingMembers.is c.in-OtherMembers.is
    (subst (λ ns. Pushes old new (calls_of_members (reads rest) (map by_pattern ns) (declared_by c.in-OtherMembers.declared) c.in-OtherMembers.node (members_of d))) c.deref.ensures.value (pushed rest)))
    c.push_members_of_both.ensures.pushed
