use Rattle.std.proofs.Common.{◌∙◌, map, sym, ap, subst}
use Rattle.std.proofs.lemmas.Result.{on_ok_weaker}
use Rattle.std.specs.List.{flat_map}
use Rattle.schema_engine.specs.Matches.{completed}
use Rattle.compiled_keywords.specs.Forms.{alone, name_at}
use Rattle.compiled_keywords.specs.Members.{matching_of}
use Rattle.compiled_keywords.specs.Owned.{by_pattern}
use Rattle.compiled_keywords.specs.Seen.{Puts}
use Rattle.compiled_keywords.proofs.PushLemmas.{put_nothing, none_matched}
use Rattle.compiled_keywords.proofs.members.push_matching.Goals as goal

pub returns-in-Some-clause-put : goal.returns-in-Some-clause-put
returns-in-Some-clause-put g c =
    let reads = completed (g.T.Matching.matches c.args.matching.now) in
    let ps = map by_pattern c.args.nodes.now in
    on_ok_weaker c.push_each_matched.result
    (λ puts rest k. subst (λ ms. Puts (name_at k ps) c.args.into.now.items c.push_each_matched.new.into.items (map alone (flat_map (λ p. matching_of (reads rest) k p ms) ps))) c.in-Some.ensures (puts rest k))
    c.push_each_matched.ensures.put

pub returns-in-None-clause-put : goal.returns-in-None-clause-put
returns-in-None-clause-put g c = λ rest k.
    let reads = completed (g.T.Matching.matches c.args.matching.now) in
    let ps = map by_pattern c.args.nodes.now in
    put_nothing (name_at k ps) _ _ (ap (λ ms. map alone (flat_map (λ p. matching_of (reads rest) k p ms) ps)) (sym c.in-None.ensures) ∙ ap (map alone) (none_matched (reads rest) k ps))
