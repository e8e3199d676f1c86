use Rattle.std.proofs.Common.{◌≤◌, ◌∙◌, map, length, sym, arith, rules}
use Rattle.std.proofs.lemmas.List.{at_drop_all}
use Rattle.compiled_keywords.specs.Asked.{patterns_of}
use Rattle.compiled_keywords.specs.Owned.{text_of}
use Rattle.compiled_keywords.proofs.AcceptLemmas.{next_of}
use Rattle.compiled_keywords.proofs.BesideLemmas.{same_next}
use Rattle.compiled_keywords.proofs.together.has_patterns.Goals as goal

pub loop-index-preserved : goal.loop-index-preserved
loop-index-preserved c =
    let nodes = c.args.nodes.now in
    let patterns = c.args.patterns.now in
    let i = c.loop-index.index in
    record {
      left = λ rest. c.loop-index.invariant.left
          (same_next _ _ _ _ c.index-nodes-index.result c.index-patterns-index.result
          (next_of i nodes _ c.loop-index-test.true c.index-nodes-index.is)
          (next_of i patterns _ (omega (arith, c.loop-index-test.true)) c.index-patterns-index.is)
          (c.is_same.ensures (search rules)) rest);
    }

pub returns : goal.returns
returns c =
    let nodes = c.args.nodes.now in
    let patterns = c.args.patterns.now in
    let i = c.loop-index.index in
    let past : length nodes ≤ i = omega (arith, c.loop-index-test.false) in
    let past_too : length patterns ≤ i = omega (arith, c.loop-index-test.false) in
    λ yes. c.loop-index.invariant.left (at_drop_all patterns_of nodes i past ∙ sym (at_drop_all (map text_of) patterns i past_too))
