use Rattle.std.proofs.Common.{◌≡◌, sym, ap, rules, false, inr}
use Rattle.schema_meaning.specs.Members.{first}
use Rattle.schema_definitions.specs.Rows.{Place, bad_pattern}
use Rattle.reached_sites.proofs.Filling.{addition-filled, addition-front, addition-holds, added-made, numbered-listed, not-made, refused-filled, refused-front, refused-holds}
use Rattle.reached_sites.proofs.making.add_pattern.Goals as goal

pub returns-in-Ok-clause-filled : goal.returns-in-Ok-clause-filled
returns-in-Ok-clause-filled g c =
    let finds = g.P.Matcher.PatternMatcher.finds in
    let finished = (g.P.PatternMaker.patterns c.args.maker.now).finished in
    let makes = (g.P.PatternMaker.patterns c.args.maker.now).makes in
    let old = c.args.table.now in
    let new = c.add_with.new.self in
    let text = c.args.pattern.now.text.now in
    addition-filled old new text (λ some. (c.in-Ok.ensures.kept some).1) c.in-Ok.ensures.grown finds finished makes
    (c.in-Ok.ensures.made finished (λ m k. search rules))
    (λ none m. added-made finds finished old new text _ makes (c.in-Ok.ensures.grown none) none m c.in-Ok.ensures.made (λ m k. search rules))

pub returns-in-Ok-clause-kept : goal.returns-in-Ok-clause-kept
returns-in-Ok-clause-kept g c =
    addition-holds c.args.table.now c.add_with.new.self c.args.pattern.now.text.now (λ some. (c.in-Ok.ensures.kept some).1) c.in-Ok.ensures.grown

pub returns-in-Ok-clause-held : goal.returns-in-Ok-clause-held
returns-in-Ok-clause-held g c = numbered-listed c.add_with.new.self c.in-Ok.field-0 c.args.pattern.now.text.now c.in-Ok.ensures.numbered

pub returns-in_ok-from_str-in-Err-BadPattern-clause-refused : goal.returns-in_ok-from_str-in-Err-BadPattern-clause-refused
returns-in_ok-from_str-in-Err-BadPattern-clause-refused g c =
    let makes = (g.P.PatternMaker.patterns c.args.maker.now).makes in
    let q = c.args.pattern.now in
    let r = c.in-Err-BadPattern.ensures.refused c.in-Err-BadPattern.field-0-is in
    let k = r.1 in
    let unmade : makes q.text.now ≡ false = search rules in
    inr (q, first, not-made makes q.text.now r.0 unmade, ap (λ (p : Place). bad_pattern p) (sym c.in_ok-shared-in-Err-BadPattern.ensures))

pub returns-in_ok-from_str-in-Err-BadPattern-clause-tells : goal.returns-in_ok-from_str-in-Err-BadPattern-clause-tells
returns-in_ok-from_str-in-Err-BadPattern-clause-tells g c =
    inr (c.args.pattern.now, first, ap (λ (p : Place). bad_pattern p) (sym c.in_ok-shared-in-Err-BadPattern.ensures), c.in_ok-from_str-in-Err-BadPattern.ensures.ok)

pub returns-in_err-shared-in-Err-BadPattern-clause-filled : goal.returns-in_err-shared-in-Err-BadPattern-clause-filled
returns-in_err-shared-in-Err-BadPattern-clause-filled g c =
    refused-filled c.args.table.now c.add_with.new.self c.in-Err-BadPattern.ensures.unchanged g.P.Matcher.PatternMatcher.finds (g.P.PatternMaker.patterns c.args.maker.now).finished (g.P.PatternMaker.patterns c.args.maker.now).makes
    (c.in-Err-BadPattern.ensures.made (g.P.PatternMaker.patterns c.args.maker.now).finished (λ m k. search rules))

pub returns-in_err-from_str-in-Err-BadPattern-clause-filled : goal.returns-in_err-from_str-in-Err-BadPattern-clause-filled
returns-in_err-from_str-in-Err-BadPattern-clause-filled g c =
    refused-filled c.args.table.now c.add_with.new.self c.in-Err-BadPattern.ensures.unchanged g.P.Matcher.PatternMatcher.finds (g.P.PatternMaker.patterns c.args.maker.now).finished (g.P.PatternMaker.patterns c.args.maker.now).makes
    (c.in-Err-BadPattern.ensures.made (g.P.PatternMaker.patterns c.args.maker.now).finished (λ m k. search rules))

pub returns-in_err-shared-in-Err-BadPattern-clause-kept : goal.returns-in_err-shared-in-Err-BadPattern-clause-kept
returns-in_err-shared-in-Err-BadPattern-clause-kept g c = refused-holds c.args.table.now c.add_with.new.self c.in-Err-BadPattern.ensures.unchanged

pub returns-in_err-from_str-in-Err-BadPattern-clause-kept : goal.returns-in_err-from_str-in-Err-BadPattern-clause-kept
returns-in_err-from_str-in-Err-BadPattern-clause-kept g c = refused-holds c.args.table.now c.add_with.new.self c.in-Err-BadPattern.ensures.unchanged

pub returns-in_ok-from_str-in-Err-BadPattern-clause-filled : goal.returns-in_ok-from_str-in-Err-BadPattern-clause-filled
returns-in_ok-from_str-in-Err-BadPattern-clause-filled g c =
    refused-filled c.args.table.now c.add_with.new.self c.in-Err-BadPattern.ensures.unchanged g.P.Matcher.PatternMatcher.finds (g.P.PatternMaker.patterns c.args.maker.now).finished (g.P.PatternMaker.patterns c.args.maker.now).makes
    (c.in-Err-BadPattern.ensures.made (g.P.PatternMaker.patterns c.args.maker.now).finished (λ m k. search rules))

pub returns-in_ok-from_str-in-Err-BadPattern-clause-kept : goal.returns-in_ok-from_str-in-Err-BadPattern-clause-kept
returns-in_ok-from_str-in-Err-BadPattern-clause-kept g c = refused-holds c.args.table.now c.add_with.new.self c.in-Err-BadPattern.ensures.unchanged

pub returns-in-Err-Memory-clause-filled : goal.returns-in-Err-Memory-clause-filled
returns-in-Err-Memory-clause-filled g c =
    refused-filled c.args.table.now c.add_with.new.self c.in-Err-Memory.ensures.unchanged g.P.Matcher.PatternMatcher.finds (g.P.PatternMaker.patterns c.args.maker.now).finished (g.P.PatternMaker.patterns c.args.maker.now).makes
    (c.in-Err-Memory.ensures.made (g.P.PatternMaker.patterns c.args.maker.now).finished (λ m k. search rules))

pub returns-in-Err-Memory-clause-kept : goal.returns-in-Err-Memory-clause-kept
returns-in-Err-Memory-clause-kept g c = refused-holds c.args.table.now c.add_with.new.self c.in-Err-Memory.ensures.unchanged

pub returns-in-Ok-clause-grows : goal.returns-in-Ok-clause-grows
returns-in-Ok-clause-grows g c =
    addition-front c.args.table.now c.add_with.new.self c.args.pattern.now.text.now (λ some. (c.in-Ok.ensures.kept some).1) c.in-Ok.ensures.grown

pub returns-in_err-shared-in-Err-BadPattern-clause-grows : goal.returns-in_err-shared-in-Err-BadPattern-clause-grows
returns-in_err-shared-in-Err-BadPattern-clause-grows g c = refused-front c.args.table.now c.add_with.new.self c.in-Err-BadPattern.ensures.unchanged

pub returns-in_err-from_str-in-Err-BadPattern-clause-grows : goal.returns-in_err-from_str-in-Err-BadPattern-clause-grows
returns-in_err-from_str-in-Err-BadPattern-clause-grows g c = refused-front c.args.table.now c.add_with.new.self c.in-Err-BadPattern.ensures.unchanged

pub returns-in_ok-from_str-in-Err-BadPattern-clause-grows : goal.returns-in_ok-from_str-in-Err-BadPattern-clause-grows
returns-in_ok-from_str-in-Err-BadPattern-clause-grows g c = refused-front c.args.table.now c.add_with.new.self c.in-Err-BadPattern.ensures.unchanged

pub returns-in-Err-Memory-clause-grows : goal.returns-in-Err-Memory-clause-grows
returns-in-Err-Memory-clause-grows g c = refused-front c.args.table.now c.add_with.new.self c.in-Err-Memory.ensures.unchanged
