use Rattle.std.proofs.Common.{◌∙◌, true, false, sym, ap}
use Rattle.serde_json.specs.View.{view}
use Rattle.schema_patterns.specs.Tables.{texts_of_table}
use Rattle.graph_answers.specs.Completions.{assumed_in, matches_with, start_at}
use Rattle.graph_answers.specs.Tables.{table_texts}
use Rattle.graph_answers.proofs.Completing.{read_from, read_found, read_absent, read_assumed}
use Rattle.graph_answers.proofs.assumed.AssumedMatching.is_match.Goals as goal

pub returns-in_default-clause-read : goal.returns-in_default-clause-read
returns-in_default-clause-read g c =
    let s = c.args.self.now in
    read_from (start_at g.K.Validate.shape s.graph.now.nodes.items s.start (view s.value.now)) (matches_with g.M.PatternMatcher.finds s.table.now s.assumed.now) _ (table_texts (texts_of_table s.table.now) c.args.pattern) c.args.text.now
    (read_absent g.M.PatternMatcher.finds s.table.now s.assumed.now (table_texts (texts_of_table s.table.now) c.args.pattern) c.args.text.now (sym c.in_default.ensures.found) c.in_default.ensures.absent)

pub returns-in-Yes-clause-read : goal.returns-in-Yes-clause-read
returns-in-Yes-clause-read g c =
    let s = c.args.self.now in
    read_from (start_at g.K.Validate.shape s.graph.now.nodes.items s.start (view s.value.now)) (matches_with g.M.PatternMatcher.finds s.table.now s.assumed.now) _ (table_texts (texts_of_table s.table.now) c.args.pattern) c.args.text.now
    (read_found g.M.PatternMatcher.finds s.table.now s.assumed.now s.forms (table_texts (texts_of_table s.table.now) c.args.pattern) c.args.text.now c.in-Some.compiled.now true (sym c.in-Some.ensures.found) c.in-Yes.ensures.told)

pub returns-in-No-clause-read : goal.returns-in-No-clause-read
returns-in-No-clause-read g c =
    let s = c.args.self.now in
    read_from (start_at g.K.Validate.shape s.graph.now.nodes.items s.start (view s.value.now)) (matches_with g.M.PatternMatcher.finds s.table.now s.assumed.now) _ (table_texts (texts_of_table s.table.now) c.args.pattern) c.args.text.now
    (read_found g.M.PatternMatcher.finds s.table.now s.assumed.now s.forms (table_texts (texts_of_table s.table.now) c.args.pattern) c.args.text.now c.in-Some.compiled.now false (sym c.in-Some.ensures.found) c.in-No.ensures.told)

pub returns-in-Some-answer_in-clause-read : goal.returns-in-Some-answer_in-clause-read
returns-in-Some-answer_in-clause-read g c =
    let s = c.args.self.now in
    let is = ap (λ p. assumed_in s.assumed.now p c.args.text.now) (sym c.text_at-written.ensures) ∙ sym c.answer_in.ensures ∙ c.in-Some-answer_in.is in
    read_from (start_at g.K.Validate.shape s.graph.now.nodes.items s.start (view s.value.now)) (matches_with g.M.PatternMatcher.finds s.table.now s.assumed.now) _ (table_texts (texts_of_table s.table.now) c.args.pattern) c.args.text.now
    (read_assumed g.M.PatternMatcher.finds s.table.now s.assumed.now s.forms (table_texts (texts_of_table s.table.now) c.args.pattern) c.args.text.now c.in-Some.compiled.now c.in-Some-answer_in.answer
    (sym c.in-Some.ensures.found) c.in-Unfinished.ensures.told is)
