use Rattle.std.proofs.Common.{◌∙◌, false, sym}
use Rattle.std.proofs.lemmas.Result.{IfOk-weaker}
use Rattle.schema_patterns.specs.Compiled.{found_by}
use Rattle.schema_patterns.specs.Tables.{texts_of_table}
use Rattle.graph_answers.specs.Tables.{table_texts}
use Rattle.graph_answers.proofs.TableReads.{reads_found, reads_nothing, read_in_each}
use Rattle.graph_answers.proofs.direct.DirectMatching.is_match.Goals as goal

pub returns-in_default-clause-read : goal.returns-in_default-clause-read
returns-in_default-clause-read g c rest =
    read_in_each g.M.PatternMatcher.finds c.args.self.now.table.now rest (table_texts (texts_of_table c.args.self.now.table.now) c.args.pattern) c.args.text.now false
    (reads_nothing g.M.PatternMatcher.finds c.args.self.now.table.now (table_texts (texts_of_table c.args.self.now.table.now) c.args.pattern) c.args.text.now
    (sym c.in_default.ensures.found) c.in_default.ensures.absent)

pub returns-clause-read : goal.returns-clause-read
returns-clause-read g c =
    let compiled = c.in-Some.compiled.now in
    IfOk-weaker c.is_yes.result _ _
    (λ b told rest. read_in_each g.M.PatternMatcher.finds c.args.self.now.table.now rest (table_texts (texts_of_table c.args.self.now.table.now) c.args.pattern) c.args.text.now b
    (told (found_by g.M.PatternMatcher.finds compiled c.args.text.now) c.is_match.ensures.told
    ∙ reads_found g.M.PatternMatcher.finds c.args.self.now.table.now c.args.self.now.forms (table_texts (texts_of_table c.args.self.now.table.now) c.args.pattern) c.args.text.now
    compiled (sym c.in-Some.ensures.found))) c.is_yes.ensures
