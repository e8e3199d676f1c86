use Rattle.std.proofs.Common.{◌≡◌, ◌∙◌, ℕ, List, Bool, false, Some, sym, ap}
use Rattle.std.proofs.lemmas.Result.{IfOk-weaker}
use Rattle.json_values.specs.Patterns.{matched}
use Rattle.graph_answers.specs.Tables.{AreForms, table_texts, matches_of}
use Rattle.graph_answers.proofs.TableReads.{reads_found, reads_nothing, read_in_each}
use Rattle.regex_patterns.specs.Matchers.{finds_by_regex}
use Rattle.regex_patterns.specs.declared.RegexMatcher.{RegexMatcher}
use Rattle.schema_engine.specs.Matches.{InEach}
use Rattle.schema_patterns.specs.Compiled.{found_by}
use Rattle.schema_patterns.specs.Read.{is_yes}
use Rattle.schema_patterns.specs.Tables.{texts_of_table}
use Rattle.schema_patterns.specs.declared.compiled.CompiledPattern.{CompiledPattern}
use Rattle.schema_patterns.specs.declared.compiled.CompiledPattern.TheVariants.{Optimized, Made}
use Rattle.schema_patterns.specs.declared.table.PatternTable.{PatternTable}
use Rattle.regex_patterns.specs.Kept.{compiled_at}
use Rattle.regex_patterns.proofs.kept.KeptMatching.is_match.Goals as goal

-- an answer that one kind of pattern gives is what is read of its number
reads_answer : (table : PatternTable RegexMatcher) (number : ℕ) (text : List ℕ) (c k : CompiledPattern RegexMatcher) (b : Bool) → AreForms finds_by_regex table
    → compiled_at table number ≡ Some c → c ≡ k → Some b ≡ found_by finds_by_regex k text
    → InEach (matches_of finds_by_regex table) (λ m. b ≡ matched m (table_texts (texts_of_table table) number) text)
reads_answer table number text c k b forms at is told rest =
    read_in_each finds_by_regex table rest (table_texts (texts_of_table table) number) text b
    (ap is_yes (told ∙ sym (ap (λ o. found_by finds_by_regex o text) is)) ∙ reads_found finds_by_regex table forms (table_texts (texts_of_table table) number) text c at)

pub returns-in_default-clause-read : goal.returns-in_default-clause-read
returns-in_default-clause-read c rest =
    read_in_each finds_by_regex c.args.self.now.table.now rest (table_texts (texts_of_table c.args.self.now.table.now) c.args.pattern) c.args.text.now false
    (reads_nothing finds_by_regex c.args.self.now.table.now (table_texts (texts_of_table c.args.self.now.table.now) c.args.pattern) c.args.text.now
    (sym c.in_default.ensures.found) c.in_default.ensures.absent)

pub returns-in-Optimized-clause-read : goal.returns-in-Optimized-clause-read
returns-in-Optimized-clause-read c =
    reads_answer c.args.self.now.table.now c.args.pattern c.args.text.now c.in-Some.compiled.now (Optimized c.in-Optimized.form) c.is_match.result c.args.self.now.forms
    (sym c.in-Some.ensures.found) c.in-Optimized.is (ap Some c.is_match.ensures)

pub returns-in-Some-get_mut-clause-read : goal.returns-in-Some-get_mut-clause-read
returns-in-Some-get_mut-clause-read c =
    IfOk-weaker _ _ _ (λ b told. reads_answer c.args.self.now.table.now c.args.pattern c.args.text.now c.in-Some.compiled.now (Made c.in-Made.made) b c.args.self.now.forms
    (sym c.in-Some.ensures.found) c.in-Made.is told) c.is_found.ensures.found

pub returns-in-None-clause-read : goal.returns-in-None-clause-read
returns-in-None-clause-read c =
    IfOk-weaker _ _ _ (λ b told. reads_answer c.args.self.now.table.now c.args.pattern c.args.text.now c.in-Some.compiled.now (Made c.in-Made.made) b c.args.self.now.forms
    (sym c.in-Some.ensures.found) c.in-Made.is told) c.is_found_once.ensures
