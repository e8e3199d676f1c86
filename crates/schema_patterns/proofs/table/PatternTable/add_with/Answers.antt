use Rattle.std.proofs.Common.{◌≡◌, ℕ, List, ◌∙◌, None, is_some, option_map, slice_get, sym, ap}
use Rattle.std.specs.HashMap.{get_by_text}
use Rattle.json_values.specs.Patterns.{known}
use Rattle.schema_patterns.specs.Compiled.{found_by}
use Rattle.schema_patterns.specs.declared.compiled.CompiledPattern.{CompiledPattern}
use Rattle.schema_patterns.proofs.Tables.{number_found, number_added, entries_grown, each_kept, none_there, found_is_known}
use Rattle.schema_patterns.proofs.table.PatternTable.add_with.Goals as goal

pub returns-in-Some-clause-numbered : goal.returns-in-Some-clause-numbered
returns-in-Some-clause-numbered g c =
    number_found c.args.self.now.patterns.entries c.args.pattern.now c.in-Some.number (sym c.in-Some.ensures.index)

pub returns-in-Ok-insert-clause-numbered : goal.returns-in-Ok-insert-clause-numbered
returns-in-Ok-insert-clause-numbered g c =
    let none : get_by_text c.args.self.now.patterns c.args.pattern.now ≡ None = none_there _ (sym c.get_index_of.ensures.found ∙ ap is_some c.in_default.is) in
    ap (λ (es : List (List ℕ × CompiledPattern _)). option_map (λ e. e.0) (slice_get es c.len-number.result)) (entries_grown c.args.self.now.patterns c.insert.new.self c.in-Ok.text c.args.pattern.now c.in_ok-compiled.compiled c.in-Ok.ensures.ok none c.in-Ok-insert.ensures.entries)
    ∙ number_added c.args.self.now.patterns.entries c.args.pattern.now c.in_ok-compiled.compiled c.len-number.result c.len-number.ensures.len

pub returns-in-Ok-insert-clause-made : goal.returns-in-Ok-insert-clause-made
returns-in-Ok-insert-clause-made g c = λ finished finds all.
    let pattern = c.args.pattern.now in
    let compiled = c.in_ok-compiled.compiled in
    let known_so : (text : List ℕ) → found_by g.M.PatternMatcher.finds compiled text ≡ known finished pattern text =
    found_is_known g.M.PatternMatcher.finds finished pattern compiled c.in_ok-compiled.ensures.optimized (λ m is. finds m (c.in_ok-compiled.ensures.made m is)) in
    record {
      each =
          each_kept (λ p k. (text : List ℕ) → found_by g.M.PatternMatcher.finds k text ≡ known finished p text)
          c.args.self.now.patterns c.insert.new.self c.in-Ok.text pattern compiled c.in-Ok.ensures.ok c.in-Ok-insert.ensures.updates known_so all.each;
    }

pub returns-in-Ok-insert-clause-grown : goal.returns-in-Ok-insert-clause-grown
returns-in-Ok-insert-clause-grown g c = λ none.
    (c.in_ok-compiled.compiled, entries_grown c.args.self.now.patterns c.insert.new.self c.in-Ok.text c.args.pattern.now c.in_ok-compiled.compiled c.in-Ok.ensures.ok none c.in-Ok-insert.ensures.entries)
