-- What a pattern that is ready to be matched finds.
use Rattle.std.specs.Prelude.{ℕ, List, Bool, true, false, Option, Some, None}
use Rattle.json_values.specs.Patterns.{means}
use Rattle.value_checks.specs.CodePatterns.{form_of}
use Rattle.value_checks.specs.declared.patterns.PatternOptimization.{PatternOptimization}
use Rattle.schema_patterns.specs.declared.compiled.CompiledPattern.{CompiledPattern}
use Rattle.schema_patterns.specs.declared.compiled.CompiledPattern.TheVariants.{Optimized, Made}

-- a literal form by its meaning, another by its matcher
abbrev pub found_by : {M : Type 0} → (M → List ℕ → Option Bool) → CompiledPattern M → List ℕ → Option Bool
found_by finds (Optimized form) text = Some (means (form_of form) text)
found_by finds (Made matcher) text = finds matcher text

-- the literal form, where it is one
abbrev pub optimized : {M : Type 0} → CompiledPattern M → Option PatternOptimization
optimized (Optimized form) = Some form
optimized (Made matcher) = None

abbrev pub is_optimized : {M : Type 0} → CompiledPattern M → Bool
is_optimized (Optimized form) = true
is_optimized (Made matcher) = false
