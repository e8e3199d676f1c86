-- What is pushed behind questions that are there.
use Rattle.std.specs.Prelude.{ℕ, List, [], ◌∷◌, map}
use Rattle.json_values.specs.Parts.{Part}
use Rattle.schema_meaning.specs.Rules.{Rule, every, together, each_named, some_branch, one_branch, refusal, counted, conditional, asks}
use Rattle.schema_engine.specs.Questions.{question_by, PushesAs}
use Rattle.schema_engine.specs.declared.place.Question.{Question}
use Rattle.compiled_keywords.specs.Forms.{Asked, alone}

-- the code's question, by the parts of its keyword's entries
abbrev pub seen_by : (ℕ → List Part) → Question → Asked
seen_by added q = (q.beside, question_by added q)

abbrev pub Puts : (ℕ → List Part) → List Question → List Question → List Asked → Type 0
Puts added old new all = PushesAs (seen_by added) old new all

-- the questions of a rule
abbrev pub beside_in : Rule ℕ → List Asked
beside_in (every p notes qs) = map alone qs
beside_in (together p note qs) = map alone qs
beside_in (each_named p s names) = map alone (asks (each_named p s names))
beside_in (some_branch p qs) = map alone qs
beside_in (one_branch p qs) = map alone qs
beside_in (refusal p schema q) = alone q ∷ map alone []
beside_in (counted least most qs) = map alone qs
beside_in (conditional q cs) = alone q ∷ cs
