-- Questions that are seen with their answers beside, as calls and as questions of a rule.
use Rattle.std.proofs.Common.{◌≡◌, ◌∙◌, ℕ, List, [], ◌∷◌, map, drop, length, true, refl, sym, ap}
use Rattle.json_values.specs.Parts.{Part}
use Rattle.schema_meaning.specs.Questions as told
use Rattle.schema_meaning.specs.Rules.{Rule, every, together, each_named, some_branch, one_branch, refusal, counted, conditional, asks}
use Rattle.schema_engine.specs.Questions.{Call, call, Pushes, PushesAsked}
use Rattle.schema_engine.specs.Rules.{questions_of}
use Rattle.schema_engine.specs.declared.place.Question.{Question}
use Rattle.compiled_keywords.specs.Forms.{Asked, alone}
use Rattle.compiled_keywords.specs.Seen.{seen_by, Puts, beside_in}

map_map : {A B C : Type 0} (f : B → C) (g : A → B) (xs : List A) → map f (map g xs) ≡ map (λ x. f (g x)) xs
map_map f g [] = refl
map_map f g (x ∷ xs) = ap (λ ys. f (g x) ∷ ys) (map_map f g xs)

map_same : {A : Type 0} (xs : List A) → map (λ x. x) xs ≡ xs
map_same [] = refl
map_same (x ∷ xs) = ap (λ ys. x ∷ ys) (map_same xs)

abbrev pub call_in : Asked → Call
call_in p = call p.0 p.1

abbrev question_in : Asked → told.Question ℕ
question_in p = p.1

pub calls_alone : (qs : List (told.Question ℕ)) → map call_in (map alone qs) ≡ map (call true) qs
calls_alone qs = map_map call_in alone qs

asks_alone : (qs : List (told.Question ℕ)) → map question_in (map alone qs) ≡ qs
asks_alone qs = map_map question_in alone qs ∙ map_same qs

pub calls_so : (r : Rule ℕ) → map call_in (beside_in r) ≡ questions_of r
calls_so (every p notes qs) = calls_alone qs
calls_so (together p note qs) = calls_alone qs
calls_so (each_named p s names) = calls_alone (asks (each_named p s names))
calls_so (some_branch p qs) = calls_alone qs
calls_so (one_branch p qs) = calls_alone qs
calls_so (refusal p schema q) = refl
calls_so (counted least most qs) = calls_alone qs
calls_so (conditional q cs) = refl

pub asks_so : (r : Rule ℕ) → map question_in (beside_in r) ≡ asks r
asks_so (every p notes qs) = asks_alone qs
asks_so (together p note qs) = asks_alone qs
asks_so (each_named p s names) = asks_alone (asks (each_named p s names))
asks_so (some_branch p qs) = asks_alone qs
asks_so (one_branch p qs) = asks_alone qs
asks_so (refusal p schema q) = refl
asks_so (counted least most qs) = asks_alone qs
asks_so (conditional q cs) = refl

module _ (added : ℕ → List Part) (old new : List Question) where
  pub puts_calls : (r : Rule ℕ) → Puts added old new (beside_in r) → Pushes old new (questions_of r)
  puts_calls r puts = record {
    kept = puts.kept;
    pushed = sym (map_map call_in (seen_by added) (drop (length old) new)) ∙ ap (map call_in) puts.pushed ∙ calls_so r;
  }

  pub puts_asks : (r : Rule ℕ) → Puts added old new (beside_in r) → PushesAsked added old new (asks r)
  puts_asks r puts = record {
    kept = puts.kept;
    pushed = sym (map_map question_in (seen_by added) (drop (length old) new)) ∙ ap (map question_in) puts.pushed ∙ asks_so r;
  }
