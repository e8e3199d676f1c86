-- The rules as the engine reads them.
use Rattle.std.specs.Prelude.{◌≡◌, ℕ, nat_le, List, [], ◌∷◌, map, Bool, true, false, ◌&&◌, Option, Some, None}
use Rattle.schema_meaning.specs.Members.{is_empty, count_true}
use Rattle.schema_meaning.specs.Rules.{Rule, every, together, each_named, some_branch, one_branch, refusal, counted, conditional, asks, is_few}
use Rattle.schema_engine.specs.Questions.{Call, call, call_of}
use Rattle.schema_engine.specs.declared.combination.Combination.{Combination}
use Rattle.schema_engine.specs.declared.combination.Combination.TheVariants as combination
use Rattle.schema_engine.specs.declared.place.Question as code

abbrev pub or_one : Option ℕ → ℕ
or_one None = 1
or_one (Some n) = n

abbrev pub combination_of : Rule ℕ → Combination
combination_of (every p notes qs) = combination.Every
combination_of (together p note qs) = combination.Together
combination_of (each_named p s names) = combination.EachNamed
combination_of (some_branch p qs) = combination.SomeBranch
combination_of (one_branch p qs) = combination.OneBranch
combination_of (refusal p schema q) = combination.Refusal
combination_of (counted least most qs) = combination.Counted (or_one least) most
combination_of (conditional q cs) = combination.Conditional

-- nothing is wrong with the value itself
abbrev pub is_right : Rule ℕ → Bool
is_right (every p notes qs) = is_empty notes
is_right (together p note qs) = true
is_right (each_named p s names) = true
is_right (some_branch p qs) = true
is_right (one_branch p qs) = true
is_right (refusal p schema q) = true
is_right (counted least most qs) = true
is_right (conditional q cs) = true

-- the questions, each beside the answer to a condition with which it counts
abbrev pub questions_of : Rule ℕ → List Call
questions_of (every p notes qs) = map (call true) qs
questions_of (together p note qs) = map (call true) qs
questions_of (each_named p s names) = map (call true) (asks (each_named p s names))
questions_of (some_branch p qs) = map (call true) qs
questions_of (one_branch p qs) = map (call true) qs
questions_of (refusal p schema q) = call true q ∷ []
questions_of (counted least most qs) = map (call true) qs
questions_of (conditional q cs) = call true q ∷ map (λ c. call c.0 c.1) cs

-- they ask what the rule asks
abbrev pub AreOf : Rule ℕ → List code.Question → Type 0
AreOf k qs = map call_of qs ≡ questions_of k

-- ---- what the answers make

abbrev pub is_counted : ℕ → Option ℕ → ℕ → Bool
is_counted least most n = nat_le least n && is_few most n

-- those beside the answer are accepted
abbrev pub passes : Bool → Bool → Bool → Bool
passes true true b = b
passes true false b = true
passes false true b = true
passes false false b = b

abbrev pub all_beside : (Call → Bool) → Bool → List Call → Bool
all_beside ask answer [] = true
all_beside ask answer (c ∷ cs) = passes c.beside answer (ask c) && all_beside ask answer cs

abbrev pub chosen_by_first : (Call → Bool) → List Call → Bool
chosen_by_first ask [] = true
chosen_by_first ask (c ∷ cs) = all_beside ask (ask c) cs

abbrev pub combined : Combination → (Call → Bool) → List Call → Bool
combined combination.Every ask cs = all_beside ask true cs
combined combination.Together ask cs = all_beside ask true cs
combined combination.EachNamed ask cs = all_beside ask true cs
combined combination.SomeBranch ask cs = is_counted 1 None (count_true (map ask cs))
combined combination.OneBranch ask cs = is_counted 1 (Some 1) (count_true (map ask cs))
combined combination.Refusal ask cs = is_counted 0 (Some 0) (count_true (map ask cs))
combined (combination.Counted least most) ask cs = is_counted least most (count_true (map ask cs))
combined combination.Conditional ask cs = chosen_by_first ask cs
