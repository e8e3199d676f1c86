-- Where every match that a value asks for finishes, none stays unfinished.
use Rattle.std.proofs.Common.{◌≡◌, ℕ, List, Bool, Option, Some, None, refl}
use Rattle.serde_json.specs.Data.{Data}
use Rattle.json_values.specs.Patterns.{known}
use Rattle.schema_definitions.specs.Lookup.{Target}
use Rattle.schema_registries.specs.Roots.{Root, Patterns, Finds}
use Rattle.schema_registries.specs.Answers.{Finish}
use Rattle.fault_checks.specs.Checked.{AgreeWithKnown, IsChecked}
use Rattle.fault_checks.specs.declared.checking.CheckAnswer.TheVariants.{Unfinished}

one_known : (o : Option Bool) (a b : Bool) → o ≡ Some a → o ≡ Some b → a ≡ b
one_known o a b e f = cc (e, f)

none_known : (o : Option Bool) (a : Bool) → o ≡ Some a → o ≡ None → ⊥
none_known o a e f = cc (e, f)

-- matches that finish agree with what is known
pub agree_finished : (p : Patterns) (r : Root) (d : Data) (matches : List ℕ → List ℕ → Bool) (target : Target) → Finish p r matches target d → AgreeWithKnown p r matches target d
agree_finished p r d matches target finish = record {
  agree = λ pattern text asked answer is. one_known (known p.finished pattern text) _ answer (finish.each pattern text asked) is;
}

pub none_unfinished : (p : Patterns) (r : Root) (d : Data) (instance evaluation : List ℕ) → IsChecked p r d instance evaluation Unfinished
    → (matches : List ℕ → List ℕ → Bool) (target : Target) → Finds r target → Finish p r matches target d → ⊥
none_unfinished p r d instance evaluation h matches target found finish =
    let stays = h.unfinished refl matches target found (agree_finished p r d matches target finish) in
    none_known (known p.finished stays.pattern stays.text) _ (finish.each stays.pattern stays.text stays.asked) stays.unfinished
