-- What keywords with subschemas ask.
use Rattle.std.proofs.Common.{◌≡◌, ◌&&◌, ◌∙◌, true, false, not, ap, ap₂, refl, Bool, ℕ, List}
use Rattle.applicators.specs.Asks.{are_names, chooses}
use Rattle.applicators.specs.Combined.{name_of, combining_of, asks_of, is_by_answers, asks_names, asks_values}
use Rattle.applicators.specs.Applied.{Applicator}
use Rattle.applicators.specs.Bare.{bare}
use Rattle.applicators.specs.Forms.{stands}
use Rattle.applicators.specs.Combining.{counts_answers}
use Rattle.applicators.specs.declared.asks.AsksOf.{AsksOf}
use Rattle.applicators.specs.declared.asks.AsksOf.TheVariants as asking
use Rattle.applicators.specs.declared.combining.Combining.{Combining}
use Rattle.applicators.specs.declared.combining.Combining.TheVariants as combining

-- a keyword whose verdict is by its answers asks the value, its items or its members, where it asks no names
pub values_or_names : (a : Applicator) → is_by_answers a ≡ true → asks_names a ≡ false → asks_values a ≡ true
values_or_names a counts others = ap₂ (λ (b c : Bool). b && not c) counts others

-- an answer chooses where the verdict is not by their number
choosing_by : {S L N P E V : Type 0} (k : List ℕ) (c : Combining) (f : AsksOf S L N P E V) → stands k c (bare f) ≡ true → chooses f ≡ not (counts_answers c)
choosing_by k combining.Conditional (asking.Condition condition then_schema else_schema) h = refl
choosing_by k combining.Conditional f h = absurd (cc)
choosing_by k c (asking.Condition condition then_schema else_schema) h = absurd (cc)
choosing_by k c f h = refl

pub choosing : (a : Applicator) → chooses (asks_of a) ≡ not (is_by_answers a)
choosing a = choosing_by (name_of a) (combining_of a) (asks_of a) a.stands

both : (b c : Bool) → (b && not c) ≡ true → (b ≡ true) × (c ≡ false)
both true false h = (refl, refl)
both true true h = absurd (cc)
both false c h = absurd (cc)

pub by_answers : (a : Applicator) → asks_values a ≡ true → is_by_answers a ≡ true
by_answers a h = (both (is_by_answers a) (asks_names a) h).0

-- of those that ask values no answer chooses, and no name is asked
pub by_values : (a : Applicator) → asks_values a ≡ true → (are_names (asks_of a) ≡ false) × (chooses (asks_of a) ≡ false)
by_values a h = (let w = both (is_by_answers a) (asks_names a) h in (w.1, choosing a ∙ ap not w.0))
