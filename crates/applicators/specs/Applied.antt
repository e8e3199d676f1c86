-- What an applicator is: its name, what it asks of a value, and the rule that it follows.
use Rattle.std.specs.Prelude.{ℕ, List}
use Rattle.std.specs.Borrow.{Bor}
use Rattle.serde_json.specs.declared.value.Value.{Value}
use Rattle.applicators.specs.Lent.{Schemas}
use Rattle.applicators.specs.declared.applicator.ApplicatorOf.{ApplicatorOf}
use Rattle.applicators.specs.declared.asks.AsksOf.{AsksOf}
use Rattle.applicators.specs.declared.combining.Combining.{Combining}

-- of a schema that is read
abbrev pub Applicator : Type 0
Applicator = ApplicatorOf (Bor Value) (Bor (List Value)) (Bor Schemas) (Bor Schemas) (Bor Schemas) (Bor Value)

abbrev pub name_of : {S L N P E V : Type 0} → ApplicatorOf S L N P E V → List ℕ
name_of a = a.keyword.now

abbrev pub combining_of : {S L N P E V : Type 0} → ApplicatorOf S L N P E V → Combining
combining_of a = a.combining

abbrev pub asks_of : {S L N P E V : Type 0} → ApplicatorOf S L N P E V → AsksOf S L N P E V
asks_of a = a.asks
