-- The vocabularies that are named with `true`, one by one.
use Rattle.std.proofs.Common.{◌≡◌, ◌∙◌, ℕ, List, ◌∷◌, Bool, true, false, ◌||◌, Option, Some, None, refl, sym, ap}
use Rattle.std.specs.List.{list_any}
use Rattle.std.specs.Option.{option_eq}
use mathlib.Core.Bool.{beq}
use Rattle.serde_json.specs.Data.{Data, null, boolean, number, string, array, object, Members, member}
use Rattle.serde_json.specs.Find.{as_bool}
use Rattle.schema_drafts.specs.Vocabularies.{Vocabulary, vocabulary_named}
use Rattle.schema_definitions.specs.Bearers.{required_in}

required_true : (k : List ℕ) (d : Data) (ms : Members) → as_bool d ≡ Some true → required_in (member k d ms) ≡ vocabulary_named k ∷ required_in ms
required_true k (boolean true) ms e = refl
required_true k (boolean false) ms e = absurd cc
required_true k null ms e = absurd cc
required_true k (number n) ms e = absurd cc
required_true k (string s) ms e = absurd cc
required_true k (array ds) ms e = absurd cc
required_true k (object ns) ms e = absurd cc

pub told_true : (o : Option Bool) → option_eq beq o (Some true) ≡ true → o ≡ Some true
told_true None e = absurd cc
told_true (Some true) e = refl
told_true (Some false) e = absurd cc

required_other : (k : List ℕ) (d : Data) (ms : Members) → option_eq beq (as_bool d) (Some true) ≡ false → required_in (member k d ms) ≡ required_in ms
required_other k (boolean true) ms e = absurd cc
required_other k (boolean false) ms e = refl
required_other k null ms e = refl
required_other k (number n) ms e = refl
required_other k (string s) ms e = refl
required_other k (array ds) ms e = refl
required_other k (object ns) ms e = refl

-- one passed over
pub none_required : (test : Vocabulary → Bool) (old : Bool) (k : List ℕ) (d : Data) (ms : Members) → option_eq beq (as_bool d) (Some true) ≡ false
    → (old || list_any test (required_in ms)) ≡ (old || list_any test (required_in (member k d ms)))
none_required test old k d ms other = ap (λ vs. old || list_any test vs) (sym (required_other k d ms other))

moved : (a b c : Bool) → ((a || b) || c) ≡ (b || (a || c))
moved true true c = refl
moved true false c = refl
moved false b c = refl

-- one added, and one less left
pub one_required : (test : Vocabulary → Bool) (old : Bool) (k : List ℕ) (d : Data) (ms : Members) → as_bool d ≡ Some true
    → ((test (vocabulary_named k) || old) || list_any test (required_in ms)) ≡ (old || list_any test (required_in (member k d ms)))
one_required test old k d ms is =
    moved (test (vocabulary_named k)) old (list_any test (required_in ms))
    ∙ ap (λ vs. old || list_any test vs) (sym (required_true k d ms is))
