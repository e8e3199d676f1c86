-- Keywords of which one thing at most is wrong.
use Rattle.std.proofs.Common.{◌≡◌, ℕ, ℤ, List, [], ◌∷◌, Bool, true, false, Option, Some, None, option_map, refl, sym, ap, ◌∙◌}
use Rattle.serde_json.specs.Data.{Data}
use Rattle.schema_definitions.specs.Words.{listed}
use Rattle.schema_meaning.specs.Faults.{Kind}
use Rattle.schema_meaning.specs.Keywords.{wrong, unless}
use Rattle.schema_meaning.specs.Members.{is_empty}
use Rattle.schema_meaning.specs.Rules.{Note}
use Rattle.std.specs.Prelude.{is_some, not, Result, Ok, Err, IfOk}
use Rattle.std.proofs.Common.{Vec, Global}
use Rattle.std.specs.declared.alloc.AllocError.{AllocError}
use Rattle.assertions.specs.Shapes.{assertion_of, count_assertion, bound_assertion, old_assertion, integer_of}
use Rattle.assertions.specs.Wrong.{head, note_of, notes_of}
use Rattle.assertions.specs.declared.keyword.Count.{Count}
use Rattle.assertions.specs.declared.keyword.Count.TheVariants as count
use Rattle.assertions.specs.declared.keyword.Limit.{Limit}
use Rattle.assertions.specs.declared.keyword.Limit.TheVariants as side
use Rattle.assertions.specs.declared.assertion.Bound.{Bound}
use Rattle.assertions.specs.declared.assertion.Bound.TheVariants as bound
use Rattle.assertions.specs.declared.assertion.Assertion.{Assertion}
use Rattle.assertions.specs.declared.assertion.Assertion.TheVariants as code
use Rattle.assertions.specs.declared.assertion.Wrong.{Wrong}

one : (b : Bool) (k : Kind) (d : Data) → unless b k d ≡ listed (head (unless b k d))
one true k d = refl
one false k d = refl

pub none_wrong : {A : Type 0} (xs : List A) → not (is_some (head xs)) ≡ is_empty xs
none_wrong [] = refl
none_wrong (x ∷ xs) = refl

pub notes_listed : (d : Data) (o : Option Wrong) (ns : List Note) → option_map (note_of d) o ≡ head ns → ns ≡ listed (head ns) → notes_of d (listed o) ≡ ns
notes_listed d None ns h e = ap listed h ∙ sym e
notes_listed d (Some w) ns h e = ap listed h ∙ sym e

one_bound : (b : Bound) (z : ℤ) (m : List ℕ → List ℕ → Bool) (d : Data) → wrong m (bound_assertion b z) d ≡ listed (head (wrong m (bound_assertion b z) d))
one_bound bound.Maximum z m d = one _ _ d
one_bound bound.ExclusiveMaximum z m d = one _ _ d
one_bound bound.Minimum z m d = one _ _ d
one_bound bound.ExclusiveMinimum z m d = one _ _ d

one_old : (s : Limit) (z : ℤ) (strict : Bool) (m : List ℕ → List ℕ → Bool) (d : Data) → wrong m (old_assertion s z strict) d ≡ listed (head (wrong m (old_assertion s z strict) d))
one_old side.Maximum z true m d = one _ _ d
one_old side.Maximum z false m d = one _ _ d
one_old side.Minimum z true m d = one _ _ d
one_old side.Minimum z false m d = one _ _ d

one_count : (c : Count) (n : ℕ) (m : List ℕ → List ℕ → Bool) (d : Data) → wrong m (count_assertion c n) d ≡ listed (head (wrong m (count_assertion c n) d))
one_count count.MaxLength n m d = one _ _ d
one_count count.MinLength n m d = one _ _ d
one_count count.MaxItems n m d = one _ _ d
one_count count.MinItems n m d = one _ _ d
one_count count.MaxProperties n m d = one _ _ d
one_count count.MinProperties n m d = one _ _ d

-- but for names
pub one_wrong : (a : Assertion) (m : List ℕ → List ℕ → Bool) (d : Data) → ((ns : _) → a ≡ code.Required ns → ⊥) → ((es : _) → a ≡ code.DependentRequired es → ⊥)
    → wrong m (assertion_of a) d ≡ listed (head (wrong m (assertion_of a) d))
one_wrong (code.Types names) m d r q = one _ _ d
one_wrong (code.Enumeration options) m d r q = one _ _ d
one_wrong (code.Constant expected) m d r q = one _ _ d
one_wrong (code.MultipleOf divisor) m d r q = one _ _ d
one_wrong (code.Limit b limit) m d r q = one_bound b (integer_of limit) m d
one_wrong (code.LimitOfDraft4 s limit strict) m d r q = one_old s (integer_of limit) strict m d
one_wrong (code.Count c limit) m d r q = one_count c limit m d
one_wrong code.UniqueItems m d r q = one _ _ d
one_wrong (code.Required ns) m d r q = absurd (r ns refl)
one_wrong (code.DependentRequired es) m d r q = absurd (q es refl)

pub told_alone : (r : Result (Vec Wrong Global) AllocError) (o : Option Wrong) (a : Assertion) (d : Data) → ((ns : _) → a ≡ code.Required ns → ⊥) → ((es : _) → a ≡ code.DependentRequired es → ⊥)
    → ((m : List ℕ → List ℕ → Bool) → option_map (note_of d) o ≡ head (wrong m (assertion_of a) d)) → IfOk r (λ ws. ws.items ≡ listed o)
    → IfOk r (λ ws. (m : List ℕ → List ℕ → Bool) → notes_of d ws.items ≡ wrong m (assertion_of a) d)
told_alone (Ok ws) o a d nr nd told h = λ m. ap (notes_of d) h ∙ notes_listed d o (wrong m (assertion_of a) d) (told m) (one_wrong a m d nr nd)
told_alone (Err e) o a d nr nd told h = tt
