-- The texts of references that lead somewhere.
use Rattle.std.proofs.Common.{◌≡◌, ℕ, List, true, Result, Ok, Err, refl, sym, subst}
use Rattle.schema_definitions.specs.Words.{and_then}
use Rattle.schema_definitions.specs.Bearers.{Documents}
use Rattle.schema_definitions.specs.Lookup.{LookupCause, Target, lookup}
use Rattle.document_laws.proofs.Texts.{lookups_read}
use Rattle.schema_reports.specs.Readable.{reads_as_path}
use Rattle.schema_sites.specs.References.{looked_up, MayBe}
use Rattle.schema_sites.specs.declared.reference_keyword.ReferenceKeyword.{ReferenceKeyword}
use Rattle.schema_sites.specs.declared.reference_keyword.ReferenceKeyword.TheVariants.{Ref, DynamicRef, RecursiveRef}

record Before (r : Result Target LookupCause) : Type 0 where
  target : Target
  is : r ≡ Ok target

before : (r : Result Target LookupCause) (f : Target → Result Target LookupCause) (t : Target) → and_then r f ≡ Ok t → Before r
before (Ok u) f t e = record { target = u; is = refl }
before (Err cause) f t e = absurd (cc (e))

-- a pointer in the text is, percent-decoded, a text
pub text-reads : (w : ReferenceKeyword) (docs : Documents) (base : List ℕ) (scope : List (List ℕ)) (text : List ℕ) (t : Target)
    → looked_up w docs base scope text ≡ Ok t → MayBe w text → reads_as_path text ≡ true
text-reads Ref docs base scope text t e may_be = lookups_read docs base text t e
text-reads DynamicRef docs base scope text t e may_be = (let found = before (lookup docs base text) _ t e in lookups_read docs base text found.target found.is)
text-reads RecursiveRef docs base scope text t e may_be = subst (λ (u : List ℕ). reads_as_path u ≡ true) (sym may_be) refl
