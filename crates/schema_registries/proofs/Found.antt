-- What the reference of a root leads to.
use Rattle.std.proofs.Common.{◌≡◌, ◌∙◌, Result, Ok, Err, is_ok, true, false, true≢false, refl, sym, ap}
use Rattle.schema_definitions.specs.Lookup.{Target, LookupCause, lookup}
use Rattle.schema_registries.specs.Roots.{Root, Patterns, Finds, IsSound}

found_in : {T E : Type 0} (x : Result T E) → is_ok x ≡ true → (t : T) × (x ≡ Ok t)
found_in (Ok t) h = (t, refl)
found_in (Err e) h = let no : true ≡ false = sym h in cc

one_in : {T E : Type 0} (x : Result T E) (t u : T) → x ≡ Ok t → x ≡ Ok u → t ≡ u
one_in x t u p q = cc (p, q)

pub target_of : (p : Patterns) (r : Root) → IsSound p r → (target : Target) × Finds r target
target_of p r sound = found_in (lookup r.documents r.base r.reference) sound.found

pub finds_one : (r : Root) (t u : Target) → Finds r t → Finds r u → t ≡ u
finds_one r t u p q = one_in (lookup r.documents r.base r.reference) t u p q

pub leads_somewhere : (p : Patterns) (r : Root) → IsSound p r → (cause : LookupCause) → lookup r.documents r.base r.reference ≡ Err cause → ⊥
leads_somewhere p r sound cause e = true≢false (sym sound.found ∙ ap is_ok e)
