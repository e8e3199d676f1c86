-- A reference resolved, by whether it is one.
use Rattle.std.proofs.Common.{◌≡◌, sym, ap, ℕ, List, true, false, Some, None, if◌then◌else◌}
use Rattle.uri_grammar.specs.Parts.{split}
use Rattle.uri_grammar.specs.Grammar.{is_reference}
use Rattle.uri_references.specs.Identity.{identity_against}
use Rattle.schema_dialects.specs.Passed.{resolved}

pub resolved-some : (base reference : List ℕ) → is_reference (split reference) ≡ true → Some (identity_against base reference) ≡ resolved base reference
unfolding resolved is_reference
resolved-some base reference h = sym (ap (λ b. if b then Some (identity_against base reference) else None) h)

pub resolved-none : (base reference : List ℕ) → is_reference (split reference) ≡ false → None ≡ resolved base reference
unfolding resolved is_reference
resolved-none base reference h = sym (ap (λ b. if b then Some (identity_against base reference) else None) h)
