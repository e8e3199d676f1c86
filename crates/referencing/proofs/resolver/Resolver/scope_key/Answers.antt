use Rattle.std.proofs.Common.{rules, ◌≡◌, ap₂, subst}
use Rattle.schema_definitions.specs.CompileKeys.{run_end, scope_key}
use Rattle.document_laws.proofs.Keys.{keys_decide}
use Rattle.referencing.specs.Resolved.{base_of, scope_of, documents_in}
use Rattle.referencing.proofs.resolver.Resolver.scope_key.Goals as goal

pub returns-clause-alike : goal.returns-clause-alike
returns-clause-alike c = λ scope there same.
    let self = c.args.self.now in
    let docs = documents_in self in
    let run : c.in_ok-clone.field-0.value ≡ run_end docs (base_of self) (scope_of self) = search rules in
    let own = ap₂ (λ os u. record { bearers = os; run = u }) c.in_ok-outermost_bearers.ensures run in
    keys_decide docs (base_of self) (scope_of self) scope self.present there (subst (λ k. k ≡ scope_key docs (base_of self) scope) own same)
