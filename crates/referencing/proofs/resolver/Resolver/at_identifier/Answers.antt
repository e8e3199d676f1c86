use Rattle.std.proofs.Common.{◌≡◌, ◌∙◌, sym, ap, ℕ, List, Option, None}
use Rattle.schema_definitions.specs.Words.{ok_or, result_map}
use Rattle.schema_definitions.specs.Identifiers.{resolved}
use Rattle.schema_definitions.specs.Lookup.{invalid_uri}
use Rattle.schema_definitions.specs.Scopes.{entered_scope}
use Rattle.referencing.specs.Resolved.{base_of, scope_of, entered_at}
use Rattle.referencing.proofs.RefusedLemmas.{refused-one}
use Rattle.referencing.proofs.resolver.Resolver.at_identifier.Goals as goal

pub returns-in-None-clause-refused : goal.returns-in-None-clause-refused
returns-in-None-clause-refused c =
    let base = base_of c.args.self.now in
    let scope = scope_of c.args.self.now in
    let id = c.args.id.now in
    let same : c.deref.result.now ≡ base = c.deref.ensures in
    let none : resolved base id ≡ None = ap (λ b. resolved b id) (sym same) ∙ sym c.in_ok-uri.ensures ∙ c.in-None.is in
    refused-one (entered_at base scope id) (invalid_uri id) c.invalid_uri.result
    (ap (λ (o : Option (List ℕ)). result_map (λ uri. (uri, entered_scope uri base scope)) (ok_or (invalid_uri id) o)) none) c.invalid_uri.ensures.lookup
