use Rattle.std.proofs.Common.{◌≡◌, ◌∙◌, ◌&&◌, true, false, sym, ap, bytes_eq}
use Rattle.std.specs.Option.{option_eq}
use Rattle.std.specs.Cmp.Lexicographic.{pointwise}
use Rattle.referencing.specs.Keys.{key_of, keys_eq}
use Rattle.referencing.proofs.KeyLemmas.{options-map, keys_eq-Decides}
use Rattle.referencing.proofs.scope_key.ScopeKeyPartialEq.eq.Goals.{After-eq-then-eq, Else-eq}
use Rattle.referencing.proofs.scope_key.ScopeKeyPartialEq.eq.Goals as goal

same : (c : After-eq-then-eq) → c.eq-then-eq.result ≡ keys_eq (key_of c.args.self.now) (key_of c.args.other.now)
same c =
    let a = c.args.self.now in
    let b = c.args.other.now in
    let bearers : pointwise (option_eq bytes_eq) (key_of a).bearers (key_of b).bearers ≡ true = sym (options-map (λ u. u.value) bytes_eq a.bearers.items b.bearers.items) ∙ sym c.eq.ensures ∙ c.if-eq.true in
    c.eq-then-eq.ensures ∙ sym (ap (λ r. r && bytes_eq a.run.value b.run.value) bearers)

apart : (c : Else-eq) → c.eq.result ≡ keys_eq (key_of c.args.self.now) (key_of c.args.other.now)
apart c =
    let a = c.args.self.now in
    let b = c.args.other.now in
    let bearers : pointwise (option_eq bytes_eq) (key_of a).bearers (key_of b).bearers ≡ false = sym (options-map (λ u. u.value) bytes_eq a.bearers.items b.bearers.items) ∙ sym c.eq.ensures ∙ c.if-eq.false in
    c.if-eq.false ∙ sym (ap (λ r. r && bytes_eq a.run.value b.run.value) bearers)

pub returns-then-eq-clause-value : goal.returns-then-eq-clause-value
returns-then-eq-clause-value c = same c

pub returns-then-eq-clause-same : goal.returns-then-eq-clause-same
returns-then-eq-clause-same c = keys_eq-Decides (key_of c.args.self.now) (key_of c.args.other.now) c.eq-then-eq.result (same c)

pub returns-else-eq-clause-value : goal.returns-else-eq-clause-value
returns-else-eq-clause-value c = apart c

pub returns-else-eq-clause-same : goal.returns-else-eq-clause-same
returns-else-eq-clause-same c = keys_eq-Decides (key_of c.args.self.now) (key_of c.args.other.now) c.eq.result (apart c)
