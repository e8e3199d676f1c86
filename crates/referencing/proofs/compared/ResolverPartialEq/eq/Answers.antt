use Rattle.std.proofs.Common.{◌≡◌, ◌∙◌, ◌&&◌, true, false, sym, ap, bytes_eq}
use Rattle.std.specs.Cmp.Lexicographic.{pointwise}
use Rattle.schema_steps.proofs.EqualLemmas.{pointwise-map}
use Rattle.referencing.specs.Compared.{position_of}
use Rattle.referencing.proofs.compared.ResolverPartialEq.eq.Goals as goal

pub returns-then-eq : goal.returns-then-eq
returns-then-eq c =
    let a = position_of c.args.self.now in
    let b = position_of c.args.other.now in
    let bases : bytes_eq a.base b.base ≡ true = sym c.eq.ensures ∙ c.if-eq.true in
    record {
      value = c.eq-then-eq.ensures ∙ pointwise-map (λ u. u.value) bytes_eq c.args.self.now.scope c.args.other.now.scope ∙ sym (ap (λ t. t && pointwise bytes_eq a.scope b.scope) bases);
    }

pub returns-else-eq : goal.returns-else-eq
returns-else-eq c =
    let a = position_of c.args.self.now in
    let b = position_of c.args.other.now in
    let bases : bytes_eq a.base b.base ≡ false = sym c.eq.ensures ∙ c.if-eq.false in
    record { value = c.if-eq.false ∙ sym (ap (λ t. t && pointwise bytes_eq a.scope b.scope) bases) }
