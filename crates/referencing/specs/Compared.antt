-- When the code's resolvers are equal.
use Rattle.std.specs.Prelude.{ℕ, List, Bool, ◌&&◌, bytes_eq}
use Rattle.std.specs.Cmp.{IsEquivalence, IsPartialEquivalence, on_equiv, and_equiv, partial_equiv_from_equiv}
use Rattle.std.specs.Cmp.Lexicographic.{pointwise, lists_equiv, nat_list_eq_equiv}
use Rattle.referencing.specs.Resolved.{base_of, scope_of}
use Rattle.referencing.specs.declared.resolver.Resolver.{Resolver}

-- where a resolver stands
pub record Position : Type 0 where
  pub base : List ℕ
  pub scope : List (List ℕ)

abbrev pub position_of : Resolver → Position
position_of r = record { base = base_of r; scope = scope_of r }

abbrev pub positions_eq : Position → Position → Bool
positions_eq a b = bytes_eq a.base b.base && pointwise bytes_eq a.scope b.scope

pub positions_eq_equiv : IsEquivalence positions_eq
positions_eq_equiv = and_equiv (on_equiv (λ (p : Position). p.base) nat_list_eq_equiv) (on_equiv (λ (p : Position). p.scope) (lists_equiv nat_list_eq_equiv))

pub positions_eq_per : IsPartialEquivalence positions_eq
positions_eq_per = partial_equiv_from_equiv positions_eq_equiv
