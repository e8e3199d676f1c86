use Rattle.std.proofs.Common.{◌≡◌, ◌++◌, List, ℕ, Option, Some, None, refl, ap, sym, option_map}
use Rattle.std.specs.Prelude.{codes}
use Rattle.uri_grammar.specs.Parts.{Parts, before, behind, recompose}
use Rattle.uri_references.specs.Resolution.{guarded_path}
use Rattle.uri_references.specs.NormalForm.{normal, normal_path, normal_authority, with_triplets, lowered}

pub guard-kept : (f : List ℕ → List ℕ) (a : Option (List ℕ)) (path : List ℕ) → guarded_path (option_map f a) path ≡ guarded_path a path
guard-kept f None path = refl
guard-kept f (Some x) path = refl

-- the normal form as it is written, a component after another
pub normal-written : (p : Parts) →
    before (option_map lowered p.scheme) (codes ":") ++ behind (codes "//") (option_map normal_authority p.authority)
    ++ guarded_path p.authority (normal_path p.scheme p.path) ++ behind (codes "?") (option_map with_triplets p.query)
    ++ behind (codes "#") (option_map with_triplets p.fragment) ≡ recompose (normal p)
unfolding normal
normal-written p =
    ap (λ g. before (option_map lowered p.scheme) (codes ":") ++ behind (codes "//") (option_map normal_authority p.authority) ++ g
    ++ behind (codes "?") (option_map with_triplets p.query) ++ behind (codes "#") (option_map with_triplets p.fragment))
    (sym (guard-kept normal_authority p.authority (normal_path p.scheme p.path)))
