use Rattle.std.proofs.Common.{sym, subst, List, ℕ}
use Rattle.schema_sites.specs.Read.{pattern_parts}
use Rattle.reached_sites.specs.Patterns.{Puts}
use Rattle.reached_sites.specs.Places.{place_in}
use Rattle.reached_sites.proofs.Putting.{puts-none, no-patterns}
use Rattle.reached_sites.proofs.pattern.push_patterns.Goals as goal

pub returns-in_default : goal.returns-in_default
returns-in_default c =
    let at = place_in c.args.place.now in
    let k = c.args.keyword.now in
    let parts = pattern_parts k c.args.name.now in
    let patterns = c.args.patterns.now.items in
    subst (λ (ps : List (List ℕ)). Puts at parts ps patterns patterns) (sym (no-patterns k c.in_default.not-Pattern c.in_default.not-Applicator)) (puts-none at parts patterns)
