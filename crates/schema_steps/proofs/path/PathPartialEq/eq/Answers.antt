use Rattle.std.proofs.Common.{◌≡◌, map, ap, ◌∙◌}
use Rattle.std.specs.Cmp.Lexicographic.{pointwise}
use Rattle.std.proofs.lemmas.Slice.Eq.{slice_eq-Decides}
use Rattle.schema_steps.specs.Parts.{part_eq}
use Rattle.schema_steps.specs.Steps.{step_part}
use Rattle.schema_steps.proofs.EqualLemmas.{pointwise-map, part_eq-Decides}
use Rattle.schema_steps.proofs.path.PathPartialEq.eq.Goals as goal

value : (c : goal.After-eq) → c.eq.result ≡ pointwise part_eq c.args.self.now c.args.other.now
value c =
    c.eq.ensures ∙ pointwise-map step_part part_eq c.self.inside.steps c.other.inside.steps
    ∙ ap (λ l. pointwise part_eq l (map step_part c.other.inside.steps)) c.self.view_is ∙ ap (pointwise part_eq c.args.self.now) c.other.view_is

pub returns-clause-value : goal.returns-clause-value
returns-clause-value c = value c

pub returns-clause-same : goal.returns-clause-same
returns-clause-same c = slice_eq-Decides part_eq-Decides c.args.self.now c.args.other.now c.eq.result (value c)
