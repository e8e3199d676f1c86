use Rattle.std.proofs.Common.{◌≡◌, ◌∙◌, ℕ, List, ap, ap₂}
use Rattle.applicators.specs.Applied.{name_of, combining_of, asks_of}
use Rattle.applicators.specs.Forms.{stands}
use Rattle.applicators.specs.declared.combining.Combining.{Combining}
use Rattle.compiled_keywords.specs.Forms.{form_of}
use Rattle.keyword_compilers.specs.Shapes.{numbered_form}
use Rattle.keyword_compilers.proofs.Standing.{stands_numbered}
use Rattle.keyword_compilers.proofs.applying.applied.Goals as goal

pub invariant_of-result : goal.invariant_of-result
invariant_of-result g c =
    let a = c.args.read.now in
    let nodes = c.args.nodes.now in
    let f = form_of c.in_ok-asks.asks in
    let form : f ≡ numbered_form nodes (asks_of a) = c.in_ok-asks.ensures.form ∙ ap (numbered_form nodes) c.asks.ensures in
    record {
      stands =
          ap₂ (λ (k : List ℕ) (d : Combining). stands k d f) c.name.ensures c.combining.ensures
          ∙ ap (stands (name_of a) (combining_of a)) form
          ∙ stands_numbered nodes (name_of a) (combining_of a) (asks_of a)
          ∙ a.stands;
    }
