use Rattle.std.proofs.Common.{◌≡◌, ◌∙◌, ℕ, List, Bool, Some, None, if◌then◌else◌, not, bytes_eq, string_bytes, sym, ap, ap₂}
use Rattle.std.specs.List.{list_any}
use Rattle.schema_patterns.specs.Scripts.{refused_by, unfinished_by}
use Rattle.schema_patterns.proofs.Scripts.{any_mapped}
use Rattle.schema_patterns.proofs.bench.ScriptedMakerPatternMaker.make.Goals as goal

pub returns-then-is_among-clause-refused : goal.returns-then-is_among-clause-refused
returns-then-is_among-clause-refused c = λ _.
    let text = c.args.pattern.now in
    let asked : c.is_among.result ≡ list_any (λ t. bytes_eq t text) (refused_by c.args.self.now) =
    c.is_among.ensures ∙ ap (list_any (λ s. bytes_eq (string_bytes s) text)) c.deref.ensures.value ∙ any_mapped (λ (t : List ℕ). bytes_eq t text) string_bytes c.args.self.now.refused.items in
    ap not (sym asked ∙ c.if-is_among.true)

pub returns-in-Ok-clause-finds : goal.returns-in-Ok-clause-finds
returns-in-Ok-clause-finds c = λ text.
    let pattern = c.args.pattern.now in
    let asked : c.is_among-is_unfinished.result ≡ list_any (λ t. bytes_eq t pattern) (unfinished_by c.args.self.now) =
    c.is_among-is_unfinished.ensures ∙ ap (list_any (λ s. bytes_eq (string_bytes s) pattern)) c.deref-2.ensures.value ∙ any_mapped (λ (t : List ℕ). bytes_eq t pattern) string_bytes c.args.self.now.unfinished.items in
    ap₂ (λ (b : Bool) (found : Bool). if b then None else Some found) asked (c.in-Ok.ensures text)

pub returns-in-Ok-clause-made : goal.returns-in-Ok-clause-made
returns-in-Ok-clause-made c =
    let text = c.args.pattern.now in
    let asked : c.is_among.result ≡ list_any (λ t. bytes_eq t text) (refused_by c.args.self.now) =
    c.is_among.ensures ∙ ap (list_any (λ s. bytes_eq (string_bytes s) text)) c.deref.ensures.value ∙ any_mapped (λ (t : List ℕ). bytes_eq t text) string_bytes c.args.self.now.refused.items in
    ap not (sym asked ∙ c.if-is_among.false)
