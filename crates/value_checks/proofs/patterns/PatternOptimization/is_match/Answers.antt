use Rattle.std.proofs.Common.{◌≡◌, ℕ, List, [], ◌∷◌, map, Bool, bytes_eq, nat_eq, string_bytes, refl, sym, ap, ◌∙◌, ◌||◌}
use Rattle.std.proofs.lemmas.Str.Pattern.{starts_text}
use Rattle.std.specs.List.{list_any, starts_with}
use Rattle.value_checks.specs.CodePatterns.{form_of}
use Rattle.json_values.specs.Patterns.{means}
use Rattle.value_checks.proofs.patterns.PatternOptimization.is_match.Goals as goal

any_mapped : {X Y : Type 0} (p : Y → Bool) (f : X → Y) (xs : List X) → list_any (λ x. p (f x)) xs ≡ list_any p (map f xs)
any_mapped p f [] = refl
any_mapped p f (x ∷ xs) = ap (λ b. p (f x) || b) (any_mapped p f xs)

pub returns-in-Prefix : goal.returns-in-Prefix
returns-in-Prefix c =
    starts_text c.starts_with.result c.as_str.result.now c.args.text.now c.starts_with.ensures.cases
    ∙ ap (starts_with nat_eq c.args.text.now) c.as_str.ensures.value
    ∙ ap (λ p. means (form_of p) c.args.text.now) (sym c.in-Prefix.is)

pub returns-in-Alternation : goal.returns-in-Alternation
returns-in-Alternation c =
    let text = c.args.text.now in
    c.is_one_of.ensures
    ∙ ap (list_any (λ s. bytes_eq text (string_bytes s))) c.deref.ensures.value
    ∙ any_mapped (λ (l : List ℕ). bytes_eq text l) string_bytes c.in-Alternation.texts.items
    ∙ ap (λ p. means (form_of p) text) (sym c.in-Alternation.is)
