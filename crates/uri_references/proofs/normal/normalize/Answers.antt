use Rattle.std.proofs.Common.{◌≡◌, ◌++◌, ◌∙◌, [], List, ℕ, ap, string_bytes, option_map}
use Rattle.uri_grammar.specs.Lent.{parts_of}
use Rattle.uri_references.specs.Resolution.{guarded_path}
use Rattle.uri_references.proofs.NormalWritten.{normal-written}
use Rattle.uri_references.proofs.normal.normalize.Goals as goal

five : (o0 o1 o2 o3 o4 o5 s a g h q f : List ℕ) → o0 ≡ [] → o1 ≡ o0 ++ s → o2 ≡ o1 ++ a → o3 ≡ o2 ++ g → o4 ≡ o3 ++ q → o5 ≡ o4 ++ f → g ≡ h
    → o5 ≡ s ++ a ++ h ++ q ++ f
five o0 o1 o2 o3 o4 o5 s a g h q f e0 e1 e2 e3 e4 e5 e =
    e5 ∙ ap (λ t. t ++ f) (e4 ∙ ap (λ t. t ++ q) (e3 ∙ ap (λ t. t ++ g) (e2 ∙ ap (λ t. t ++ a) (e1 ∙ ap (λ t. t ++ s) e0)) ∙ ap (λ t. s ++ a ++ t) e))

pub returns : goal.returns
returns c =
    five (string_bytes c.new-output.result) (string_bytes c.push_scheme.new.output) (string_bytes c.push_authority.new.output) (string_bytes c.push_guarded.new.output)
    (string_bytes c.push_with_triplets_behind.new.output) (string_bytes c.push_with_triplets_behind-2.new.output)
    _ _ _ _ _ _
    c.new-output.ensures.bytes c.in_ok-push_scheme.ensures c.in_ok-push_authority.ensures c.in_ok-push_guarded.ensures
    c.in_ok-push_with_triplets_behind.ensures c.in_ok-push_with_triplets_behind-2.ensures
    (ap (guarded_path (option_map (λ t. t.now) c.args.parts.now.authority)) (c.as_str.ensures.value ∙ c.in_ok-path.ensures))
    ∙ normal-written (parts_of c.args.parts.now)
