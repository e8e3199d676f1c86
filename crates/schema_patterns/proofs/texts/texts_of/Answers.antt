use Rattle.std.proofs.Common.{◌∙◌, ℕ, List, bytes_eq, ap, Bor, ◌++◌}
use Rattle.std.specs.List.{list_any}
use Rattle.std.proofs.lemmas.Result.{IfOk-weaker}
use Rattle.serde_json.specs.View.{view}
use Rattle.schema_patterns.specs.Texts.{texts_in, bytes_of}
use Rattle.schema_patterns.proofs.Scripts.{any_mapped}
use Rattle.schema_patterns.proofs.texts.texts_of.Goals as goal

pub returns : goal.returns
returns c =
    IfOk-weaker c.distinct.result _ _
    (λ s h t. h t ∙ ap (λ ts. list_any (λ (k : Bor (List ℕ)). bytes_eq t k.now) ts) c.as_slice.ensures.value ∙ any_mapped (bytes_eq t) (λ (k : Bor (List ℕ)). k.now) _ ∙ ap (list_any (bytes_eq t)) (c.in_ok-push_texts.ensures ∙ ap (λ (ts : List (Bor (List ℕ))). bytes_of ts ++ texts_in (view c.args.value.now)) c.new-texts.ensures.items))
    c.distinct.ensures
