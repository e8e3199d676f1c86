-- What is answered once a document was added.
use Rattle.std.proofs.Common.{◌≡◌, ◌∙◌, ℕ, List, Bool, true, false, Option, Some, bytes_eq, if◌then◌else◌, refl, ap}
use Rattle.std.specs.Option.{option_map}
use Rattle.std.specs.Ordering.{is_eq, nat_cmp}
use Rattle.std.specs.Cmp.Lexicographic.{slice_cmp}
use Rattle.std.proofs.lemmas.Map.Text.{is_eq-slice_cmp}
use Rattle.serde_json.specs.View.{view}
use Rattle.serde_json.specs.declared.value.Value.{Value}
use mathlib.Core.Bool.{cond}

seen : (b : Bool) (v : Value) (old : Option Value) → option_map (λ w. view w) (cond b (Some v) old) ≡ (if b then Some (view v) else option_map (λ w. view w) old)
seen true v old = refl
seen false v old = refl

pub answer_added : (uri known q : List ℕ) (v : Value) (old : Option Value) → uri ≡ known
    → option_map (λ w. view w) (cond (is_eq (slice_cmp nat_cmp uri q)) (Some v) old) ≡ (if bytes_eq known q then Some (view v) else option_map (λ w. view w) old)
answer_added uri known q v old is =
    seen (is_eq (slice_cmp nat_cmp uri q)) v old
    ∙ ap (λ b. if b then Some (view v) else option_map (λ w. view w) old) (is_eq-slice_cmp uri q)
    ∙ ap (λ u. if bytes_eq u q then Some (view v) else option_map (λ w. view w) old) is
