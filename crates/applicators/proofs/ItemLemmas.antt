-- Items from an index on, in the code and in the definitions.
use Rattle.std.proofs.Common.{◌≡◌, ℕ, zero, suc, List, [], ◌∷◌, ◌++◌, drop, refl, sym, ap, ◌∙◌, append_assoc, append-nil}
use Rattle.serde_json.specs.Data.{Items}
use Rattle.serde_json.specs.View.{view, items_view}
use Rattle.serde_json.specs.declared.value.Value.{Value}
use Rattle.schema_meaning.specs.Places.{to_item}
use Rattle.schema_meaning.specs.Questions.{Question, question, at, items_from, each_item}
use Rattle.schema_definitions.specs.Sites.{Site}

drop-items : (start : ℕ) (vs : List Value) → items_view (drop start vs) ≡ items_from start (items_view vs)
drop-items zero [] = refl
drop-items zero (v ∷ vs) = refl
drop-items (suc start) [] = refl
drop-items (suc start) (v ∷ vs) = drop-items start vs

pub items_begin : (k : List ℕ) (s : Site) (start : ℕ) (vs : List Value) (done : List (Question Site))
    → done ++ each_item k s start (items_from start (items_view vs)) ≡ done ++ each_item k s start (items_view (drop start vs))
items_begin k s start vs done = ap (λ ds. done ++ each_item k s start ds) (sym (drop-items start vs))

-- once the first of the items that are left is asked of
pub items_step : (k : List ℕ) (s : Site) (i j : ℕ) (x : Value) (left more : List Value) (all done next : List (Question Site)) → j ≡ suc i → left ≡ x ∷ more
    → all ≡ done ++ each_item k s i (items_view left) → next ≡ done ++ question s (to_item i (view x)) (at k) ∷ [] → all ≡ next ++ each_item k s j (items_view more)
items_step k s i j x left more all done next is-j is h asked =
    rw (is-j, asked) (h ∙ ap (λ vs. done ++ each_item k s i (items_view vs)) is ∙ sym (append_assoc done (question s (to_item i (view x)) (at k) ∷ []) (each_item k s (suc i) (items_view more))))

pub items_end : (k : List ℕ) (s : Site) (start i : ℕ) (vs left : List Value) (ds : Items) (done all : List (Question Site)) → left ≡ [] → items_view vs ≡ ds
    → done ++ each_item k s start (items_from start (items_view vs)) ≡ all ++ each_item k s i (items_view left) → all ≡ done ++ each_item k s start (items_from start ds)
items_end k s start i vs left ds done all none is h =
    sym (append-nil all) ∙ ap (λ vs. all ++ each_item k s i (items_view vs)) (sym none) ∙ sym h ∙ ap (λ ds. done ++ each_item k s start (items_from start ds)) is
