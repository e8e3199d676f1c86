use Rattle.std.proofs.Common.{◌≡◌, ◌∙◌, ◌∷◌, ◌+◌, List, ap, sym, subst, arith, drop}
use Rattle.std.proofs.lemmas.List.{drop_more, drop_all}
use Rattle.schema_patterns.specs.Tables.{texts_of_table}
use Rattle.compiled_graphs.specs.declared.asking.Asking.{Asking}
use Rattle.compiled_graphs.specs.declared.asking.Asking.TheVariants as asking
use Rattle.compiled_graphs.specs.Filled.{total}
use Rattle.compiled_graphs.proofs.Compiling.{IsLeft, fits-left, never-goes, keyword-goes, all-done}
use Rattle.compiled_graphs.proofs.filling.compile.Goals.{in-Never+in_ok-push-in-Never, in-Keyword+in_ok-push_compiled-in-Keyword}
use Rattle.compiled_graphs.proofs.filling.compile.Goals as goal

pub loop-asking-init : goal.loop-asking-init
loop-asking-init g c = rw c.in_ok-keywords.ensures.items (record { whole = λ ks made. made; counts = c.requires })

pub split_at-requires : goal.split_at-requires
split_at-requires g c =
    let xs = c.args.askings.now in
    let i = c.loop-asking.asking-index in
    let x = c.asking-item.result in
    let more = drop (i + 1) xs in
    let next : drop i xs ≡ x ∷ more = drop_more xs i x c.loop-asking-test.true ∙ ap (λ y. y ∷ more) (sym c.asking-item.is) in
    fits-left more c.loop-asking.rest.now c.in-Keyword.keyword c.in-Keyword.asks
    (ap total (sym (next ∙ ap (λ y. y ∷ more) c.in-Keyword.is)) ∙ c.loop-asking.invariant.counts)

pub loop-asking-preserved : goal.loop-asking-preserved
loop-asking-preserved g c =
    let texts = texts_of_table c.args.table.now in
    let xs = c.args.askings.now in
    let ns = c.args.numbers.now in
    let i = c.loop-asking.asking-index in
    let x = c.asking-item.result in
    let rest = c.loop-asking.rest.now in
    let done = c.loop-asking.keywords.items in
    let more = drop (i + 1) xs in
    let next : drop i xs ≡ x ∷ more = drop_more xs i x c.loop-asking-test.true ∙ ap (λ y. y ∷ more) (sym c.asking-item.is) in
    let known = subst (λ (l : List Asking). IsLeft texts xs ns l rest done) next c.loop-asking.invariant in
    elim c.match-asking.branch [
      | in-Never+in_ok-push-in-Never w ↦
          rw (w.keywords-is, w.rest-is, w.in_ok-push-in-Never.ensures.items)
          (never-goes texts xs ns more rest done (subst (λ (y : Asking). IsLeft texts xs ns (y ∷ more) rest done) w.in-Never.is known))
      | in-Keyword+in_ok-push_compiled-in-Keyword w ↦
          let put = w.in_ok-push_compiled-in-Keyword.ensures in
          rw (w.keywords-is, w.rest-is, put.1)
          (keyword-goes texts xs ns w.in-Keyword.keyword w.in-Keyword.asks more _ _ done put.0 w.split_at.ensures.front_len put.2
          (subst (λ l. IsLeft texts xs ns (asking.Keyword w.in-Keyword.keyword w.in-Keyword.asks ∷ more) l done) w.split_at.ensures.by_index.0 (subst (λ (y : Asking). IsLeft texts xs ns (y ∷ more) rest done) w.in-Keyword.is known)))
    ]

pub returns : goal.returns
returns g c =
    let texts = texts_of_table c.args.table.now in
    let xs = c.args.askings.now in
    let known = c.loop-asking.invariant in
    all-done texts xs c.args.numbers.now c.loop-asking.rest.now c.loop-asking.keywords.items
    (subst (λ (l : List Asking). IsLeft texts xs c.args.numbers.now l c.loop-asking.rest.now c.loop-asking.keywords.items) (drop_all c.loop-asking.asking-index xs (omega (arith, c.loop-asking-test.false))) known)
