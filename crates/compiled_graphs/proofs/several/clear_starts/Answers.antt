use Rattle.std.proofs.Common.{◌∷◌, ◌++◌, ◌∙◌, [], sym, ap, subst, append-nil, append_assoc}
use Rattle.std.specs.List.{AllZip}
use Rattle.std.specs.Vec.Iter.{into_iter_items}
use Rattle.std.proofs.lemmas.List.Elements.{All-rest}
use Rattle.std.specs.Prelude.{length}
use Rattle.document_index.proofs.LocatedLemmas.{no_items}
use Rattle.compiled_graphs.specs.Marked.{IsMarked, IsNode}
use Rattle.compiled_graphs.proofs.several.clear_starts.Goals as goal

pub loop-start-preserved : goal.loop-start-preserved
loop-start-preserved c =
    let marks = c.args.marks.now in
    let all = into_iter_items c.into_iter-start-iterator.result in
    let left = into_iter_items c.next.new.self in
    let o = c.in-Some.start in
    let b = c.clear_start.result in
    let clear = c.loop-start.clear.items in
    record {
      marked = λ bs h.
          let whole = c.loop-start.invariant.marked (b ∷ bs) (subst (λ os. AllZip (IsMarked marks) os (b ∷ bs)) (sym c.in-Some.ensures.steps.0) (c.clear_start.ensures, h)) in
          subst (λ xs. AllZip (IsMarked marks) all xs) (sym (ap (λ xs. xs ++ bs) c.in_ok-push.ensures.items ∙ append_assoc clear (b ∷ []) bs)) whole;
      nodes = All-rest (IsNode (length marks)) o left (into_iter_items c.loop-start.start-iterator) c.in-Some.ensures.steps.0 c.loop-start.invariant.nodes;
    }

pub returns : goal.returns
returns c =
    let marks = c.args.marks.now in
    let it = c.loop-start.start-iterator in
    let clear = c.loop-start.clear.items in
    let empty = no_items it.rest.items (sym it.rest.ok.0 ∙ c.in-None.ensures.steps.0) in
    let whole = c.loop-start.invariant.marked [] (subst (λ os. AllZip (IsMarked marks) os []) (sym empty) tt) in
    subst (λ os. AllZip (IsMarked marks) os clear) c.into_iter-start-iterator.ensures.into_iter_gives.0
    (subst (λ xs. AllZip (IsMarked marks) (into_iter_items c.into_iter-start-iterator.result) xs) (append-nil clear) whole)
