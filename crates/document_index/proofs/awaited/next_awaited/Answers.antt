use Rattle.std.proofs.Common.{◌≡◌, ◌∙◌, ◌++◌, ◌∷◌, [], ◌+◌, map, take, option_map, if◌then◌else◌, ap, sym}
use Rattle.std.proofs.lemmas.List.{take_more, map-append}
use Rattle.document_index.specs.Awaited.{awaited_among}
use Rattle.document_index.specs.Seen.{standing_of}
use Rattle.document_index.proofs.AwaitedLemmas.{lent, awaited-push}
use Rattle.document_index.proofs.awaited.next_awaited.Goals.{then-branch, else-branch}
use Rattle.document_index.proofs.awaited.next_awaited.Goals as goal

pub loop-standing-preserved : goal.loop-standing-preserved
loop-standing-preserved c =
    let i = c.loop-standing.standing-index in
    let xs = c.args.standings.now in
    let s = c.standing-item.result in
    let ss = map standing_of (take i xs) in
    let b = c.in_ok-would_be.field-0 in
    let more : map standing_of (take (i + 1) xs) ≡ ss ++ standing_of s ∷ [] =
    ap (map standing_of) (take_more xs i s c.loop-standing-test.true ∙ ap (λ x. take i xs ++ x ∷ []) (sym c.standing-item.is)) ∙ map-append standing_of (take i xs) (s ∷ []) in
    let one : (if b then s.place.awaits else awaited_among ss c.args.uri.now) ≡ awaited_among (map standing_of (take (i + 1) xs)) c.args.uri.now =
    awaited-push ss (standing_of s) c.args.uri.now b c.in_ok-would_be.ensures ∙ sym (ap (λ l. awaited_among l c.args.uri.now) more) in
    elim c.if-branch.branch [
      | then-branch w ↦ ap (option_map (λ u. u.now)) w.next-is ∙ lent w.as_ref-next.result s.place.awaits w.as_ref-next.ensures.value ∙ sym (ap (λ x. if x then s.place.awaits else awaited_among ss c.args.uri.now) w.if-branch.true) ∙ one
      | else-branch w ↦ ap (option_map (λ u. u.now)) w.next-is ∙ c.loop-standing.invariant ∙ sym (ap (λ x. if x then s.place.awaits else awaited_among ss c.args.uri.now) w.if-branch.false) ∙ one
    ]
