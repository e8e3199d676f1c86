use Rattle.std.proofs.Common.{◌≡◌, ◌∷◌, ◌+◌, ◌∙◌, ◌++◌, [], List, ℕ, map, drop, string_bytes, sym, ap, append_assoc}
use Rattle.std.proofs.lemmas.List.{drop_more, map-append}
use Rattle.compiled_keywords.specs.Named.{names_asked}
use Rattle.compiled_keywords.proofs.NamedLemmas.{asked_member, asked_other}
use Rattle.compiled_keywords.proofs.reasons.names_of.Goals as goal
use Rattle.compiled_keywords.proofs.reasons.names_of.Goals.{in-Member+in_ok-from_str+in_ok-push, in_default}

pub loop-question-preserved : goal.loop-question-preserved
loop-question-preserved c =
    let i = c.loop-question.question-index in
    let qs = c.args.questions.now in
    let q = c.question-item.result in
    let rest = names_asked (drop (i + 1) qs) in
    let here = drop_more qs i q c.loop-question-test.true ∙ ap (λ y. y ∷ drop (i + 1) qs) (sym c.question-item.is) in
    let old : List (List ℕ) = map string_bytes c.loop-question.names.items in
    elim c.match-question.branch [
      | in-Member+in_ok-from_str+in_ok-push w ↦ (
          let k = w.in-Member.name in
          let s = w.in_ok-from_str.field-0 in
          let told : map string_bytes c.match-question.names.items ≡ old ++ k.now ∷ [] =
          ap (λ v. map string_bytes v.items) w.names-is ∙ ap (map string_bytes) w.in_ok-push.ensures.items ∙ map-append string_bytes c.loop-question.names.items (s ∷ [])
          ∙ ap (λ n. old ++ n ∷ []) w.in_ok-from_str.ensures.ok in
          c.loop-question.invariant ∙ ap (λ ns. old ++ ns) (asked_member (drop i qs) (drop (i + 1) qs) q k w.in-Member.member here w.in-Member.is)
          ∙ sym (append_assoc old (k.now ∷ []) rest) ∙ ap (λ ns. ns ++ rest) (sym told))
      | in_default w ↦ (
          c.loop-question.invariant ∙ ap (λ ns. old ++ ns) (asked_other (drop i qs) (drop (i + 1) qs) q here w.in_default.not-Member)
          ∙ ap (λ v. map string_bytes v.items ++ rest) (sym w.names-is))
    ]
