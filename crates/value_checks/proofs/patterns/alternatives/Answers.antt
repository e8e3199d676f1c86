use Rattle.std.proofs.Common.{rules, ◌≡◌, ◌==◌, option_map, option_and_then, string_bytes, ℕ, ◌+◌, length, map, List, [], ◌∷◌, ◌++◌, drop, sym, ap, ◌∙◌, subst, arith, lit<, Some, vec_len}
use Rattle.std.proofs.lemmas.Iterator.Consumers.{YieldsList-turn, YieldsList-end}
use Rattle.std.proofs.lemmas.Iterator.Splits.{YieldsList-from_str_split}
use Rattle.std.proofs.lemmas.List.{drop_more, drop_all, length_push, length-map}
use Rattle.std.specs.List.{slice_split}
use Rattle.json_values.specs.Patterns.{word, words, if_several}
use Rattle.value_checks.proofs.Alternatives.{WordsLeft, words_pushed, words_refused, words_done, several, too_few, map_pushed}
use Rattle.value_checks.proofs.patterns.alternatives.Goals as goal
use Rattle.value_checks.proofs.patterns.alternatives.Goals.{then-len-lt2, else-len-lt2}

pub returns-in_default : goal.returns-in_default
returns-in_default c =
    let l = c.loop-part in
    let text = c.args.text.now in
    let parts = slice_split (λ b. b == 124) text in
    let n = length l.yielded in
    let t = YieldsList-turn (YieldsList-from_str_split 124 text (lit< tt) (cc) (cc) (cc)) l.yielded _ l.yielded_by _ _ c.in-Some.part c.in-Some.is c.next.ensures.steps in
    let p : List ℕ = c.in-Some.part.now in
    let next : drop n parts ≡ p ∷ drop (n + 1) parts = drop_more parts n p t.0 ∙ ap (λ x. x ∷ drop (n + 1) parts) (sym t.1) in
    sym (ap (option_and_then if_several) (words_refused parts (map string_bytes l.texts.items) (drop n parts) (drop (n + 1) parts) p l.invariant.left next
    (sym c.in_ok-word.ensures ∙ ap (option_map string_bytes) c.in_default.is)))

pub loop-part-preserved : goal.loop-part-preserved
loop-part-preserved c =
    let l = c.loop-part in
    let text = c.args.text.now in
    let parts = slice_split (λ b. b == 124) text in
    let n = length l.yielded in
    let t = YieldsList-turn (YieldsList-from_str_split 124 text (lit< tt) (cc) (cc) (cc)) l.yielded _ l.yielded_by _ _ c.in-Some.part c.in-Some.is c.next.ensures.steps in
    let p : List ℕ = c.in-Some.part.now in
    let next : drop n parts ≡ p ∷ drop (n + 1) parts = drop_more parts n p t.0 ∙ ap (λ x. x ∷ drop (n + 1) parts) (sym t.1) in
    let is : word p ≡ Some (string_bytes c.in-Some-2.word) = sym c.in_ok-word.ensures ∙ ap (option_map string_bytes) c.in-Some-2.is in
    let texts : map string_bytes c.push.new.self.items ≡ map string_bytes l.texts.items ++ string_bytes c.in-Some-2.word ∷ [] =
    ap (map string_bytes) c.in_ok-push.ensures.items ∙ map_pushed string_bytes l.texts.items c.in-Some-2.word in
    let P : List (List ℕ) → Type 0 = λ done. WordsLeft parts done (drop (length (l.yielded ++ c.in-Some.part ∷ [])) parts) in
    let Q : ℕ → Type 0 = λ k. WordsLeft parts (map string_bytes l.texts.items ++ string_bytes c.in-Some-2.word ∷ []) (drop k parts) in
    record {
      can = tt;
      ends = search rules;
      left = subst P (sym texts) (subst Q (sym (length_push l.yielded c.in-Some.part))
          (words_pushed parts (map string_bytes l.texts.items) (drop n parts) (drop (n + 1) parts) p (string_bytes c.in-Some-2.word) l.invariant.left next is));
    }

pub returns : goal.returns
returns c =
    let l = c.loop-part in
    let text = c.args.text.now in
    let parts = slice_split (λ b. b == 124) text in
    let t = YieldsList-end (YieldsList-from_str_split 124 text (lit< tt) (cc) (cc) (cc)) l.yielded _ l.yielded_by _ _ c.in-None.is c.next.ensures.steps in
    let none : drop (length l.yielded) parts ≡ [] = drop_all (length l.yielded) parts (omega (arith, t.1)) in
    let whole : words parts ≡ Some (map string_bytes l.texts.items) = words_done parts (map string_bytes l.texts.items) (drop (length l.yielded) parts) l.invariant.left none in
    let items : length l.texts.items ≡ vec_len l.texts = search rules in
    let lengths : length (map string_bytes l.texts.items) ≡ vec_len l.texts = length-map l.texts.items string_bytes ∙ items in
    elim c.if-len-lt2.branch [
      | then-len-lt2 w ↦ ap (option_map (λ v. map string_bytes v.items)) w.result-is
          ∙ sym (ap (option_and_then if_several) whole ∙ too_few (map string_bytes l.texts.items) (omega (arith, lengths, w.if-len-lt2.true, c.len.ensures)))
      | else-len-lt2 w ↦ ap (option_map (λ v. map string_bytes v.items)) w.result-is
          ∙ sym (ap (option_and_then if_several) whole ∙ several (map string_bytes l.texts.items) (omega (arith, lengths, w.if-len-lt2.false, c.len.ensures)))
    ]
