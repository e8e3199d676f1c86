use borrow.Author.Tests.{eqb-true, eq-eqb}
use Rattle.std.proofs.Common.{rules, ◌≡◌, option_map, string_bytes, ℕ, ◌+◌, length, Bool, true, false, List, [], ◌∷◌, ◌++◌, drop, get_or, sym, ap, ◌∙◌, subst, arith, true≢false, string_len, ◌==◌}
use Rattle.std.proofs.lemmas.List.{drop_more, drop_all}
use Rattle.json_values.specs.Patterns.{word, if_any}
use Rattle.value_checks.proofs.Unescaping.{Left, stands, left_whole, left_pushed, left_escaped, left_refused, left_open, left_done, stands_behind, stands_bare, stands_ascii, no_backslash, none_of, some_of}
use Rattle.value_checks.proofs.patterns.unescape_word.Goals as goal
use Rattle.value_checks.proofs.patterns.unescape_word.Goals.{then-is_escape, else-is_escape, else-not-is_escape-via-then-not-is_escape+else-byte-eq92, else-not-is_escape-via-else-not-is_escape, then-stands+in_ok-push, else-stands+then-not-is_escape+then-byte-eq92, then-is_escape-2, else-is_escape-2, then-is_empty, else-is_empty}

pub loop-byte-init : goal.loop-byte-init
loop-byte-init c =
    let P : List ℕ → Type 0 = λ xs. Left c.args.text.now xs false c.as_bytes-byte-items.result.now in
    let Q : List ℕ → Type 0 = λ xs. Left c.args.text.now [] false xs in
    subst P (sym c.new-unescaped.ensures.bytes) (subst Q (sym c.as_bytes-byte-items.ensures.value) (left_whole c.args.text.now))

pub returns-else-not-is_escape : goal.returns-else-not-is_escape
returns-else-not-is_escape c =
    let l = c.loop-byte in
    let xs = c.as_bytes-byte-items.result.now in
    let x : ℕ = get_or xs l.byte-index 0 in
    let next : drop l.byte-index xs ≡ x ∷ drop (l.byte-index + 1) xs = drop_more xs l.byte-index 0 (omega arith) in
    let stood : c.if-is_escape.stands ≡ stands l.is_escape x =
    elim c.if-is_escape.branch [
      | then-is_escape w ↦ stands_behind l.is_escape c.if-is_escape.stands x w.if-is_escape.true (w.stands-is ∙ w.is_escapable-stands.ensures)
      | else-is_escape w ↦ stands_bare l.is_escape c.if-is_escape.stands x w.if-is_escape.false (w.stands-is ∙ w.is_plain-stands.ensures)
    ] in
    sym (left_refused c.args.text.now (string_bytes l.unescaped) (drop l.byte-index xs) (drop (l.byte-index + 1) xs) l.is_escape x l.invariant next
    (sym stood ∙ c.if-stands.false)
    (elim c.else-not-is_escape.branch [
      | else-not-is_escape-via-then-not-is_escape+else-byte-eq92 w ↦ (λ _. no_backslash x w.if-byte-eq92.false)
      | else-not-is_escape-via-else-not-is_escape w ↦ (λ no. absurd (true≢false (sym w.if-not-is_escape.false ∙ no)))
    ]))

pub loop-byte-preserved : goal.loop-byte-preserved
loop-byte-preserved c =
    let l = c.loop-byte in
    let xs = c.as_bytes-byte-items.result.now in
    let x : ℕ = get_or xs l.byte-index 0 in
    let next : drop l.byte-index xs ≡ x ∷ drop (l.byte-index + 1) xs = drop_more xs l.byte-index 0 (omega arith) in
    let stood : c.if-is_escape.stands ≡ stands l.is_escape x =
    elim c.if-is_escape.branch [
      | then-is_escape w ↦ stands_behind l.is_escape c.if-is_escape.stands x w.if-is_escape.true (w.stands-is ∙ w.is_escapable-stands.ensures)
      | else-is_escape w ↦ stands_bare l.is_escape c.if-is_escape.stands x w.if-is_escape.false (w.stands-is ∙ w.is_plain-stands.ensures)
    ] in
    elim c.if-stands.branch [
      | then-stands+in_ok-push w ↦
          (let lit : stands l.is_escape x ≡ true = sym stood ∙ w.if-stands.true in
          let text : string_bytes c.if-stands.unescaped ≡ string_bytes l.unescaped ++ x ∷ [] =
          ap string_bytes w.unescaped-is ∙ w.in_ok-push.ensures.bytes ∙ ap (λ t. string_bytes l.unescaped ++ t) (w.in_ok-push.ensures.ascii (stands_ascii l.is_escape x lit)) in
          let P : List ℕ → Type 0 = λ done. Left c.args.text.now done c.if-stands.is_escape (drop (l.byte-index + 1) xs) in
          let Q : Bool → Type 0 = λ e. Left c.args.text.now (string_bytes l.unescaped ++ x ∷ []) e (drop (l.byte-index + 1) xs) in
          subst P (sym text) (subst Q (sym w.is_escape-is)
          (left_pushed c.args.text.now (string_bytes l.unescaped) (drop l.byte-index xs) (drop (l.byte-index + 1) xs) l.is_escape x l.invariant next lit)))
      | else-stands+then-not-is_escape+then-byte-eq92 w ↦
          (let P : List ℕ → Type 0 = λ done. Left c.args.text.now done c.if-stands.is_escape (drop (l.byte-index + 1) xs) in
          let Q : Bool → Type 0 = λ e. Left c.args.text.now (string_bytes l.unescaped) e (drop (l.byte-index + 1) xs) in
          subst P (sym (ap string_bytes w.unescaped-is)) (subst Q (sym w.is_escape-is)
          (left_escaped c.args.text.now (string_bytes l.unescaped) (drop l.byte-index xs) (drop (l.byte-index + 1) xs) l.is_escape x l.invariant next w.if-not-is_escape.true w.if-byte-eq92.true)))
    ]

pub returns : goal.returns
returns c =
    let l = c.loop-byte in
    let xs = c.as_bytes-byte-items.result.now in
    let none : drop l.byte-index xs ≡ [] = drop_all l.byte-index xs (omega arith) in
    let whole = c.args.text.now in
    let done = string_bytes l.unescaped in
    let lengths : length done ≡ string_len l.unescaped = search rules in
    let ended : l.is_escape ≡ false → word whole ≡ if_any done = left_done whole done (drop l.byte-index xs) l.is_escape l.invariant none in
    elim c.if-is_empty.branch [
      | then-is_empty w ↦ ap (option_map string_bytes) w.result-is ∙ sym
          (elim c.if-is_escape-2.branch [
            | then-is_escape-2 v ↦ left_open whole done (drop l.byte-index xs) l.is_escape l.invariant none v.if-is_escape-2.true
            | else-is_escape-2 v ↦
                (let zero : string_len l.unescaped ≡ 0 = eqb-true (string_len l.unescaped) 0 (sym v.is_empty.ensures ∙ sym v.value-is ∙ w.if-is_empty.true) in
                ended v.if-is_escape-2.false ∙ none_of done (lengths ∙ zero))
          ])
      | else-is_empty w ↦ ap (option_map string_bytes) w.result-is ∙ sym
          (elim c.if-is_escape-2.branch [
            | then-is_escape-2 v ↦ absurd (true≢false (sym v.if-is_escape-2.true ∙ sym v.value-is ∙ w.if-is_empty.false))
            | else-is_escape-2 v ↦
                (let some : (string_len l.unescaped == 0) ≡ false = sym v.is_empty.ensures ∙ sym v.value-is ∙ w.if-is_empty.false in
                ended v.if-is_escape-2.false ∙ some_of done (λ zero. true≢false (sym (eq-eqb (string_len l.unescaped) 0 (sym lengths ∙ zero)) ∙ some)))
          ])
    ]
