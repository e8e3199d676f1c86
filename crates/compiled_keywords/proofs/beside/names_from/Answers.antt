use Rattle.std.proofs.Common.{◌≡◌, ◌||◌, ◌∷◌, ◌+◌, ◌∙◌, ◌≤◌, Bool, drop, length, sym, ap, is_eq, bytes_eq, arith}
use Rattle.std.proofs.lemmas.List.{drop_more, drop_all}
use Rattle.std.specs.List.{list_any}
use Rattle.schema_meaning.specs.Members.{is_listed}
use Rattle.compiled_keywords.specs.Named.{names_asked, is_kept, beside}
use Rattle.compiled_keywords.proofs.Collected.{moved_on}
use Rattle.compiled_keywords.proofs.NamedLemmas.{kept_with, told_kept, asked_member, asked_other, or_none}
use Rattle.compiled_keywords.proofs.beside.names_from.Goals as goal
use Rattle.compiled_keywords.proofs.beside.names_from.Goals.{in-Member+in_ok-insert, in_default}

pub loop-index-preserved : goal.loop-index-preserved
loop-index-preserved c name =
    let i = c.loop-index.index in
    let qs = c.args.questions.now in
    let q = c.index-questions-index.result in
    let rest : Bool = is_listed name (names_asked (drop (i + 1) qs)) in
    let here = drop_more qs i q (omega arith) ∙ ap (λ y. y ∷ drop (i + 1) qs) (sym c.index-questions-index.is) in
    let old : Bool = is_kept name c.loop-index.names in
    elim c.match-question.branch [
      | in-Member+in_ok-insert w ↦ (
          let k = w.in-Member.name in
          let more : is_kept name c.match-question.names ≡ (bytes_eq name k.now || old) =
          ap (is_kept name) w.names-is ∙ ap (λ ks. list_any (λ x. is_eq (beside name x)) ks) w.in_ok-insert.ensures.keys ∙ kept_with name c.loop-index.names.keys k ∙ ap (λ b. b || old) (told_kept name k) in
          ap (λ b. b || rest) more ∙ moved_on (bytes_eq name k.now) old rest
          ∙ ap (λ ns. old || is_listed name ns) (sym (asked_member (drop i qs) (drop (i + 1) qs) q k w.in-Member.member here w.in-Member.is)) ∙ c.loop-index.invariant name)
      | in_default w ↦ (
          ap (λ s. is_kept name s || rest) w.names-is
          ∙ ap (λ ns. old || is_listed name ns) (sym (asked_other (drop i qs) (drop (i + 1) qs) q here w.in_default.not-Member)) ∙ c.loop-index.invariant name)
    ]

pub returns : goal.returns
returns c name =
    let past : length c.args.questions.now ≤ c.loop-index.index = omega arith in
    sym (or_none (is_kept name c.loop-index.names)) ∙ ap (λ qs. is_kept name c.loop-index.names || is_listed name (names_asked qs)) (sym (drop_all c.loop-index.index c.args.questions.now past)) ∙ c.loop-index.invariant name
