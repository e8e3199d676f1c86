use Rattle.std.proofs.Common.{◌∙◌, ◌++◌, ◌∷◌, [], ap, sym, string_bytes}
use Rattle.json_pointers.proofs.GrowLemmas.{appended}
use Rattle.error_texts.proofs.PlainTexts.{quoted-plain}
use Rattle.error_texts.proofs.quoted.write_quoted.Goals as goal

pub returns-then-are_plain-clause-ok : goal.returns-then-are_plain-clause-ok
returns-then-are_plain-clause-ok c =
    let bytes = c.in_ok-push_str-2.ensures.bytes ∙ ap (λ b. b ++ c.args.string.now) c.in_ok-push_str.ensures.bytes in
    let whole = ap (λ b. b ++ 34 ∷ []) bytes ∙ quoted-plain (string_bytes c.args.text.now) c.args.string.now (sym c.are_plain.ensures ∙ c.if-are_plain.true) in
    appended c.push_str-then-are_plain-2.result _ _ (34 ∷ []) _ c.push_str-then-are_plain-2.ensures.bytes whole
