use Rattle.std.proofs.Common.{◌≡◌, Bool, true, false, ap, refl, sym, subst, ◌∙◌}
use Rattle.std.specs.Str.{is_utf8, IsUtf8}
use Rattle.std.proofs.lemmas.Option.{IfSome_then}
use Rattle.std.proofs.lemmas.Str.{IsUtf8-from_is_utf8, is_utf8-from_IsUtf8}
use Rattle.percent_encoding.specs.Percent.{percent_decode}
use Rattle.schema_places.specs.Causes.{cause_of}
use Rattle.schema_places.proofs.reached.decode.Goals as goal

never : (b : Bool) → (b ≡ true → ⊥) → b ≡ false
never true h = absurd (h refl)
never false h = refl

pub returns-in-Ok-clause-valid : goal.returns-in-Ok-clause-valid
returns-in-Ok-clause-valid c =
    ap is_utf8 (sym c.percent_decode_str.ensures.bytes) ∙ is_utf8-from_IsUtf8 _ c.in-Ok.ensures.ok_only_if_utf8

pub returns-in-Err-Utf8-clause-refused : goal.returns-in-Err-Utf8-clause-refused
returns-in-Err-Utf8-clause-refused c =
    let bytes = percent_decode c.args.fragment.now in
    let no_text = never (is_utf8 bytes) (λ valid. let only = c.in-Err-Utf8.ensures.utf8 (subst IsUtf8 (sym c.percent_decode_str.ensures.bytes) (IsUtf8-from_is_utf8 bytes valid)) in cc (only, c.in-Err-Utf8.field-0-is)) in
    IfSome_then (cause_of c.percent_encoding.result) c.percent_encoding.ensures (λ cause is. (is, no_text))
