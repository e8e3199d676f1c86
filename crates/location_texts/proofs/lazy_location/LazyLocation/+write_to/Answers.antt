use Rattle.std.proofs.Common.{◌++◌, ◌∷◌, [], reverse, decimal, string_bytes, ap, ◌∙◌}
use Rattle.json_values.specs.Pointers.{escape, part_text, pointer_text}
use Rattle.json_pointers.proofs.EscapeLemmas.{onto}
use Rattle.json_pointers.proofs.GrowLemmas.{completed}
use Rattle.location_texts.specs.Locations.{part_of, location_of}
use Rattle.location_texts.proofs.LocationLemmas.{text_step}
use Rattle.location_texts.proofs.lazy_location.LazyLocation.+write_to.Goals as goal

pub returns-in-Name : goal.returns-in-Name
unfolding lib.Utf8.encode
returns-in-Name t c =
    let above = pointer_text (reverse (location_of c.in-Some.above.now)) in
    let part = escape c.in-Name.name.now in
    let bytes = c.in_ok-push.ensures.bytes ∙ ap (λ b. b ++ 47 ∷ []) c.in_ok-write_to.ensures in
    let all = text_step c.args.self.now c.in-Some.above c.in-Some.is ∙ ap (λ p. above ++ 47 ∷ part_text (part_of p)) c.in-Name.is in
    completed c.write_escaped_str.result _ _ _ c.write_escaped_str.ensures.ok
    (ap (λ b. b ++ part) bytes ∙ onto (string_bytes c.args.text.now) above (47 ∷ []) part _ all)

pub returns-in-Index : goal.returns-in-Index
unfolding lib.Utf8.encode
returns-in-Index t c =
    let above = pointer_text (reverse (location_of c.in-Some.above.now)) in
    let part = decimal c.in-Index.position in
    let bytes = c.in_ok-push.ensures.bytes ∙ ap (λ b. b ++ 47 ∷ []) c.in_ok-write_to.ensures in
    let all = text_step c.args.self.now c.in-Some.above c.in-Some.is ∙ ap (λ p. above ++ 47 ∷ part_text (part_of p)) c.in-Index.is in
    completed c.write_index.result _ _ _ c.write_index.ensures.ok
    (ap (λ b. b ++ part) bytes ∙ onto (string_bytes c.args.text.now) above (47 ∷ []) part _ all)
