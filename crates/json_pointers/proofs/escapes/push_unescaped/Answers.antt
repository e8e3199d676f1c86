use Rattle.std.proofs.Common.{◌++◌, Some, None, ap, sym, ◌∙◌, lit<, rules, string_bytes, append_assoc}
use Rattle.std.proofs.lemmas.Str.Pattern.{split_parts}
use Rattle.serde_json.specs.Find.{unescape}
use Rattle.serde_json.proofs.Paths.{unescape_plain}
use Rattle.json_pointers.proofs.EscapeLemmas.{unescape_cut, onto_last}
use Rattle.json_pointers.proofs.GrowLemmas.{appended}
use Rattle.json_pointers.proofs.escapes.push_unescaped.Goals as goal

pub loop-plain-preserved : goal.loop-plain-preserved
loop-plain-preserved c =
    let cut = split_parts 126 c.loop-plain.rest.now (Some (c.in-Some.plain, c.in-Some.after)) c.in-Some.ensures.cases (lit< tt) in
    let bytes = c.in_ok-push_str-2.ensures.bytes ∙ ap (λ b. b ++ c.escaped_character.result.0.now) c.in_ok-push_str.ensures.bytes in
    record {
      text = search rules;
      left = ap (λ b. b ++ unescape c.escaped_character.result.1.now) bytes
          ∙ append_assoc (string_bytes c.loop-plain.buffer ++ c.in-Some.plain.now) c.escaped_character.result.0.now (unescape c.escaped_character.result.1.now)
          ∙ ap (λ t. (string_bytes c.loop-plain.buffer ++ c.in-Some.plain.now) ++ t) (sym c.escaped_character.ensures.value)
          ∙ unescape_cut (string_bytes c.loop-plain.buffer) c.loop-plain.rest.now c.in-Some.plain.now c.in-Some.after.now cut
          ∙ c.loop-plain.invariant.left;
    }

pub returns : goal.returns
returns c =
    let lacks = split_parts 126 c.loop-plain.rest.now None c.in_default.ensures.cases (lit< tt) in
    let all = onto_last (string_bytes c.loop-plain.buffer) c.loop-plain.rest.now (unescape c.loop-plain.rest.now) (unescape_plain c.loop-plain.rest.now lacks) in
    appended c.push_str-2.result (string_bytes c.push_str-2.new.self) (string_bytes c.loop-plain.buffer) c.loop-plain.rest.now _ c.push_str-2.ensures.bytes (all ∙ c.loop-plain.invariant.left)
