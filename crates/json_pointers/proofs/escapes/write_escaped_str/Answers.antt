use Rattle.std.proofs.Common.{◌++◌, drop, string_bytes, ap, ◌∙◌, arith}
use Rattle.std.proofs.Math.Seq.{drop-append_seam}
use Rattle.serde_json.specs.Find.{unescape}
use Rattle.json_values.specs.Pointers.{escape}
use Rattle.json_pointers.proofs.EscapeLemmas.{unescape-escape}
use Rattle.json_pointers.proofs.GrowLemmas.{cut_back}
use Rattle.json_pointers.proofs.escapes.write_escaped_str.Goals as goal

pub truncate-requires : goal.truncate-requires
truncate-requires c =
    λ _. cut_back c.args.buffer.now c.push_escaped.new.buffer c.len-start.result c.push_escaped.ensures.grows (omega (arith, c.args.buffer.now.bytes.ok.0))

pub returns-clause-undone : goal.returns-clause-undone
returns-clause-undone c =
    let whole = string_bytes c.args.buffer.now ++ escape c.args.text.now in
    ap unescape (ap (drop _) c.in_default.ensures.ok ∙ ap (λ n. drop n whole) c.args.buffer.now.bytes.ok.0 ∙ drop-append_seam (string_bytes c.args.buffer.now) (escape c.args.text.now))
    ∙ unescape-escape c.args.text.now
