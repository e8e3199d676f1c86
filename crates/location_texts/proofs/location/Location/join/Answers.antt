use Rattle.std.proofs.Common.{◌≡◌, ◌++◌, ◌∷◌, [], string_bytes, sym, ap, ◌∙◌, append_assoc, rules}
use Rattle.json_values.specs.Pointers.{part_text}
use Rattle.json_pointers.specs.Lent.{part_of}
use Rattle.json_pointers.proofs.NodeLemmas.{pointer_text-push}
use Rattle.location_texts.proofs.location.Location.join.Goals as goal

pub returns : goal.returns
unfolding lib.Utf8.encode
returns g c =
    let step = c.into-step.result in
    let part = part_text (part_of step) in
    let same : string_bytes c.in_ok-text.text ≡ c.args.self.now = search rules in
    let slash = c.in_ok-push.ensures.bytes ∙ ap (λ b. b ++ 47 ∷ []) same in
    let behind = c.in_ok-write_to.ensures.ok ∙ ap (λ b. b ++ part) slash ∙ append_assoc c.args.self.now (47 ∷ []) part in
    record {
      step = step;
      given = c.into-step.ensures;
      behind = behind;
      spells = λ path e. behind ∙ ap (λ l. l ++ 47 ∷ part) e ∙ sym (pointer_text-push path (part_of step));
    }
