use Rattle.std.proofs.Common.{◌∙◌, ap, refl}
use Rattle.std.specs.Option.{option_map_or}
use Rattle.std.specs.BTreeMap.{get_by_text}
use Rattle.std.proofs.lemmas.Map.Text.{btree_map_updates_text}
use Rattle.program_inputs.specs.Held.{Missing, Holds}
use Rattle.program_inputs.proofs.Added.{held_after}
use Rattle.program_inputs.proofs.map.MapFiles.add.Goals as goal

pub returns-clause-ok : goal.returns-clause-ok
returns-clause-ok c other =
    let v = c.in_ok-bytes.bytes in
    ap (λ o. option_map_or (λ w. Holds w.items) o Missing)
    (btree_map_updates_text _ c.args.self.now.files c.insert.new.self _ c.in_ok-insert.ensures.updates other)
    ∙ held_after (λ w. w.items) (get_by_text c.args.self.now.files) _ other v
    ∙ rw (c.in_ok-name.ensures.ok, c.in_ok-bytes.ensures.items) refl
