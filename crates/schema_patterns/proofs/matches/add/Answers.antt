use Rattle.std.proofs.Common.{ap, ◌∙◌, bytes_eq, Some}
use Rattle.std.specs.HashMap.{get_by_text}
use Rattle.std.specs.Map.{update}
use Rattle.std.proofs.lemmas.Map.Text.{hash_map_updates_text}
use Rattle.schema_patterns.proofs.matches.add.Goals as goal

pub returns : goal.returns
returns g c =
    record {
      matches = c.in_ok-found.found;
      told = c.in_ok-found.ensures;
      updated = λ p.
          hash_map_updates_text _ c.args.by_pattern.now c.insert.new.self _ c.in_ok-insert.ensures.updates p
          ∙ ap (λ k. update bytes_eq (get_by_text c.args.by_pattern.now) k (Some c.in_ok-found.found) p) c.in_ok-from_str.ensures.ok;
    }
