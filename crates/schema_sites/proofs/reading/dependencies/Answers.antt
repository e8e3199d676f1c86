use Rattle.std.proofs.Common.{codes}
use Rattle.serde_json.specs.View.{view}
use Rattle.schema_definitions.specs.Rows.{readers, read_among}
use Rattle.schema_sites.proofs.ResultLemmas.{if-ok, if-err}
use Rattle.schema_sites.proofs.reading.dependencies.Goals as goal

pub returns-clause-read : goal.returns-clause-read
returns-clause-read c =
    let k = codes "dependencies" in
    if-ok _ _ c.applying.result (λ w h x. h x k (read_among readers x k (view c.args.value.now)) (c.in_ok-reading.ensures.read x)) c.applying.ensures.read

pub returns-clause-refused : goal.returns-clause-refused
returns-clause-refused c =
    let k = codes "dependencies" in
    let d = view c.args.value.now in
    if-err _ _ c.applying.result (λ e h x. h x k d (read_among readers x k d) (c.in_ok-reading.ensures.read x)) c.applying.ensures.refused
