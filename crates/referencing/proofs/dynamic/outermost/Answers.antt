use Rattle.std.proofs.Common.{◌∙◌, sym, ap, ◌∷◌, map, Option, option_map}
use Rattle.schema_definitions.specs.Words.{result_map, ok_or}
use Rattle.schema_definitions.specs.Bearers.{Standing}
use Rattle.schema_definitions.specs.Lookup.{no_such_anchor, target_of}
use Rattle.schema_definitions.specs.Scopes.{outermost}
use Rattle.document_index.specs.Seen.{standing_of}
use Rattle.referencing.specs.Seen.{documents_of}
use Rattle.referencing.proofs.RefusedLemmas.{refused-one}
use Rattle.referencing.proofs.dynamic.outermost.Goals as goal

pub returns-in-None-clause-refused : goal.returns-in-None-clause-refused
returns-in-None-clause-refused c =
    let documents = documents_of c.args.registry.now in
    let k = c.args.name.now in
    let resources = c.args.innermost.now ∷ map (λ u. u.value) c.args.scope.now in
    refused-one (outermost documents k resources) (no_such_anchor k) c.no_such_anchor.result
    (ap (λ (o : Option Standing). result_map target_of (ok_or (no_such_anchor k) o)) (sym c.in_ok-standing.ensures ∙ ap (option_map standing_of) c.in-None.is)) c.no_such_anchor.ensures
