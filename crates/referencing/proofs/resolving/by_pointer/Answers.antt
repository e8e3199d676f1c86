use Rattle.std.proofs.Common.{◌∙◌, sym, subst}
use Rattle.percent_encoding.specs.Percent.{percent_decode}
use Rattle.schema_definitions.specs.Lookup.{by_pointer}
use Rattle.schema_dialects.specs.Dialects.{dialects_in}
use Rattle.document_index.specs.Seen.{standing_of}
use Rattle.schema_places.specs.Causes.{cause_of}
use Rattle.document_sources.specs.Causes.{RefusesLookup}
use Rattle.referencing.specs.Seen.{told_by}
use Rattle.referencing.proofs.RefusedLemmas.{walked}
use Rattle.referencing.proofs.ToldLemmas.{same_pointer}
use Rattle.referencing.proofs.resolving.by_pointer.Goals as goal

pub returns-in-Ok-clause-ok : goal.returns-in-Ok-clause-ok
returns-in-Ok-clause-ok c =
    let registry = c.args.registry.now in
    let s = standing_of c.args.standing in
    let fragment = c.args.fragment.now in
    sym (same_pointer (dialects_in registry.known) (told_by registry) registry.stands.told s fragment (percent_decode fragment)) ∙ c.in-Ok.ensures.reached s.document

pub returns-clause-refused : goal.returns-clause-refused
returns-clause-refused c =
    let registry = c.args.registry.now in
    let s = standing_of c.args.standing in
    let fragment = c.args.fragment.now in
    let known = dialects_in registry.known in
    let same = same_pointer known (told_by registry) registry.stands.told s fragment (percent_decode fragment) in
    subst (λ answer. RefusesLookup answer c.walk_refused.result) same
    (walked (by_pointer known s fragment (percent_decode fragment)) (cause_of c.in-Err.error) c.walk_refused.result (c.in-Err.ensures.refused s.document) c.walk_refused.ensures)
