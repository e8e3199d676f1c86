use Rattle.std.proofs.Common.{map, refl, is_some}
use Rattle.document_index.specs.Seen.{document_of}
use Rattle.document_index.proofs.StageLemmas.{not_some, under-all}
use Rattle.document_index.proofs.told.told_stage.Goals as goal

pub returns-then-is_none-clause-places : goal.returns-then-is_none-clause-places
returns-then-is_none-clause-places c =
    let s = c.in_ok-told.field-0 in
    let none = not_some s.told.anew (is_some s.told.anew) refl c.if-is_none.ensures in
    under-all (map document_of c.args.documents.now) s.told.meta_schemas s.places.items c.in_ok-told.ensures.told (c.in_ok-told.ensures.rests none)

pub returns-clause-places : goal.returns-clause-places
returns-clause-places c =
    let s = c.in_ok-told.field-0 in
    let found = c.in_ok-places in
    under-all (map document_of c.args.documents.now) s.told.meta_schemas found.places.items c.in_ok-told.ensures.told found.ensures.located
