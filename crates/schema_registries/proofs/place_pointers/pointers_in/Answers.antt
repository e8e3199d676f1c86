use Rattle.std.proofs.Common.{◌∙◌, map, string_bytes, sym, ap, subst}
use Rattle.std.specs.List.{IsDistinct}
use Rattle.std.specs.Prelude.{bytes_eq}
use Rattle.document_index.specs.Seen.{document_of}
use Rattle.referencing.specs.Seen.{documents_of}
use Rattle.schema_registries.specs.Pointers.{document_at}
use Rattle.schema_registries.proofs.PlacesFound.{found_rises}
use Rattle.schema_registries.proofs.place_pointers.pointers_in.Goals as goal

pub returns-in_default-clause-distinct : goal.returns-in_default-clause-distinct
unfolding IsDistinct
returns-in_default-clause-distinct c = subst (λ texts. IsDistinct bytes_eq (map string_bytes texts)) (sym c.new.ensures.items) tt

pub pointers_under-requires : goal.pointers_under-requires
pointers_under-requires c =
    let uri = c.args.document.now in
    found_rises (documents_of c.args.registry.now) uri (document_of c.in-Some.found.now) c.names_rise.ensures
    (sym (c.in-Some.ensures ∙ ap (λ ds. document_at ds uri) c.documents.ensures))
