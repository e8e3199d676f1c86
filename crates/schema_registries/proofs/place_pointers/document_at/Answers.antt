use Rattle.std.proofs.Common.{bytes_eq, rules, tests}
use Rattle.std.proofs.lemmas.Iterator.Adapters.{YieldsList-from_rev_slice}
use Rattle.std.proofs.lemmas.Iterator.Search.{find_from_yields_List}
use Rattle.document_index.specs.Seen.{document_of}
use Rattle.schema_registries.proofs.PlacesFound.{found_through}
use Rattle.schema_registries.proofs.place_pointers.document_at.Goals as goal

pub returns : goal.returns
returns c =
    found_through document_of (λ d. d.now) (λ d. bytes_eq d.uri c.args.uri.now) c.find.result c.args.documents.now
    (find_from_yields_List (λ d. bytes_eq (document_of d).uri c.args.uri.now) _ _ c.find.result c.find.ensures.ran (YieldsList-from_rev_slice c.args.documents.now cc) (λ x b q k. search (rules, tests)))
