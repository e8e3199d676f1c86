use Rattle.std.proofs.Common.{◌∙◌, ap}
use Rattle.std.specs.BTreeMap.{get}
use Rattle.std.specs.Option.{option_map}
use Rattle.std.specs.Ordering.{nat_cmp}
use Rattle.std.specs.Cmp.Lexicographic.{slice_cmp}
use Rattle.serde_json.specs.View.{view}
use Rattle.uri_references.specs.Identity.{identity_of}
use Rattle.document_sources.proofs.Added.{answer_added}
use Rattle.document_sources.proofs.map.MapRetriever.add.Goals as goal

pub returns-in-Ok-clause-ok : goal.returns-in-Ok-clause-ok
returns-in-Ok-clause-ok c = λ q.
    ap (option_map (λ v. view v)) (c.in-Ok.ensures.updates.0 q)
    ∙ answer_added c.in_ok-uri.uri (identity_of c.args.uri.now) q c.args.document (get (slice_cmp nat_cmp) c.args.self.now.documents q) c.in_ok-uri.ensures.ok
