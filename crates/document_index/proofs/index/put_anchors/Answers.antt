use Rattle.std.proofs.Common.{◌≡◌, ◌∙◌, ◌++◌, ap, sym, false, is_some, option_map, bytes_eq}
use Rattle.std.proofs.lemmas.Result.{on_ok_weaker}
use Rattle.serde_json.specs.View.{view}
use Rattle.schema_definitions.specs.Words.{listed}
use Rattle.schema_definitions.specs.Identifiers.{anchors, dynamic_anchors}
use Rattle.schema_dialects.specs.Dialects.{dialect_of}
use Rattle.document_index.specs.Located.{kept_of}
use Rattle.document_index.specs.Seen.{located_of}
use Rattle.document_index.specs.Indexes.{anchor_named}
use Rattle.document_index.proofs.NamedLemmas.{both-put}
use Rattle.document_index.proofs.index.put_anchors.Goals as goal

pub returns : goal.returns
returns c =
    let place = c.args.standing.now.place in
    let e = dialect_of place.dialect in
    let d = view place.contents.now in
    let first = listed (option_map (λ t. t.now) c.anchor-name.result) in
    let second = listed (option_map (λ t. t.now) c.dynamic_anchor-dynamic_name.result) in
    let settled : is_some place.awaits ≡ false = sym c.is_some.ensures ∙ c.if-is_some.false in
    let join : first ++ second ≡ anchors e d =
    ap (λ ts. first ++ ts) c.dynamic_anchor-dynamic_name.ensures ∙ ap (λ ts. ts ++ dynamic_anchors e d) c.anchor-name.ensures in
    on_ok_weaker c.put_anchor-2.result
    (λ more b q. both-put (is_some place.awaits) (bytes_eq place.base.value b) q first second (anchors e d) (kept_of (located_of c.args.standing.now))
    (anchor_named c.args.by_anchor.now b q) (anchor_named c.put_anchor.new.by_anchor b q) (anchor_named c.put_anchor-2.new.by_anchor b q) settled join (c.in_ok-put_anchor.ensures b q) (more b q))
    c.put_anchor-2.ensures
