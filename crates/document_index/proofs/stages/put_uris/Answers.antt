use Rattle.std.proofs.Common.{◌≡◌, ◌∙◌, ◌&&◌, sym, false, is_some, bytes_eq}
use Rattle.std.proofs.lemmas.Result.{on_ok_weaker}
use Rattle.serde_json.specs.View.{view}
use Rattle.schema_definitions.specs.Identifiers.{identifier}
use Rattle.schema_definitions.specs.Bearers.{is_root, dialect_by}
use Rattle.schema_dialects.specs.Dialects.{dialect_of, dialects_in}
use Rattle.document_index.specs.Seen.{standing_of}
use Rattle.document_index.proofs.StageLemmas.{both-put}
use Rattle.document_index.proofs.stages.put_uris.Goals as goal

pub returns : goal.returns
returns c =
    let s = c.args.standing.now in
    let place = s.place in
    let settled : is_some place.awaits ≡ false = sym c.is_some.ensures ∙ c.if-is_some.false in
    on_ok_weaker c.put_base.result
    (λ more q. both-put (is_some place.awaits) (is_root place.path && bytes_eq s.name.uri.value q) (is_some (identifier (dialect_of place.dialect) (view place.contents.now)) && bytes_eq place.base.value q)
    (dialect_by (standing_of s)) (dialects_in c.args.borne.now q) (dialects_in c.put_given_uri.new.borne q) (dialects_in c.put_base.new.borne q) settled (c.in_ok-put_given_uri.ensures q) (more q))
    c.put_base.ensures
