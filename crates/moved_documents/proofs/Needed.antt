-- That nothing is borne twice inside by what that root tells does not keep the two documents apart.
use Rattle.std.proofs.Common.{◌≡◌, ◌∙◌, [], true, false, is_some, refl, sym, ap}
use Rattle.std.specs.Str.{is_utf8, chars}
use Rattle.std.specs.Fmt.{digits}
use Rattle.serde_json.proofs.OnLiterals.{serde_json_on_literals}
use Rattle.uri_grammar.specs.Parts.{split}
use Rattle.uri_grammar.specs.Grammar.{is_reference}
use Rattle.uri_references.specs.Resolution.{resolve}
use Rattle.uri_references.specs.NormalForm.{normal}
use Rattle.uri_references.specs.Dots.{remove_dots}
use Rattle.schema_drafts.specs.declared.draft.Draft.TheVariants.{Draft202012}
use Rattle.schema_definitions.specs.Identifiers.{resolved}
use Rattle.schema_definitions.specs.Places.{places}
use Rattle.schema_definitions.specs.Bearers.{standings, bears, dialects, meta, bearer, last_standing}
use Rattle.schema_definitions.specs.DocumentCauses.{document_causes}
use Rattle.moved_documents.specs.Forms.{root_alone, moved_alone, added, inside}
use Rattle.added_documents.specs.Added.{EachNamedBy, NamesDraft}
use Rattle.moved_documents.specs.Premises.{BornOnce, CanMove}
use Rattle.moved_documents.specs.Needed.{shifting, shifting_whole, shared, BothMayBear}
use Rattle.moved_documents.proofs.Computed.{leaf_fresh, leaf_normal}
use Rattle.moved_documents.proofs.Clashes.{born_once}

-- ---- of the pair

shifting_once : BornOnce (meta (inside shifting shifting_whole)) (inside shifting shifting_whole)
unfolding digits serde_json_on_literals lib.Utf8.encode is_utf8 chars split is_reference resolve normal remove_dots resolved places standings dialects
shifting_once = born_once (meta (inside shifting shifting_whole)) (inside shifting shifting_whole) refl

moved_borne : is_some (last_standing (bears shared) (meta (added shifting)) (moved_alone shifting)) ≡ true
unfolding digits serde_json_on_literals lib.Utf8.encode is_utf8 chars split is_reference resolve normal remove_dots resolved places standings dialects
moved_borne = refl

root_borne : is_some (bearer (root_alone shifting) shared) ≡ true
unfolding digits serde_json_on_literals lib.Utf8.encode is_utf8 chars split is_reference resolve normal remove_dots resolved places standings dialects
root_borne = refl

root_accepted : document_causes (root_alone shifting) ≡ []
unfolding digits serde_json_on_literals lib.Utf8.encode is_utf8 chars split is_reference resolve normal remove_dots resolved places standings dialects
root_accepted = refl

shifting_can : CanMove shifting Draft202012 shifting_whole
unfolding digits serde_json_on_literals lib.Utf8.encode is_utf8 chars split is_reference resolve normal remove_dots resolved
shifting_can = record {
  joined = refl;
  fresh = leaf_fresh;
  embeds = refl;
  root = refl;
  moved = refl;
  normal = leaf_normal;
  identified = refl;
  rises = refl;
  once = shifting_once;
}

root_drafts : EachNamedBy NamesDraft (root_alone shifting)
unfolding digits serde_json_on_literals lib.Utf8.encode is_utf8 chars
root_drafts = ((refl, (tt, (tt, ((tt, (tt, tt)), ((tt, ((tt, ((tt, ((tt, ((tt, ((tt, (tt, tt)), tt)), tt)), tt)), tt)), tt)), tt))))), tt)

pub both_may_bear : BothMayBear
both_may_bear = record {
  can = shifting_can;
  accepted = root_accepted;
  drafts = root_drafts;
  root_bears = root_borne;
  moved_bears = λ free. (let no : false ≡ true = sym (ap is_some free) ∙ moved_borne in absurd (cc));
}
