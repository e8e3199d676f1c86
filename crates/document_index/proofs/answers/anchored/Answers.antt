use Rattle.std.proofs.Common.{◌∙◌, map, None, Some}
use Rattle.std.specs.Cmp.{first_so}
use Rattle.std.proofs.lemmas.List.{length-map}
use Rattle.schema_definitions.specs.Identifiers.{anchors}
use Rattle.schema_definitions.specs.Bearers.{bears_anchor, last_standing}
use Rattle.document_index.specs.Seen.{document_of}
use Rattle.document_index.specs.Indexes.{bearer_of}
use Rattle.document_index.proofs.AnswerLemmas.{settled, answers, answer-within}
use Rattle.document_index.proofs.answers.anchored.Goals as goal

pub returns-in_err-bearer-clause-answer : goal.returns-in_err-bearer-clause-answer
returns-in_err-bearer-clause-answer c = λ meta indexed.
    let test = bears_anchor anchors c.args.base.now c.args.name.now in
    rw c.from_residual.ensures (answers meta test (map document_of c.args.documents.now) (λ s e. settled _ _ (first_so _ _ e)) None (c.in_err-bearer.ensures ∙ indexed.by_anchor c.args.base.now c.args.name.now))

pub returns-clause-answer : goal.returns-clause-answer
returns-clause-answer c = λ meta indexed.
    let test = bears_anchor anchors c.args.base.now c.args.name.now in
    answers meta test (map document_of c.args.documents.now) (λ s e. settled _ _ (first_so _ _ e)) (Some (bearer_of c.in_ok-bearer.bearer.now)) (c.in_ok-bearer.ensures ∙ indexed.by_anchor c.args.base.now c.args.name.now)

pub document_of_bearer-requires : goal.document_of_bearer-requires
document_of_bearer-requires c =
    let test = bears_anchor anchors c.args.base.now c.args.name.now in
    let documents = map document_of c.args.documents.now in
    let answer = answers c.requires.0 test documents (λ s e. settled _ _ (first_so _ _ e)) (Some (bearer_of c.in_ok-bearer.bearer.now)) (c.in_ok-bearer.ensures ∙ c.requires.1.by_anchor c.args.base.now c.args.name.now) in
    let below = answer-within c.requires.0 documents (bearer_of c.in_ok-bearer.bearer.now) (last_standing test c.requires.0 documents) answer in
    rw length-map at below
