use Rattle.std.proofs.Common.{◌≡◌, ◌∙◌, ◌++◌, ◌∷◌, [], map, sym, ap, subst}
use Rattle.schema_definitions.specs.Bearers.{Document}
use Rattle.document_index.specs.Seen.{document_of}
use Rattle.document_sources.specs.Seen.{layer_of}
use Rattle.schema_definitions.specs.Rounds.{Want, wants, gathered, none_twice}
use Rattle.document_retrieval.specs.Known.{want_of}
use Rattle.document_retrieval.specs.Stages.{asking, uris_in}
use Rattle.document_retrieval.specs.Gathered.{IsFound}
use Rattle.document_retrieval.proofs.StageLemmas.{rounds-push, gathered-push, retrieved-push, gathered-alone, retrieved-alone}
use Rattle.document_retrieval.proofs.OnceLemmas.{asked-once}
use Rattle.document_retrieval.proofs.rounds.prepare_wanted.Goals as goal

pub loop-gathered-preserved : goal.loop-gathered-preserved
loop-gathered-preserved g c =
    let a = asking g.R.Retrieve.may_answer g.R.Retrieve.may_refuse c.args.retriever.now (layer_of c.args.layer) in
    let given = map document_of c.args.documents.items in
    let before = c.loop-gathered.invariant in
    let adds = c.in_ok-push_round-in-Wants.ensures.ok in
    let answers = adds.all.answers in
    let found = subst (IsFound (map document_of c.deref.result.now)) c.in-Wants.is c.in_ok-wants.ensures.ok in
    let wanted : map want_of c.deref-in-Wants.result.now ≡ wants (gathered given before.rounds) =
    ap (map want_of) c.deref-in-Wants.ensures.value ∙ found.0 ∙ ap wants (ap (map document_of) c.deref.ensures.value ∙ before.gathers) in
    record {
      rounds = before.rounds ++ answers ∷ [];
      are = rounds-push a given before.rounds answers before.are (record { asked = adds.all.asked ∙ ap (map (λ (w : Want). w.uri)) wanted; answered = adds.all.answered });
      gathers = adds.all.documents ∙ ap (λ l. l ++ answers) before.gathers ∙ sym (gathered-push given before.rounds answers);
      answers = adds.all.uris ∙ ap (λ l. uris_in c.loop-gathered.gathered ++ l) (sym adds.all.asked) ∙ ap (λ l. l ++ map (λ (d : Document). d.uri) answers) before.answers ∙ sym (retrieved-push before.rounds answers);
      within = adds.within before.within;
    }

pub returns-in-Nothing-clause-once : goal.returns-in-Nothing-clause-once
returns-in-Nothing-clause-once g c =
    let a = asking g.R.Retrieve.may_answer g.R.Retrieve.may_refuse c.args.retriever.now (layer_of c.args.layer) in
    let here = c.loop-gathered.invariant in
    ap none_twice here.answers ∙ (asked-once a (map document_of c.args.documents.items) here.rounds here.are).once

pub returns-in-Nothing-clause-alone : goal.returns-in-Nothing-clause-alone
returns-in-Nothing-clause-alone g c = λ nothing.
    let a = asking g.R.Retrieve.may_answer g.R.Retrieve.may_refuse c.args.retriever.now (layer_of c.args.layer) in
    let given = map document_of c.args.documents.items in
    let here = c.loop-gathered.invariant in
    (here.gathers ∙ gathered-alone a given here.rounds nothing here.are, here.answers ∙ retrieved-alone a given here.rounds nothing here.are)
