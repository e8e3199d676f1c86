use Rattle.std.proofs.Common.{◌∙◌, [], inl, inr, sym, ap, subst}
use Rattle.serde_json.specs.View.{view}
use Rattle.schema_meaning.specs.Faults.{Faults, none}
use Rattle.schema_meaning.specs.Readings.{bags}
use Rattle.schema_reports.specs.Stands.{is_one_of, first_stands}
use Rattle.schema_reports.specs.Told.{faults_of}
use Rattle.schema_reports.specs.declared.observer.Observation.TheVariants as kept
use Rattle.schema_reports.specs.declared.observer.Observer.TheVariants as observers
use Rattle.schema_engine.specs.Matches.{Answers, completed, none_matched}
use Rattle.graph_answers.specs.Answers.{answer_by}
use Rattle.graph_answers.specs.Certain.{faults_in, IsTelling}
use Rattle.graph_answers.specs.Completions.{matches_with}
use Rattle.graph_answers.specs.declared.telling.Telling.TheVariants as telling
use Rattle.graph_answers.proofs.CertainLemmas.{faults_by_table, certain_told, certain_certified}
use Rattle.graph_answers.proofs.Joined.{are_faults, have_certificates}
use Rattle.graph_answers.proofs.certain.first_certain.Goals as goal

pub unreachable-requires : goal.unreachable-requires
unreachable-requires g c =
    let told = subst (IsTelling g.K.Validate.shape c.args.graph.now.nodes.items c.args.start (view c.args.value.now) (matches_with g.M.PatternMatcher.finds c.args.table.now []) (observers.First c.new.result))
    (c.in-Told-Verdict.is ∙ ap telling.Told c.in-Told-Verdict.field-0-is) c.in_ok-kept.ensures in
    (told none_matched).heard kept.First none c.new.ensures

pub unreachable-requires-in-Told-All : goal.unreachable-requires-in-Told-All
unreachable-requires-in-Told-All g c =
    let told = subst (IsTelling g.K.Validate.shape c.args.graph.now.nodes.items c.args.start (view c.args.value.now) (matches_with g.M.PatternMatcher.finds c.args.table.now []) (observers.First c.new.result))
    (c.in-Told-All.is ∙ ap telling.Told c.in-Told-All.field-0-is) c.in_ok-kept.ensures in
    (told none_matched).heard kept.First none c.new.ensures

pub unreachable-requires-in-Told-Paths : goal.unreachable-requires-in-Told-Paths
unreachable-requires-in-Told-Paths g c =
    let told = subst (IsTelling g.K.Validate.shape c.args.graph.now.nodes.items c.args.start (view c.args.value.now) (matches_with g.M.PatternMatcher.finds c.args.table.now []) (observers.First c.new.result))
    (c.in-Told-Paths.is ∙ ap telling.Told c.in-Told-Paths.field-0-is) c.in_ok-kept.ensures in
    (told none_matched).heard kept.First none c.new.ensures

pub returns-in-Told-First-clause-each : goal.returns-in-Told-First-clause-each
returns-in-Told-First-clause-each g c =
    let told = subst (IsTelling g.K.Validate.shape c.args.graph.now.nodes.items c.args.start (view c.args.value.now) (matches_with g.M.PatternMatcher.finds c.args.table.now []) (observers.First c.new.result))
    (c.in-Told-First.is ∙ ap telling.Told c.in-Told-First.field-0-is) c.in_ok-kept.ensures in
    let fs : Answers → Faults = λ rest. faults_in g.K.Validate.shape c.args.graph.now.nodes.items c.args.start (view c.args.value.now) (completed (matches_with g.M.PatternMatcher.finds c.args.table.now []) rest) in
    record { either = inl (λ rest. c.into_error.ensures (fs rest) (subst (λ f. first_stands f (fs rest)) (sym c.in-Told-First.kept-is) ((told rest).heard kept.First none c.new.ensures))) }

pub returns-in-Told-First-clause-fault : goal.returns-in-Told-First-clause-fault
returns-in-Told-First-clause-fault g c =
    let shape = g.K.Validate.shape in
    let finds = g.M.PatternMatcher.finds in
    let nodes = c.args.graph.now.nodes.items in
    let d = view c.args.value.now in
    let told = subst (IsTelling shape nodes c.args.start d (matches_with finds c.args.table.now []) (observers.First c.new.result))
    (c.in-Told-First.is ∙ ap telling.Told c.in-Told-First.field-0-is) c.in_ok-kept.ensures in
    let fs = faults_in shape nodes c.args.start d (completed (matches_with finds c.args.table.now []) none_matched) in
    record {
      faults = answer_by shape finds nodes c.args.table.now c.args.start d bags;
      those = are_faults shape finds nodes c.args.table.now c.args.start d c.args.graph.now.sound;
      certified = have_certificates shape finds nodes c.args.table.now c.args.start d c.args.graph.now.sound;
      is = subst (is_one_of c.into_error.result) (faults_by_table shape finds nodes c.args.table.now c.args.start d) (c.into_error.ensures fs (subst (λ f. first_stands f fs) (sym c.in-Told-First.kept-is) ((told none_matched).heard kept.First none c.new.ensures)));
    }

pub returns-in_ok-tell_open-in-Stopped-clause-each : goal.returns-in_ok-tell_open-in-Stopped-clause-each
returns-in_ok-tell_open-in-Stopped-clause-each g c =
    record {
      either = inr (record {
        faults = faults_of c.in_ok-tell_open-in-Stopped.field-0.items;
        certain = c.in_ok-tell_open-in-Stopped.ensures.each;
        is = c.first_of.ensures c.in_ok-tell_open-in-Stopped.ensures.proper;
      });
    }

pub returns-in_ok-tell_open-in-Stopped-clause-fault : goal.returns-in_ok-tell_open-in-Stopped-clause-fault
returns-in_ok-tell_open-in-Stopped-clause-fault g c =
    let shape = g.K.Validate.shape in
    let finds = g.M.PatternMatcher.finds in
    let nodes = c.args.graph.now.nodes.items in
    let d = view c.args.value.now in
    let fs = faults_of c.in_ok-tell_open-in-Stopped.field-0.items in
    record {
      faults = fs;
      those = certain_told shape finds nodes c.args.table.now c.args.start d c.args.graph.now.sound fs c.in_ok-tell_open-in-Stopped.ensures.each;
      certified = certain_certified shape finds nodes c.args.table.now c.args.start d c.args.graph.now.sound fs c.in_ok-tell_open-in-Stopped.ensures.each;
      is = c.first_of.ensures c.in_ok-tell_open-in-Stopped.ensures.proper;
    }
