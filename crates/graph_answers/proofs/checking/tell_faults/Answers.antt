use Rattle.std.proofs.Common.{◌∙◌, ℕ, List, Bool, Option, sym, ap, subst}
use Rattle.std.proofs.lemmas.Result.{on_ok_weaker}
use Rattle.serde_json.specs.Data.{Data}
use Rattle.serde_json.specs.View.{view}
use Rattle.schema_meaning.specs.Keywords.{Shape}
use Rattle.schema_meaning.specs.Readings.{bags}
use Rattle.schema_reports.specs.declared.observer.Observer.{Observer}
use Rattle.schema_patterns.specs.declared.table.PatternTable.{PatternTable}
use Rattle.schema_engine.specs.declared.node.Node.{Node}
use Rattle.schema_engine.specs.Graphs.{IsSound, AreKnown}
use Rattle.schema_engine.specs.Led.{BeginAt}
use Rattle.schema_engine.specs.Matches.{Matches, completed, none_matched}
use Rattle.schema_engine.specs.Hearing.{HearsMore}
use Rattle.engine_faults.specs.Told.{TellsCut}
use Rattle.graph_answers.specs.Answers.{HearsAnswer}
use Rattle.graph_answers.specs.Tables.{table_reads}
use Rattle.graph_answers.proofs.TableReads.{reads_in_each}
use Rattle.graph_answers.proofs.Joined.{answered, agrees, are_faults, have_certificates}
use Rattle.graph_answers.proofs.checking.tell_faults.Goals as goal

hears : {K M : Type 0} (shape : K → Shape ℕ) (finds : M → List ℕ → Option Bool) (nodes : List (Node K)) (table : PatternTable M) (start : ℕ) (d : Data) → IsSound shape nodes
    → (old new : Observer) → TellsCut shape (table_reads finds table) nodes start d old new → HearsAnswer shape finds nodes table start d old new
hears shape finds nodes table start d sound old new told = answered shape finds nodes table start d sound bags (λ fs. HearsMore fs old new) told.hears

pub tell-requires : goal.tell-requires
tell-requires g c = record {
  known = subst (λ (m : Matches). AreKnown g.K.Validate.knows m.pattern c.args.graph.now.nodes.items) (sym c.requires.meant) c.requires.known;
  there = c.requires.there;
  begin = subst (λ (m : Matches). BeginAt g.K.Validate.shape m c.args.graph.now.nodes.items c.args.start (view c.args.value.now)) (sym c.requires.meant) tt;
}

pub returns-clause-cut : goal.returns-clause-cut
returns-clause-cut g c =
    let reads = ap (λ m. completed m none_matched) c.requires.meant ∙ reads_in_each g.M.PatternMatcher.finds c.args.table.now none_matched in
    on_ok_weaker c.tell.result
    (λ told. hears g.K.Validate.shape g.M.PatternMatcher.finds c.args.graph.now.nodes.items c.args.table.now c.args.start (view c.args.value.now) c.args.graph.now.sound _ _
    (subst (λ a. TellsCut g.K.Validate.shape a c.args.graph.now.nodes.items c.args.start (view c.args.value.now) c.args.observer.now c.tell.new.observer) reads (told none_matched)))
    c.tell.ensures.cut

pub returns-clause-agree : goal.returns-clause-agree
returns-clause-agree g c = agrees g.K.Validate.shape g.M.PatternMatcher.finds c.args.graph.now.nodes.items c.args.table.now c.args.start (view c.args.value.now) c.args.graph.now.sound

pub returns-clause-faults : goal.returns-clause-faults
returns-clause-faults g c = are_faults g.K.Validate.shape g.M.PatternMatcher.finds c.args.graph.now.nodes.items c.args.table.now c.args.start (view c.args.value.now) c.args.graph.now.sound

pub returns-clause-certified : goal.returns-clause-certified
returns-clause-certified g c = have_certificates g.K.Validate.shape g.M.PatternMatcher.finds c.args.graph.now.nodes.items c.args.table.now c.args.start (view c.args.value.now) c.args.graph.now.sound
