use Rattle.std.proofs.Common.{◌≡◌, ◌∙◌, ℕ, List, [], Bool, Option, sym, ap, subst}
use Rattle.std.proofs.lemmas.Result.{IfOk-weaker}
use Rattle.serde_json.specs.Data.{Data}
use Rattle.serde_json.specs.View.{view}
use Rattle.schema_meaning.specs.Cut.{cut, AreAll}
use Rattle.schema_meaning.specs.Keywords.{Shape}
use Rattle.schema_meaning.specs.Places.{Key, whole}
use Rattle.schema_meaning.specs.Readings.{verdicts}
use Rattle.schema_engine.specs.Graphs.{reading_of, AreKnown}
use Rattle.schema_engine.specs.Led.{BeginAt}
use Rattle.schema_engine.specs.Matches.{Answers, Matches, completed, InEach, none_matched}
use Rattle.schema_engine.specs.declared.node.Node.{Node}
use Rattle.schema_patterns.specs.declared.table.PatternTable.{PatternTable}
use Rattle.graph_answers.specs.Tables.{table_reads, matches_of}
use Rattle.graph_answers.proofs.TableReads.{reads_in_each}
use Rattle.graph_answers.specs.Answers.{IsVerdict, IsCertified}
use Rattle.graph_answers.proofs.Joined.{answered, is_verdict, is_certified}
use Rattle.graph_answers.proofs.checking.is_valid.Goals as goal

-- what the engine says of an answer, by matches
abbrev TellsBy : {K : Type 0} → (K → Shape ℕ) → List (Node K) → ℕ → Data → Answers → Bool → Type 0
TellsBy shape nodes start d reads b = (all : List Key) → AreAll (reading_of shape reads nodes) start (whole d) all → b ≡ cut verdicts (reading_of shape reads nodes) all [] start (whole d)

-- by a table's matches, which are all known
by_table : {K M : Type 0} (shape : K → Shape ℕ) (finds : M → List ℕ → Option Bool) (nodes : List (Node K)) (table : PatternTable M) (start : ℕ) (d : Data) (m : Matches) → m ≡ matches_of finds table
    → (b : Bool) → InEach m (λ reads. TellsBy shape nodes start d reads b) → TellsBy shape nodes start d (table_reads finds table) b
by_table shape finds nodes table start d m meant b told =
    subst (λ reads. TellsBy shape nodes start d reads b) (ap (λ k. completed k none_matched) meant ∙ reads_in_each finds table none_matched) (told none_matched)

pub accepts-requires : goal.accepts-requires
accepts-requires g c = record {
  known = subst (λ (m : Matches). AreKnown g.K.Validate.knows m.pattern c.args.graph.now.nodes.items) (sym c.requires.meant) c.requires.known;
  there = c.requires.there;
  begin = subst (λ (m : Matches). BeginAt g.K.Validate.shape m c.args.graph.now.nodes.items c.args.start (view c.args.value.now)) (sym c.requires.meant) tt;
}

pub returns-clause-cut : goal.returns-clause-cut
returns-clause-cut g c =
    let told = IfOk-weaker c.accepts.result _ _ (by_table g.K.Validate.shape g.M.PatternMatcher.finds c.args.graph.now.nodes.items c.args.table.now c.args.start (view c.args.value.now) _ c.requires.meant) c.accepts.ensures.cut in
    IfOk-weaker c.accepts.result _ _
    (λ b told. answered g.K.Validate.shape g.M.PatternMatcher.finds c.args.graph.now.nodes.items c.args.table.now c.args.start (view c.args.value.now) c.args.graph.now.sound verdicts (λ answer. b ≡ answer) told) told

pub returns-clause-verdict : goal.returns-clause-verdict
returns-clause-verdict g c =
    let told = IfOk-weaker c.accepts.result _ _ (by_table g.K.Validate.shape g.M.PatternMatcher.finds c.args.graph.now.nodes.items c.args.table.now c.args.start (view c.args.value.now) _ c.requires.meant) c.accepts.ensures.cut in
    IfOk-weaker c.accepts.result _ _
    (λ b told. subst (IsVerdict g.K.Validate.shape g.M.PatternMatcher.finds c.args.graph.now.nodes.items c.args.table.now c.args.start (view c.args.value.now))
    (sym (answered g.K.Validate.shape g.M.PatternMatcher.finds c.args.graph.now.nodes.items c.args.table.now c.args.start (view c.args.value.now) c.args.graph.now.sound verdicts (λ answer. b ≡ answer) told))
    (is_verdict g.K.Validate.shape g.M.PatternMatcher.finds c.args.graph.now.nodes.items c.args.table.now c.args.start (view c.args.value.now) c.args.graph.now.sound)) told

pub returns-clause-certified : goal.returns-clause-certified
returns-clause-certified g c =
    let told = IfOk-weaker c.accepts.result _ _ (by_table g.K.Validate.shape g.M.PatternMatcher.finds c.args.graph.now.nodes.items c.args.table.now c.args.start (view c.args.value.now) _ c.requires.meant) c.accepts.ensures.cut in
    IfOk-weaker c.accepts.result _ _
    (λ b told. subst (IsCertified g.K.Validate.shape g.M.PatternMatcher.finds c.args.graph.now.nodes.items c.args.table.now c.args.start (view c.args.value.now))
    (sym (answered g.K.Validate.shape g.M.PatternMatcher.finds c.args.graph.now.nodes.items c.args.table.now c.args.start (view c.args.value.now) c.args.graph.now.sound verdicts (λ answer. b ≡ answer) told))
    (is_certified g.K.Validate.shape g.M.PatternMatcher.finds c.args.graph.now.nodes.items c.args.table.now c.args.start (view c.args.value.now) c.args.graph.now.sound)) told
