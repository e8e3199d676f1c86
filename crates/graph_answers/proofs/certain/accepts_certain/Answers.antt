use Rattle.std.proofs.Common.{[], true, false, true≢false, inl, inr, string_bytes, sym, subst}
use Rattle.serde_json.specs.View.{view}
use Rattle.graph_answers.specs.Certain.{IsAccepting}
use Rattle.graph_answers.specs.Completions.{matches_with, start_at}
use Rattle.graph_answers.specs.Runs.{IsRun, IsDecision}
use Rattle.graph_answers.proofs.CertainLemmas.{accepting_told, accepting_certified, has_open_of}
use Rattle.graph_answers.proofs.certain.accepts_certain.Goals as goal

answered : (g : _) (c : goal.In-Answered g) → IsAccepting g.K.Validate.shape c.args.graph.now.nodes.items c.args.start (view c.args.value.now) (matches_with g.M.PatternMatcher.finds c.args.table.now []) c.in-Answered.verdict
answered g c = record {
  either = inl (subst (IsRun g.K.Validate.shape c.args.graph.now.nodes.items c.args.start (view c.args.value.now) (matches_with g.M.PatternMatcher.finds c.args.table.now [])) c.in-Answered.is c.in_ok-verdict.ensures);
}

pub returns-in-Answered-clause-verdict : goal.returns-in-Answered-clause-verdict
returns-in-Answered-clause-verdict g c =
    accepting_told g.K.Validate.shape g.M.PatternMatcher.finds c.args.graph.now.nodes.items c.args.table.now c.args.start (view c.args.value.now) c.args.graph.now.sound _ (answered g c)

pub returns-in-Answered-clause-certified : goal.returns-in-Answered-clause-certified
returns-in-Answered-clause-certified g c =
    accepting_certified g.K.Validate.shape g.M.PatternMatcher.finds c.args.graph.now.nodes.items c.args.table.now c.args.start (view c.args.value.now) c.args.graph.now.sound _ (answered g c)

pub returns-in-Accepted-clause-each : goal.returns-in-Accepted-clause-each
returns-in-Accepted-clause-each g c =
    let finds = g.M.PatternMatcher.finds in
    let m = matches_with finds c.args.table.now [] in
    let begin = start_at g.K.Validate.shape c.args.graph.now.nodes.items c.args.start (view c.args.value.now) in
    let stop = subst (IsRun g.K.Validate.shape c.args.graph.now.nodes.items c.args.start (view c.args.value.now) m) c.in-Stopped.is c.in_ok-verdict.ensures in
    let accepts = subst (IsDecision g.K.Validate.shape c.args.graph.now.nodes.items c.args.start (view c.args.value.now) m) c.in-Accepted.is c.in_ok-assume_each-in-Stopped.ensures in
    record {
      either = inr (record {
        has_open = has_open_of finds c.args.table.now begin (string_bytes c.in-Stopped._stopped.pattern) (string_bytes c.in-Stopped._stopped.text) stop;
        accepts = λ e. accepts;
        refuses = λ e. absurd (true≢false e);
      });
    }

pub returns-in-Accepted-clause-verdict : goal.returns-in-Accepted-clause-verdict
returns-in-Accepted-clause-verdict g c =
    accepting_told g.K.Validate.shape g.M.PatternMatcher.finds c.args.graph.now.nodes.items c.args.table.now c.args.start (view c.args.value.now) c.args.graph.now.sound true
    (returns-in-Accepted-clause-each g c)

pub returns-in-Accepted-clause-certified : goal.returns-in-Accepted-clause-certified
returns-in-Accepted-clause-certified g c =
    accepting_certified g.K.Validate.shape g.M.PatternMatcher.finds c.args.graph.now.nodes.items c.args.table.now c.args.start (view c.args.value.now) c.args.graph.now.sound true
    (returns-in-Accepted-clause-each g c)

pub returns-in-Refused-clause-each : goal.returns-in-Refused-clause-each
returns-in-Refused-clause-each g c =
    let finds = g.M.PatternMatcher.finds in
    let m = matches_with finds c.args.table.now [] in
    let begin = start_at g.K.Validate.shape c.args.graph.now.nodes.items c.args.start (view c.args.value.now) in
    let stop = subst (IsRun g.K.Validate.shape c.args.graph.now.nodes.items c.args.start (view c.args.value.now) m) c.in-Stopped.is c.in_ok-verdict.ensures in
    let refuses = subst (IsDecision g.K.Validate.shape c.args.graph.now.nodes.items c.args.start (view c.args.value.now) m) c.in-Refused.is c.in_ok-assume_each-in-Stopped.ensures in
    record {
      either = inr (record {
        has_open = has_open_of finds c.args.table.now begin (string_bytes c.in-Stopped._stopped.pattern) (string_bytes c.in-Stopped._stopped.text) stop;
        accepts = λ e. absurd (true≢false (sym e));
        refuses = λ e. inl refuses;
      });
    }

pub returns-in-Refused-clause-verdict : goal.returns-in-Refused-clause-verdict
returns-in-Refused-clause-verdict g c =
    accepting_told g.K.Validate.shape g.M.PatternMatcher.finds c.args.graph.now.nodes.items c.args.table.now c.args.start (view c.args.value.now) c.args.graph.now.sound false
    (returns-in-Refused-clause-each g c)

pub returns-in-Refused-clause-certified : goal.returns-in-Refused-clause-certified
returns-in-Refused-clause-certified g c =
    accepting_certified g.K.Validate.shape g.M.PatternMatcher.finds c.args.graph.now.nodes.items c.args.table.now c.args.start (view c.args.value.now) c.args.graph.now.sound false
    (returns-in-Refused-clause-each g c)

pub returns-clause-each : goal.returns-clause-each
returns-clause-each g c =
    let finds = g.M.PatternMatcher.finds in
    let m = matches_with finds c.args.table.now [] in
    let begin = start_at g.K.Validate.shape c.args.graph.now.nodes.items c.args.start (view c.args.value.now) in
    let stop = subst (IsRun g.K.Validate.shape c.args.graph.now.nodes.items c.args.start (view c.args.value.now) m) c.in-Stopped.is c.in_ok-verdict.ensures in
    let six = subst (IsDecision g.K.Validate.shape c.args.graph.now.nodes.items c.args.start (view c.args.value.now) m) c.in-Undecided.is c.in_ok-assume_each-in-Stopped.ensures in
    record {
      either = inr (record {
        has_open = has_open_of finds c.args.table.now begin (string_bytes c.in-Stopped._stopped.pattern) (string_bytes c.in-Stopped._stopped.text) stop;
        accepts = λ e. absurd (true≢false (sym e));
        refuses = λ e. inr six;
      });
    }

pub returns-clause-verdict : goal.returns-clause-verdict
returns-clause-verdict g c =
    accepting_told g.K.Validate.shape g.M.PatternMatcher.finds c.args.graph.now.nodes.items c.args.table.now c.args.start (view c.args.value.now) c.args.graph.now.sound false
    (returns-clause-each g c)

pub returns-clause-certified : goal.returns-clause-certified
returns-clause-certified g c =
    accepting_certified g.K.Validate.shape g.M.PatternMatcher.finds c.args.graph.now.nodes.items c.args.table.now c.args.start (view c.args.value.now) c.args.graph.now.sound false
    (returns-clause-each g c)
