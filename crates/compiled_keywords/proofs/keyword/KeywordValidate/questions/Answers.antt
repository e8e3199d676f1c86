use Rattle.std.proofs.lemmas.Result.{on_ok_weaker}
use Rattle.schema_meaning.specs.Keywords.{rule}
use Rattle.schema_engine.specs.Matches.{Answers, completed}
use Rattle.schema_engine.specs.Places.{value_at}
use Rattle.compiled_keywords.specs.Shapes.{shape_of, added_by}
use Rattle.compiled_keywords.proofs.SeenLemmas.{puts_calls, puts_asks}
use Rattle.compiled_keywords.proofs.keyword.KeywordValidate.questions.Goals as goal

pub returns-clause-pushed : goal.returns-clause-pushed
returns-clause-pushed g c =
    let r = λ (rest : Answers). rule (completed (g.T.Matching.matches c.args.matching.now) rest) (value_at c.args.place) (shape_of c.args.self.now) in
    on_ok_weaker c.push_questions.result (λ puts rest. puts_calls (added_by c.args.self.now) c.args.into.now.items c.push_questions.new.into.items (r rest) (puts rest)) c.push_questions.ensures.put

pub returns-clause-asked : goal.returns-clause-asked
returns-clause-asked g c =
    let r = λ (rest : Answers). rule (completed (g.T.Matching.matches c.args.matching.now) rest) (value_at c.args.place) (shape_of c.args.self.now) in
    on_ok_weaker c.push_questions.result (λ puts rest. puts_asks (added_by c.args.self.now) c.args.into.now.items c.push_questions.new.into.items (r rest) (puts rest)) c.push_questions.ensures.put
