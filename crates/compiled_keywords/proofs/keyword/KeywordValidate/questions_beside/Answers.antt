use Rattle.std.proofs.Common.{drop, subst}
use Rattle.std.proofs.lemmas.Result.{on_ok_weaker}
use Rattle.schema_meaning.specs.Keywords.{rule}
use Rattle.schema_engine.specs.Places.{value_at}
use Rattle.compiled_keywords.specs.Applied.{name_of}
use Rattle.compiled_keywords.specs.Paired.{Pairs}
use Rattle.compiled_keywords.specs.Shapes.{shape_of, added_by}
use Rattle.compiled_keywords.proofs.NamedLemmas.{leaves_beside, only_applicators, puts_left}
use Rattle.compiled_keywords.proofs.SeenLemmas.{puts_calls, puts_asks}
use Rattle.compiled_keywords.proofs.keyword.KeywordValidate.questions_beside.Goals as goal

pub returns-in-Applicator-clause-pushed : goal.returns-in-Applicator-clause-pushed
returns-in-Applicator-clause-pushed c =
    let d = value_at c.args.place in
    let a = c.in-Applicator.applicator in
    let k = c.args.self.now in
    let old = c.args.into.now.items in
    let new = c.push_left.new.into.items in
    let pairs = subst (Pairs c.args._first.now) c.in-Applicator.is c.requires.pairs in
    on_ok_weaker c.push_left.result
    (λ puts m are. puts_calls (added_by k) old new (rule m d (shape_of k)) (puts_left m d k a old new c.in-Applicator.is
    (puts m (name_of a) (leaves_beside m d c.args._first.now a (drop c.args.start old) pairs are))))
    c.push_left.ensures

pub returns-in-Applicator-clause-asked : goal.returns-in-Applicator-clause-asked
returns-in-Applicator-clause-asked c =
    let d = value_at c.args.place in
    let a = c.in-Applicator.applicator in
    let k = c.args.self.now in
    let old = c.args.into.now.items in
    let new = c.push_left.new.into.items in
    let pairs = subst (Pairs c.args._first.now) c.in-Applicator.is c.requires.pairs in
    on_ok_weaker c.push_left.result
    (λ puts m are. puts_asks (added_by k) old new (rule m d (shape_of k)) (puts_left m d k a old new c.in-Applicator.is
    (puts m (name_of a) (leaves_beside m d c.args._first.now a (drop c.args.start old) pairs are))))
    c.push_left.ensures

pub returns-in_default-clause-pushed : goal.returns-in_default-clause-pushed
returns-in_default-clause-pushed c = absurd (only_applicators c.args._first.now c.args.self.now c.in_default.not-Applicator c.requires.pairs)

pub returns-in_default-clause-asked : goal.returns-in_default-clause-asked
returns-in_default-clause-asked c = absurd (only_applicators c.args._first.now c.args.self.now c.in_default.not-Applicator c.requires.pairs)
