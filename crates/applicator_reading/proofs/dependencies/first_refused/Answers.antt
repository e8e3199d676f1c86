use Rattle.std.proofs.Common.{◌≡◌, ℕ, List, Option, IfNone, Ok, subst}
use Rattle.serde_json.proofs.Views.{Entry}
use Rattle.serde_json.specs.View.{view, members_view}
use Rattle.schema_definitions.specs.Rows.{Context, dependency_entry}
use Rattle.applicators.specs.Shapes.{dependency_at}
use Rattle.applicator_reading.specs.Dependencies.{IsWrong}
use Rattle.applicator_reading.specs.Reads.{site_in}
use Rattle.applicator_reading.specs.declared.reading.Reading.{Reading}
use Rattle.std.proofs.Common.{codes}
use Rattle.applicator_reading.proofs.DependencyLemmas.{Left, left_stop, left_step}
use Rattle.applicator_reading.proofs.dependencies.first_refused.Goals as goal

pub returns-in-Some-2-clause-wrong : goal.returns-in-Some-2-clause-wrong
returns-in-Some-2-clause-wrong c =
    let all = members_view c.args.entries.now.entries in
    let left = subst (λ (es : List Entry). Left all (members_view es)) c.in-Some.ensures.steps c.loop-name.invariant in
    let e = view c.in-Some.entry.now in
    let r = c.in-Some-2.refused in
    let told : (x : Context) → IsWrong x r (dependency_entry x (codes "dependencies") c.as_str.result.now e) = rw c.in-Some-2.is at c.in_ok-refused.ensures.wrong in
    left_stop all _ e (members_view c.next.new.self) r left (λ x. subst (λ (n : List ℕ). IsWrong x r (dependency_entry x (codes "dependencies") n e)) c.as_str.ensures.value (told x))

pub loop-name-preserved : goal.loop-name-preserved
loop-name-preserved c =
    let all = members_view c.args.entries.now.entries in
    let left = subst (λ (es : List Entry). Left all (members_view es)) c.in-Some.ensures.steps c.loop-name.invariant in
    let e = view c.in-Some.entry.now in
    let right : (x : Context) → dependency_entry x (codes "dependencies") c.as_str.result.now e ≡ Ok (c.as_str.result.now, dependency_at (site_in x) (codes "dependencies") c.as_str.result.now e) =
    subst (λ (o : Option Reading). IfNone o ((x : Context) → dependency_entry x (codes "dependencies") c.as_str.result.now e ≡ Ok (c.as_str.result.now, dependency_at (site_in x) (codes "dependencies") c.as_str.result.now e))) c.in_default.is c.in_ok-refused.ensures.right in
    left_step all _ e (members_view c.next.new.self) left (λ x. subst (λ (n : List ℕ). dependency_entry x (codes "dependencies") n e ≡ Ok (n, dependency_at (site_in x) (codes "dependencies") n e)) c.as_str.ensures.value (right x))

pub returns-in-Some-2-clause-answers : goal.returns-in-Some-2-clause-answers
returns-in-Some-2-clause-answers c = rw c.in-Some-2.is at c.in_ok-refused.ensures.answers
