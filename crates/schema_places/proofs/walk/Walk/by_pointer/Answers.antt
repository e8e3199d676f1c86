use Rattle.std.proofs.Common.{List, ℕ, sym, ap, ◌∙◌}
use Rattle.std.proofs.lemmas.Result.{IfOk-weaker, IfErr-weaker}
use Rattle.json_pointers.proofs.PointerLemmas.{parts_some, parts_none}
use Rattle.schema_definitions.specs.Lookup as spec
use Rattle.schema_dialects.specs.Dialects.{dialects_in}
use Rattle.schema_places.specs.Walks.{walk_of}
use Rattle.schema_places.proofs.WalkLemmas.{refuses_same}
use Rattle.schema_places.proofs.walk.Walk.by_pointer.Goals as goal

pub returns-in-Some-clause-reached : goal.returns-in-Some-clause-reached
returns-in-Some-clause-reached c =
    let on = λ (parts : List (List ℕ)). spec.walk (dialects_in c.args.known.now) c.args.written.now (spec.behind_first parts) (walk_of c.args.self) in
    let same = ap on (parts_some c.args.pointer.now c.in-Some.field-0-0 c.in-Some.tokens c.in-Some.ensures.cases) in
    IfOk-weaker c.along.result _ _ (λ w reached. same ∙ reached) c.along.ensures.reached

pub returns-in-Some-clause-refused : goal.returns-in-Some-clause-refused
returns-in-Some-clause-refused c =
    let on = λ (parts : List (List ℕ)). spec.walk (dialects_in c.args.known.now) c.args.written.now (spec.behind_first parts) (walk_of c.args.self) in
    let same = ap on (parts_some c.args.pointer.now c.in-Some.field-0-0 c.in-Some.tokens c.in-Some.ensures.cases) in
    IfErr-weaker c.along.result _ _ (λ e refused. refuses_same _ _ e (sym same) refused) c.along.ensures.refused

pub returns-in-None-clause-reached : goal.returns-in-None-clause-reached
returns-in-None-clause-reached c =
    let on = λ (parts : List (List ℕ)). spec.walk (dialects_in c.args.known.now) c.args.written.now (spec.behind_first parts) (walk_of c.args.self) in
    ap on (parts_none c.args.pointer.now c.in-None.ensures.cases)
