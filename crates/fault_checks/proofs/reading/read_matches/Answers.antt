use Rattle.std.proofs.Common.{Option, sym, subst}
use Rattle.std.proofs.lemmas.Result.{IfOk-weaker}
use Rattle.schema_patterns.specs.declared.table.PatternTable.{PatternTable}
use Rattle.schema_registries.specs.Roots.{root_on}
use Rattle.fault_checks.specs.Checked.{AreReached}
use Rattle.fault_checks.proofs.reading.read_matches.Goals as goal

pub returns : goal.returns
returns g c =
    let finds = g.P.Matcher.PatternMatcher.finds in
    let p = g.P.PatternMaker.patterns c.args.maker.now in
    let r = root_on c.args.registry.now c.args.root.now in
    let reached = subst (λ (o : Option (PatternTable _)). AreReached finds p r o) (sym c.as_ref.ensures.value) c.in_ok-patterns.ensures in
    IfOk-weaker c.matches_by.result _ _ (λ m h. h p r reached) c.matches_by.ensures
