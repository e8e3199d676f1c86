use Rattle.std.proofs.Common.{◌∙◌, ap}
use Rattle.schema_meaning.specs.Faults.{AnyOf}
use Rattle.schema_reports.specs.Told.{branches_in, context_is_proper}
use Rattle.schema_reports.proofs.KindLemmas.{kind-AnyOf, proper-AnyOf}
use Rattle.engine_faults.proofs.refusals.any_of.Goals as goal

pub returns : goal.returns
returns c = λ branches are.
    let context = c.new-context.result in
    let same = c.new-context.ensures in
    record {
      kind = kind-AnyOf context ∙ ap AnyOf (ap branches_in same ∙ are.told);
      proper = proper-AnyOf context ∙ ap context_is_proper same ∙ are.proper;
    }
