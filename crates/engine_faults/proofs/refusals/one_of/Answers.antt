use Rattle.std.proofs.Common.{◌≡◌, ◌<◌, ◌∙◌, ℕ, zero, suc, refl, sym, ap, arith}
use Rattle.schema_meaning.specs.Faults.{Branches, OneOfMultipleValid, OneOfNotValid}
use Rattle.schema_meaning.specs.Rules.{one_of_kind}
use Rattle.schema_reports.specs.Told.{branches_in, context_is_proper}
use Rattle.schema_reports.proofs.KindLemmas.{kind-OneOfMultipleValid, proper-OneOfMultipleValid, kind-OneOfNotValid, proper-OneOfNotValid}
use Rattle.engine_faults.proofs.refusals.one_of.Goals as goal

several : (n : ℕ) (bs : Branches) → 0 < n → OneOfMultipleValid bs ≡ one_of_kind n bs
several zero bs h = absurd (omega arith)
several (suc n) bs h = refl

none : (n : ℕ) (bs : Branches) → n ≡ 0 → OneOfNotValid bs ≡ one_of_kind n bs
none n bs e = ap (λ m. one_of_kind m bs) (sym e)

pub returns-then-accepted-gt0 : goal.returns-then-accepted-gt0
returns-then-accepted-gt0 c = λ branches are.
    let context = c.new-context.result in
    let same = c.new-context.ensures in
    record {
      kind = kind-OneOfMultipleValid context ∙ ap OneOfMultipleValid (ap branches_in same ∙ are.told) ∙ several c.args.accepted branches (omega arith);
      proper = proper-OneOfMultipleValid context ∙ ap context_is_proper same ∙ are.proper;
    }

pub returns-else-accepted-gt0 : goal.returns-else-accepted-gt0
returns-else-accepted-gt0 c = λ branches are.
    let context = c.new-context.result in
    let same = c.new-context.ensures in
    record {
      kind = kind-OneOfNotValid context ∙ ap OneOfNotValid (ap branches_in same ∙ are.told) ∙ none c.args.accepted branches (omega arith);
      proper = proper-OneOfNotValid context ∙ ap context_is_proper same ∙ are.proper;
    }
