use Rattle.std.proofs.Common.{◌∙◌, Some, None, map, refl, sym, ap}
use Rattle.schema_engine.specs.Asking.{branch_call}
use Rattle.schema_engine.specs.Places.{value_at}
use Rattle.schema_engine.specs.declared.combination.Combination.TheVariants as combination
use Rattle.compiled_keywords.specs.Rules.{combination_by}
use Rattle.compiled_keywords.proofs.AskLemmas.{combines_so, counted_so, branches_so, items_so, items_there, value_so}
use Rattle.compiled_keywords.proofs.asking.asking_of.Goals as goal

pub returns-in-Every : goal.returns-in-Every
returns-in-Every c = λ matches.
    let d = value_at c.args.place in
    let a = c.args.applicator.now in
    record {
      combination = combines_so matches d a ∙ ap (λ j. combination_by j d) c.in-Every.is;
      questions = items_so matches d a c.in-ItemsFrom.start c.in-ItemsFrom.node c.in-ItemsFrom.is
          ∙ items_there c.in-ItemsFrom.node c.in-ItemsFrom.start _ c.items_at.result.now c.items_at.ensures;
    }

pub returns-in-Every-combining : goal.returns-in-Every-combining
returns-in-Every-combining c = λ matches.
    let d = value_at c.args.place in
    let a = c.args.applicator.now in
    record {
      combination = combines_so matches d a ∙ ap (λ j. combination_by j d) c.in-Every-combining.is;
      questions = branches_so matches d a c.in-Branches.branches c.in-Branches.is ∙ ap (map branch_call) (sym c.deref.ensures.value);
    }

pub returns-in-SomeBranch : goal.returns-in-SomeBranch
returns-in-SomeBranch c = λ matches.
    let d = value_at c.args.place in
    let a = c.args.applicator.now in
    counted_so _ combination.SomeBranch 1 None _ (λ ask. refl) (combines_so matches d a ∙ ap (λ j. combination_by j d) c.in-SomeBranch.is)
    (branches_so matches d a c.in-Branches.branches c.in-Branches.is ∙ ap (map branch_call) (sym c.deref-in-SomeBranch.ensures.value))

pub returns-in-OneBranch : goal.returns-in-OneBranch
returns-in-OneBranch c = λ matches.
    let d = value_at c.args.place in
    let a = c.args.applicator.now in
    counted_so _ combination.OneBranch 1 (Some 1) _ (λ ask. refl) (combines_so matches d a ∙ ap (λ j. combination_by j d) c.in-OneBranch.is)
    (branches_so matches d a c.in-Branches.branches c.in-Branches.is ∙ ap (map branch_call) (sym c.deref-in-OneBranch.ensures.value))

pub returns-in-Refusal : goal.returns-in-Refusal
returns-in-Refusal c = λ matches.
    let d = value_at c.args.place in
    let a = c.args.applicator.now in
    counted_so _ combination.Refusal 0 (Some 0) _ (λ ask. refl) (combines_so matches d a ∙ ap (λ j. combination_by j d) c.in-Refusal.is)
    (value_so matches d a c.in-Value.shown c.in-Value.is ∙ ap (map branch_call) (sym c.from_ref.ensures.value))
