use Rattle.std.proofs.Common.{subst}
use Rattle.serde_json.specs.View.{items_view}
use Rattle.assertions.specs.Reads.{IsNameList}
use Rattle.assertions.specs.declared.names.NameList.{NameList}
use Rattle.applicator_reading.proofs.DependencyLemmas.{refused_by, names_repeated, names_other}
use Rattle.applicator_reading.proofs.dependencies.refused_names.Goals as goal

pub returns-in-Repeated-clause-wrong : goal.returns-in-Repeated-clause-wrong
returns-in-Repeated-clause-wrong c = λ x.
    let ds = items_view c.args.names.now in
    refused_by _ _ (names_repeated x c.args.name.now ds (subst (λ (l : NameList). IsNameList ds l) c.in-Repeated.is c.in_ok-name_list.ensures))

pub returns-in-Other-clause-wrong : goal.returns-in-Other-clause-wrong
returns-in-Other-clause-wrong c = λ x.
    let ds = items_view c.args.names.now in
    refused_by _ _ (names_other x c.args.name.now ds (subst (λ (l : NameList). IsNameList ds l) c.in-Other.is c.in_ok-name_list.ensures))
