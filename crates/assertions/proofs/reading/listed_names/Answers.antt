use Rattle.std.proofs.Common.{sym, ◌∙◌, subst}
use Rattle.serde_json.specs.View.{items_view}
use Rattle.assertions.specs.declared.names.NameList.{NameList}
use Rattle.assertions.specs.Reads.{IsNameList}
use Rattle.assertions.proofs.NameLemmas.{unique-names, other-names}
use Rattle.assertions.proofs.reading.listed_names.Goals as goal

pub returns-else-is_empty : goal.returns-else-is_empty
returns-else-is_empty c = λ x. unique-names x c.args.names.now (subst (λ (n : NameList). IsNameList (items_view c.args.names.now) n) c.in-Unique.is c.requires) (sym c.is_empty.ensures ∙ c.if-is_empty.false)

pub returns-in_default : goal.returns-in_default
returns-in_default c = λ x. other-names x (items_view c.args.names.now) c.args.list c.asserted.result c.requires c.in_default.not-Unique c.asserted.ensures
