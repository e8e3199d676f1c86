use Rattle.std.proofs.Common.{sym, subst, ◌≡◌}
use Rattle.serde_json.specs.View.{view}
use Rattle.schema_definitions.specs.Rows.{bad_value}
use Rattle.schema_sites.specs.References.{name_of, reference_row}
use Rattle.schema_sites.specs.declared.reference_keyword.ReferenceKeyword.{ReferenceKeyword}
use Rattle.schema_sites.proofs.ResultLemmas.{if-err}
use Rattle.schema_sites.proofs.reading.reference_text.Goals as goal

pub returns-in-RecursiveRef-clause-refused : goal.returns-in-RecursiveRef-clause-refused
returns-in-RecursiveRef-clause-refused c =
    let d = view c.args.value.now in
    if-err _ _ c.hash_text.result
    (λ word h. λ x. subst (λ (w : ReferenceKeyword). reference_row w x d ≡ bad_value x (name_of w) word.now) (sym c.in-RecursiveRef.is) (h x))
    c.hash_text.ensures.refused
