use Rattle.std.proofs.Common.{sym, subst}
use Rattle.std.proofs.lemmas.Result.{IfOk-weaker}
use Rattle.std.specs.List.{AllZip}
use Rattle.schema_meaning.specs.Linked.{Linked}
use Rattle.linked_meanings.specs.Related.{RelatedShape}
use Rattle.schema_sites.specs.Read.{shapes_of}
use Rattle.schema_patterns.specs.Tables.{texts_of_table}
use Rattle.keyword_compilers.specs.Patterns.{patterns_in, patterns_needed}
use Rattle.keyword_compilers.proofs.Linking.{shapes_linked}
use Rattle.keyword_compilers.proofs.Numbering.{entries_so, knows_in}
use Rattle.keyword_compilers.proofs.Standing.{nodes_given}
use Rattle.keyword_compilers.proofs.compiling.compiled.Goals as goal

pub returns-clause-shapes : goal.returns-clause-shapes
returns-clause-shapes g c =
    let keyword = c.args.keyword.now in
    IfOk-weaker c.made.result _ _ (λ k is docs s pairs h. subst (AllZip (RelatedShape (Linked pairs)) (shapes_of docs s keyword)) (sym is) (shapes_linked pairs c.args.nodes.now docs s keyword h)) c.made.ensures.shapes

pub returns-clause-entries : goal.returns-clause-entries
returns-clause-entries g c =
    IfOk-weaker c.made.result _ _ (λ k is held. entries_so (texts_of_table c.args.table.now) (patterns_in k) (patterns_needed c.args.keyword.now) is held) c.made.ensures.patterns

pub returns-clause-knows : goal.returns-clause-knows
returns-clause-knows g c =
    let texts = texts_of_table c.args.table.now in
    IfOk-weaker c.made.result _ _ (λ k is held. knows_in texts k (entries_so texts (patterns_in k) (patterns_needed c.args.keyword.now) is held)) c.made.ensures.patterns

pub returns-clause-nodes : goal.returns-clause-nodes
returns-clause-nodes g c =
    IfOk-weaker c.made.result _ _ (λ k is docs s e. nodes_given c.args.nodes.now docs s c.args.keyword.now k is e) c.made.ensures.shapes
