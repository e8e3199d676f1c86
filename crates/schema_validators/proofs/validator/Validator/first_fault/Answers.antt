use Rattle.std.proofs.Common.{◌≡◌, ◌<◌, ◌∙◌, [], IfErr, inl, inr, is_ok, length, sym, ap, subst}
use Rattle.serde_json.specs.View.{view}
use Rattle.schema_meaning.specs.Faults.{Told, is_none}
use Rattle.schema_reports.specs.Told.{fault_of}
use Rattle.compiled_graphs.specs.declared.schemas.SchemaGraph.{SchemaGraph}
use Rattle.compiled_keywords.specs.Shapes.{shape_of}
use Rattle.schema_engine.specs.Matches.{completed, none_matched}
use Rattle.graph_answers.specs.Certain.{faults_in, IsFirst, IsOneOfThose}
use Rattle.graph_answers.specs.Completions.{matches_with}
use Rattle.graph_answers.proofs.CertainLemmas.{certain_is, faults_by_table}
use Rattle.schema_registries.specs.Certified.{HasCertificate}
use Rattle.schema_registries.specs.Roots.{Root, Patterns}
use Rattle.schema_validators.specs.Answered.{IsFault}
use Rattle.schema_validators.specs.Made.{IsMadeBy}
use Rattle.schema_validators.specs.Seen.{nodes_in, table_in}
use Rattle.schema_validators.proofs.Accepting.{agree_by}
use Rattle.schema_validators.proofs.ByNodes.{verdict_told, fault_told, certificates_told, one_told}
use Rattle.schema_validators.proofs.Hearing.{says_verdict, says_told, says_proper}
use Rattle.schema_validators.proofs.validator.Validator.first_fault.Goals as goal

pub first_certain-requires : goal.first_certain-requires
first_certain-requires g c =
    let v = c.args.self.now in
    record { there = subst (λ (s : SchemaGraph _ _). v.start < length s.graph.nodes.items) (sym c.deref.ensures) v.there }

pub returns-clause-each : goal.returns-clause-each
returns-clause-each g c =
    let v = c.args.self.now in
    let d = view c.args.value.now in
    let first = subst (λ (s : SchemaGraph _ _). IsFirst shape_of s.graph.nodes.items v.start d (matches_with g.M.PatternMatcher.finds s.table []) c.in_ok-first.first)
    c.deref.ensures c.in_ok-first.ensures.each in
    record {
      either = elim first.either [
        | inl all ↦ inl (λ rest. c.refused.ensures (faults_in shape_of (nodes_in v) v.start d (completed (matches_with g.M.PatternMatcher.finds (table_in v) []) rest)) (all rest))
        | inr one ↦ inr (record { faults = one.faults; told = one.certain; says = c.refused.ensures one.faults one.is })
      ];
    }

pub returns-clause-cut : goal.returns-clause-cut
returns-clause-cut g c = λ shut.
    let v = c.args.self.now in
    let d = view c.args.value.now in
    let finds = g.M.PatternMatcher.finds in
    elim (returns-clause-each g c).either [
      | inl all ↦ (says_verdict _ c.refused.result (all none_matched) ∙ ap is_none (faults_by_table shape_of finds (nodes_in v) (table_in v) v.start d) ∙ agree_by v d)
      | inr one ↦ (says_verdict one.faults c.refused.result one.says ∙ ap is_none (certain_is shape_of finds (nodes_in v) (table_in v) v.start d one.faults one.told shut) ∙ agree_by v d)
    ]

pub returns-clause-one : goal.returns-clause-one
returns-clause-one g c = λ shut.
    let v = c.args.self.now in
    let d = view c.args.value.now in
    let finds = g.M.PatternMatcher.finds in
    elim (returns-clause-each g c).either [
      | inl all ↦ subst (λ gs. IfErr c.refused.result (λ e. Told (fault_of e) gs)) (faults_by_table shape_of finds (nodes_in v) (table_in v) v.start d)
          (says_told _ c.refused.result (all none_matched))
      | inr one ↦ subst (λ gs. IfErr c.refused.result (λ e. Told (fault_of e) gs)) (certain_is shape_of finds (nodes_in v) (table_in v) v.start d one.faults one.told shut)
          (says_told one.faults c.refused.result one.says)
    ]

pub returns-clause-verdict : goal.returns-clause-verdict
returns-clause-verdict g c = λ p r made.
    let v = c.args.self.now in
    let d = view c.args.value.now in
    let finds = g.M.PatternMatcher.finds in
    let one = subst (λ (s : SchemaGraph _ _). IsOneOfThose shape_of finds s.graph.nodes.items s.table v.start d c.in_ok-first.first) c.deref.ensures c.in_ok-first.ensures.fault in
    verdict_told finds p r (nodes_in v) v.start (table_in v) made d one.faults one.those (is_ok c.refused.result) (says_verdict one.faults c.refused.result (c.refused.ensures one.faults one.is))

pub returns-clause-fault : goal.returns-clause-fault
returns-clause-fault g c =
    let v = c.args.self.now in
    let d = view c.args.value.now in
    let finds = g.M.PatternMatcher.finds in
    let one = subst (λ (s : SchemaGraph _ _). IsOneOfThose shape_of finds s.graph.nodes.items s.table v.start d c.in_ok-first.first) c.deref.ensures c.in_ok-first.ensures.fault in
    one_told one.faults (λ f. (p : Patterns) (r : Root) → IsMadeBy p r v → IsFault p r d f)
    (λ f told p r made. fault_told finds p r (nodes_in v) v.start (table_in v) made d one.faults one.those f told) c.refused.result
    (says_told one.faults c.refused.result (c.refused.ensures one.faults one.is))

pub returns-clause-proper : goal.returns-clause-proper
returns-clause-proper g c =
    let v = c.args.self.now in
    let d = view c.args.value.now in
    let finds = g.M.PatternMatcher.finds in
    let one = subst (λ (s : SchemaGraph _ _). IsOneOfThose shape_of finds s.graph.nodes.items s.table v.start d c.in_ok-first.first) c.deref.ensures c.in_ok-first.ensures.fault in
    says_proper one.faults c.refused.result (c.refused.ensures one.faults one.is)

pub returns-clause-certified : goal.returns-clause-certified
returns-clause-certified g c =
    let v = c.args.self.now in
    let d = view c.args.value.now in
    let finds = g.M.PatternMatcher.finds in
    let one = subst (λ (s : SchemaGraph _ _). IsOneOfThose shape_of finds s.graph.nodes.items s.table v.start d c.in_ok-first.first) c.deref.ensures c.in_ok-first.ensures.fault in
    one_told one.faults (λ f. (p : Patterns) (r : Root) → IsMadeBy p r v → HasCertificate p r d f)
    (λ f told p r made. certificates_told finds p r (nodes_in v) v.start (table_in v) made d one.faults one.certified f told) c.refused.result
    (says_told one.faults c.refused.result (c.refused.ensures one.faults one.is))
