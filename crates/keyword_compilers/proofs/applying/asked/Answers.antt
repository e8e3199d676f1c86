use Rattle.std.proofs.Common.{◌∙◌, map, ap, sym}
use Rattle.serde_json.specs.View.{members_view}
use Rattle.schema_definitions.specs.Rows.{member_names}
use Rattle.schema_patterns.specs.Tables.{texts_of_table}
use Rattle.applicators.specs.Forms.{by_pattern}
use Rattle.keyword_compilers.specs.Patterns.{numbered, patterns_asked}
use Rattle.keyword_compilers.specs.Shapes.{numbered_form}
use Rattle.keyword_compilers.proofs.Numbering.{nodes_of_texts, patterns_of_nodes}
use Rattle.keyword_compilers.proofs.applying.asked.Goals as goal

pub returns-in_ok-pattern_nodes-in-MatchingMembers-clause-form : goal.returns-in_ok-pattern_nodes-in-MatchingMembers-clause-form
returns-in_ok-pattern_nodes-in-MatchingMembers-clause-form g c =
    let w = c.in_ok-pattern_nodes-in-MatchingMembers in
    let names = member_names (members_view c.in-MatchingMembers.schemas.now.entries) in
    ap by_pattern (nodes_of_texts (texts_of_table c.args.table.now) w.field-0.items names c.args.nodes.now.leads.now w.ensures)
    ∙ sym (ap (numbered_form c.args.nodes.now) c.in-MatchingMembers.is)

pub returns-in_ok-pattern_nodes-in-MatchingMembers-clause-patterns : goal.returns-in_ok-pattern_nodes-in-MatchingMembers-clause-patterns
returns-in_ok-pattern_nodes-in-MatchingMembers-clause-patterns g c =
    let w = c.in_ok-pattern_nodes-in-MatchingMembers in
    let texts = texts_of_table c.args.table.now in
    let names = member_names (members_view c.in-MatchingMembers.schemas.now.entries) in
    patterns_of_nodes texts w.field-0.items names c.args.nodes.now.leads.now w.ensures ∙ sym (ap (λ f. map (numbered texts) (patterns_asked f)) c.in-MatchingMembers.is)
