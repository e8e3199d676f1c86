use Rattle.std.proofs.Common.{false, ap, length}
use Rattle.schema_definitions.specs.Sites.{root_site}
use Rattle.referencing.specs.Resolved.{documents_in, target_in}
use Rattle.compiled_graphs.proofs.Alone.{alone-of, alone-visited, alone-begun}
use Rattle.compiled_graphs.proofs.starting.start_at.Goals as goal

pub returns-clause-visited : goal.returns-clause-visited
returns-clause-visited c =
    let v = c.in_ok-of_root.field-0 in
    let vs = c.put.new.self.list.items in
    let alone = alone-of c.new-visits.result.list.items vs v c.new-visits.ensures c.in_ok-put.ensures.grows in
    alone-visited (documents_in c.args.root.now.resolver) (λ p. false) (root_site (target_in c.args.root.now)) v vs alone c.in_ok-of_root.ensures.met

pub returns-clause-one : goal.returns-clause-one
returns-clause-one c =
    ap length (alone-of c.new-visits.result.list.items c.put.new.self.list.items c.in_ok-of_root.field-0 c.new-visits.ensures c.in_ok-put.ensures.grows)

pub returns-clause-graph : goal.returns-clause-graph
returns-clause-graph c = λ makes.
    let v = c.in_ok-of_root.field-0 in
    let vs = c.put.new.self.list.items in
    let alone = alone-of c.new-visits.result.list.items vs v c.new-visits.ensures c.in_ok-put.ensures.grows in
    alone-begun (documents_in c.args.root.now.resolver) makes (root_site (target_in c.args.root.now)) v vs alone c.in_ok-of_root.ensures.met c.in_ok-of_root.ensures.belongs
