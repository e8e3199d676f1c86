use Rattle.std.proofs.Common.{◌≡◌, ◌∙◌, refl, ap, subst, map, string_bytes, length}
use Rattle.std.specs.Bool.{Decides}
use Rattle.std.specs.List.{AllZip}
use Rattle.std.proofs.lemmas.Result.{err_from_is_err_and}
use Rattle.referencing.specs.Resolved.{base_of, documents_in}
use Rattle.marked_nodes.specs.Leading.{LeadsTo}
use Rattle.compiled_graphs.specs.Marked.{IsMarked}
use Rattle.compiled_graphs.specs.Starts.{sites_from}
use Rattle.compiled_graphs.proofs.Begun.{sites-placed}
use Rattle.compiled_graphs.proofs.Sorting.{nodes-below, each-node, kept-nodes, refuses-each, are-built, all-graph, each-sound, each-known, each-forms, walks-from, starts-then}
use Rattle.compiled_graphs.proofs.several.build_from.Goals as goal

pub returns-in_err-walk-clause-refused : goal.returns-in_err-walk-clause-refused
returns-in_err-walk-clause-refused g c =
    let own = documents_in c.args.resolver.now in
    let base = base_of c.args.resolver.now in
    let rs = map string_bytes c.args.references.now in
    let p = g.P.PatternMaker.patterns c.args.maker.now in
    let finds = g.P.Matcher.PatternMatcher.finds in
    let limit = c.args.limit in
    let visits = c.in_ok-started.started.visits.list.items in
    let os = c.in_ok-started.started.starts.items in
    let s = c.in_ok-started.ensures in
    let walks = walks-from finds p own base rs c.new-begun.result visits os c.new-begun.ensures s.starts s.graph in
    let placed = sites-placed own base c.requires.apart c.requires.rise rs in
    let e = err_from_is_err_and c.from_residual-in_err-walk.result c.from_residual-in_err-walk.ensures.1 in
    rw (e.1, e.2) (refuses-each p.makes own (sites_from own base rs) limit _ (c.in_err-walk.ensures.refused own (sites_from own base rs) placed walks))

pub leading_to-requires : goal.leading_to-requires
leading_to-requires g c =
    let own = documents_in c.args.resolver.now in
    let base = base_of c.args.resolver.now in
    let rs = map string_bytes c.args.references.now in
    let p = g.P.PatternMaker.patterns c.args.maker.now in
    let finds = g.P.Matcher.PatternMatcher.finds in
    let limit = c.args.limit in
    let visits = c.in_ok-started.started.visits.list.items in
    let os = c.in_ok-started.started.starts.items in
    let s = c.in_ok-started.ensures in
    let walks = walks-from finds p own base rs c.new-begun.result visits os c.new-begun.ensures s.starts s.graph in
    let placed = sites-placed own base c.requires.apart c.requires.rise rs in
    let w = c.in_ok-walk.walk in
    let walked = c.in_ok-walk.ensures.walked own (sites_from own base rs) placed walks in
    let starts = starts-then finds p own base rs c.new-begun.result visits os c.new-begun.ensures s.starts s.graph w c.in_ok-walk.ensures.further in
    let graph = all-graph finds p own base rs limit w walked in
    let count : c.len-count.result ≡ length w.visits.list.items = c.len-count.ensures ∙ w.visits.list.ok.0 in
    let n = nodes-below own p.makes base rs w.visits.list.items w.edges.items w.wrong.items os c.len-count.result c.as_slice-edges.result.now c.as_slice-wrong.result.now os starts graph count
    c.as_slice-edges.ensures.value c.as_slice-wrong.ensures.value refl in
    record { below = n.edges_are; marked = n.wrong_are }

pub clear_starts-requires : goal.clear_starts-requires
clear_starts-requires g c =
    let own = documents_in c.args.resolver.now in
    let base = base_of c.args.resolver.now in
    let rs = map string_bytes c.args.references.now in
    let p = g.P.PatternMaker.patterns c.args.maker.now in
    let finds = g.P.Matcher.PatternMatcher.finds in
    let limit = c.args.limit in
    let visits = c.in_ok-started.started.visits.list.items in
    let os = c.in_ok-started.started.starts.items in
    let s = c.in_ok-started.ensures in
    let walks = walks-from finds p own base rs c.new-begun.result visits os c.new-begun.ensures s.starts s.graph in
    let placed = sites-placed own base c.requires.apart c.requires.rise rs in
    let w = c.in_ok-walk.walk in
    let walked = c.in_ok-walk.ensures.walked own (sites_from own base rs) placed walks in
    let starts = starts-then finds p own base rs c.new-begun.result visits os c.new-begun.ensures s.starts s.graph w c.in_ok-walk.ensures.further in
    let graph = all-graph finds p own base rs limit w walked in
    let count : c.len-count.result ≡ length w.visits.list.items = c.len-count.ensures ∙ w.visits.list.ok.0 in
    let n = nodes-below own p.makes base rs w.visits.list.items w.edges.items w.wrong.items os (length c.as_slice.result.now) c.as_slice-edges.result.now c.as_slice-wrong.result.now os starts graph
    (ap length c.as_slice.ensures.value ∙ c.in_ok-marks.ensures.length ∙ count) c.as_slice-edges.ensures.value c.as_slice-wrong.ensures.value refl in
    n.starts_are

pub invariant_of-result : goal.invariant_of-result
invariant_of-result g c =
    let own = documents_in c.args.resolver.now in
    let base = base_of c.args.resolver.now in
    let rs = map string_bytes c.args.references.now in
    let p = g.P.PatternMaker.patterns c.args.maker.now in
    let finds = g.P.Matcher.PatternMatcher.finds in
    let limit = c.args.limit in
    let visits = c.in_ok-started.started.visits.list.items in
    let os = c.in_ok-started.started.starts.items in
    let s = c.in_ok-started.ensures in
    let walks = walks-from finds p own base rs c.new-begun.result visits os c.new-begun.ensures s.starts s.graph in
    let placed = sites-placed own base c.requires.apart c.requires.rise rs in
    let w = c.in_ok-walk.walk in
    let walked = c.in_ok-walk.ensures.walked own (sites_from own base rs) placed walks in
    record { sound = each-sound finds p own base rs limit w walked }

pub invariant_of-result-2 : goal.invariant_of-result-2
invariant_of-result-2 g c =
    let own = documents_in c.args.resolver.now in
    let base = base_of c.args.resolver.now in
    let rs = map string_bytes c.args.references.now in
    let p = g.P.PatternMaker.patterns c.args.maker.now in
    let finds = g.P.Matcher.PatternMatcher.finds in
    let limit = c.args.limit in
    let visits = c.in_ok-started.started.visits.list.items in
    let os = c.in_ok-started.started.starts.items in
    let s = c.in_ok-started.ensures in
    let walks = walks-from finds p own base rs c.new-begun.result visits os c.new-begun.ensures s.starts s.graph in
    let placed = sites-placed own base c.requires.apart c.requires.rise rs in
    let w = c.in_ok-walk.walk in
    let walked = c.in_ok-walk.ensures.walked own (sites_from own base rs) placed walks in
    record { known = each-known finds p own base rs limit w walked; forms = each-forms finds p own base rs limit w walked }

pub invariant_of-result-3 : goal.invariant_of-result-3
invariant_of-result-3 g c =
    let own = documents_in c.args.resolver.now in
    let base = base_of c.args.resolver.now in
    let rs = map string_bytes c.args.references.now in
    let p = g.P.PatternMaker.patterns c.args.maker.now in
    let finds = g.P.Matcher.PatternMatcher.finds in
    let limit = c.args.limit in
    let visits = c.in_ok-started.started.visits.list.items in
    let os = c.in_ok-started.started.starts.items in
    let s = c.in_ok-started.ensures in
    let walks = walks-from finds p own base rs c.new-begun.result visits os c.new-begun.ensures s.starts s.graph in
    let placed = sites-placed own base c.requires.apart c.requires.rise rs in
    let w = c.in_ok-walk.walk in
    let walked = c.in_ok-walk.ensures.walked own (sites_from own base rs) placed walks in
    let starts = starts-then finds p own base rs c.new-begun.result visits os c.new-begun.ensures s.starts s.graph w c.in_ok-walk.ensures.further in
    let graph = all-graph finds p own base rs limit w walked in
    let count : c.len-count.result ≡ length w.visits.list.items = c.len-count.ensures ∙ w.visits.list.ok.0 in
    let cs = c.in_ok-starts.starts.items in
    record {
      there = kept-nodes c.as_slice.result.now (length w.visits.list.items) (length w.nodes.items) walked.all os cs (each-node own p.makes base w.visits.list.items rs os starts) c.in_ok-starts.ensures;
    }

pub returns-clause-built : goal.returns-clause-built
returns-clause-built g c =
    let own = documents_in c.args.resolver.now in
    let base = base_of c.args.resolver.now in
    let rs = map string_bytes c.args.references.now in
    let p = g.P.PatternMaker.patterns c.args.maker.now in
    let finds = g.P.Matcher.PatternMatcher.finds in
    let limit = c.args.limit in
    let visits = c.in_ok-started.started.visits.list.items in
    let os = c.in_ok-started.started.starts.items in
    let s = c.in_ok-started.ensures in
    let walks = walks-from finds p own base rs c.new-begun.result visits os c.new-begun.ensures s.starts s.graph in
    let placed = sites-placed own base c.requires.apart c.requires.rise rs in
    let w = c.in_ok-walk.walk in
    let walked = c.in_ok-walk.ensures.walked own (sites_from own base rs) placed walks in
    let starts = starts-then finds p own base rs c.new-begun.result visits os c.new-begun.ensures s.starts s.graph w c.in_ok-walk.ensures.further in
    let graph = all-graph finds p own base rs limit w walked in
    let count : c.len-count.result ≡ length w.visits.list.items = c.len-count.ensures ∙ w.visits.list.ok.0 in
    let marks = c.in_ok-marks.marks.items in
    let cs = c.in_ok-starts.starts.items in
    are-built finds p own base rs limit w walked marks (c.in_ok-marks.ensures.length ∙ count)
    (λ i b e. subst (λ es. Decides b (LeadsTo es w.wrong.items i)) c.as_slice-edges.ensures.value
    (subst (λ ws. Decides b (LeadsTo c.as_slice-edges.result.now ws i)) c.as_slice-wrong.ensures.value (c.in_ok-marks.ensures.each i b e)))
    w.nodes.items w.table os cs starts (subst (λ ms. AllZip (IsMarked ms) os cs) c.as_slice.ensures.value c.in_ok-starts.ensures) refl refl
