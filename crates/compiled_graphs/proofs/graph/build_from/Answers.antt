use Rattle.std.proofs.Common.{[], ◌∷◌}
use Rattle.std.proofs.lemmas.Result.{err_from_is_err_and}
use Rattle.referencing.specs.Resolved.{documents_in, target_in}
use Rattle.schema_definitions.specs.Sites.{root_site}
use Rattle.compiled_graphs.proofs.Built.{IsBuilt, IsStarted, one-placed, refuses-one, refuses-first, walks-from-root, ordered-from-root, built-of, accepted, within-limit, patterns-among, made, sound, compiled-at, forms, knows}
use Rattle.compiled_graphs.proofs.graph.build_from.Goals as goal

pub returns-in_err-walk-clause-refused : goal.returns-in_err-walk-clause-refused
returns-in_err-walk-clause-refused g c =
    let own = documents_in c.args.root.now.resolver in
    let root = target_in c.args.root.now in
    let p = g.P.PatternMaker.patterns c.args.maker.now in
    let finds = g.P.Matcher.PatternMatcher.finds in
    let limit = c.args.limit in
    let s = c.in_ok-visits.ensures in
    let started : IsStarted own root c.in_ok-visits.visits.list.items = record { visited_first = s.visited; graph = s.graph } in
    let walks = walks-from-root finds p own root limit c.new-begun.result c.in_ok-visits.visits.list.items c.requires.placed c.new-begun.ensures started in
    let e = err_from_is_err_and c.from_residual-in_err-walk.result c.from_residual-in_err-walk.ensures.1 in
    rw (e.1, e.2) (refuses-one p.makes own (root_site root) limit _ (c.in_err-walk.ensures.refused own (root_site root ∷ []) (one-placed own root c.requires.placed) walks))

pub returns-in_err-walk-clause-first : goal.returns-in_err-walk-clause-first
returns-in_err-walk-clause-first g c =
    let own = documents_in c.args.root.now.resolver in
    let root = target_in c.args.root.now in
    let p = g.P.PatternMaker.patterns c.args.maker.now in
    let finds = g.P.Matcher.PatternMatcher.finds in
    let limit = c.args.limit in
    let s = c.in_ok-visits.ensures in
    let started : IsStarted own root c.in_ok-visits.visits.list.items = record { visited_first = s.visited; graph = s.graph } in
    let walks = walks-from-root finds p own root limit c.new-begun.result c.in_ok-visits.visits.list.items c.requires.placed c.new-begun.ensures started in
    let ordered = ordered-from-root finds p own root limit c.new-begun.result c.in_ok-visits.visits.list.items c.requires.placed c.new-begun.ensures started s.one in
    let e = err_from_is_err_and c.from_residual-in_err-walk.result c.from_residual-in_err-walk.ensures.1 in
    rw (e.1, e.2) (refuses-first p.makes own (root_site root) limit _ (c.in_err-walk.ensures.first own (root_site root ∷ []) (one-placed own root c.requires.placed) walks ordered))

pub invariant_of-result : goal.invariant_of-result
invariant_of-result g c =
    let own = documents_in c.args.root.now.resolver in
    let root = target_in c.args.root.now in
    let p = g.P.PatternMaker.patterns c.args.maker.now in
    let finds = g.P.Matcher.PatternMatcher.finds in
    let limit = c.args.limit in
    let w = c.in_ok-walk.walk in
    let s = c.in_ok-visits.ensures in
    let started : IsStarted own root c.in_ok-visits.visits.list.items = record { visited_first = s.visited; graph = s.graph } in
    let b : IsBuilt finds p own root limit w = built-of finds p own root limit c.new-begun.result c.in_ok-visits.visits.list.items c.requires.placed c.new-begun.ensures started w
    c.in_ok-walk.ensures.further c.in_ok-walk.ensures.walked in
    record { sound = sound finds p own root limit w b.walked b.begins }

pub invariant_of-result-2 : goal.invariant_of-result-2
invariant_of-result-2 g c =
    let own = documents_in c.args.root.now.resolver in
    let root = target_in c.args.root.now in
    let p = g.P.PatternMaker.patterns c.args.maker.now in
    let finds = g.P.Matcher.PatternMatcher.finds in
    let limit = c.args.limit in
    let w = c.in_ok-walk.walk in
    let s = c.in_ok-visits.ensures in
    let started : IsStarted own root c.in_ok-visits.visits.list.items = record { visited_first = s.visited; graph = s.graph } in
    let b : IsBuilt finds p own root limit w = built-of finds p own root limit c.new-begun.result c.in_ok-visits.visits.list.items c.requires.placed c.new-begun.ensures started w
    c.in_ok-walk.ensures.further c.in_ok-walk.ensures.walked in
    record { known = knows finds p own root limit w b.walked b.begins; forms = forms finds p own root limit w b.walked b.begins }

pub invariant_of-result-3 : goal.invariant_of-result-3
invariant_of-result-3 g c =
    let own = documents_in c.args.root.now.resolver in
    let root = target_in c.args.root.now in
    let p = g.P.PatternMaker.patterns c.args.maker.now in
    let finds = g.P.Matcher.PatternMatcher.finds in
    let limit = c.args.limit in
    let w = c.in_ok-walk.walk in
    let s = c.in_ok-visits.ensures in
    let started : IsStarted own root c.in_ok-visits.visits.list.items = record { visited_first = s.visited; graph = s.graph } in
    let b : IsBuilt finds p own root limit w = built-of finds p own root limit c.new-begun.result c.in_ok-visits.visits.list.items c.requires.placed c.new-begun.ensures started w
    c.in_ok-walk.ensures.further c.in_ok-walk.ensures.walked in
    record { there = (compiled-at finds p own root limit w b.walked b.begins).within }

pub returns-clause-accepted : goal.returns-clause-accepted
returns-clause-accepted g c =
    let own = documents_in c.args.root.now.resolver in
    let root = target_in c.args.root.now in
    let p = g.P.PatternMaker.patterns c.args.maker.now in
    let finds = g.P.Matcher.PatternMatcher.finds in
    let limit = c.args.limit in
    let w = c.in_ok-walk.walk in
    let s = c.in_ok-visits.ensures in
    let started : IsStarted own root c.in_ok-visits.visits.list.items = record { visited_first = s.visited; graph = s.graph } in
    let b : IsBuilt finds p own root limit w = built-of finds p own root limit c.new-begun.result c.in_ok-visits.visits.list.items c.requires.placed c.new-begun.ensures started w
    c.in_ok-walk.ensures.further c.in_ok-walk.ensures.walked in
    accepted finds p own root limit w b.walked b.begins

pub returns-clause-within : goal.returns-clause-within
returns-clause-within g c =
    let own = documents_in c.args.root.now.resolver in
    let root = target_in c.args.root.now in
    let p = g.P.PatternMaker.patterns c.args.maker.now in
    let finds = g.P.Matcher.PatternMatcher.finds in
    let limit = c.args.limit in
    let w = c.in_ok-walk.walk in
    let s = c.in_ok-visits.ensures in
    let started : IsStarted own root c.in_ok-visits.visits.list.items = record { visited_first = s.visited; graph = s.graph } in
    let b : IsBuilt finds p own root limit w = built-of finds p own root limit c.new-begun.result c.in_ok-visits.visits.list.items c.requires.placed c.new-begun.ensures started w
    c.in_ok-walk.ensures.further c.in_ok-walk.ensures.walked in
    within-limit finds p own root limit w b.walked b.begins

pub returns-clause-patterns : goal.returns-clause-patterns
returns-clause-patterns g c =
    let own = documents_in c.args.root.now.resolver in
    let root = target_in c.args.root.now in
    let p = g.P.PatternMaker.patterns c.args.maker.now in
    let finds = g.P.Matcher.PatternMatcher.finds in
    let limit = c.args.limit in
    let w = c.in_ok-walk.walk in
    let s = c.in_ok-visits.ensures in
    let started : IsStarted own root c.in_ok-visits.visits.list.items = record { visited_first = s.visited; graph = s.graph } in
    let b : IsBuilt finds p own root limit w = built-of finds p own root limit c.new-begun.result c.in_ok-visits.visits.list.items c.requires.placed c.new-begun.ensures started w
    c.in_ok-walk.ensures.further c.in_ok-walk.ensures.walked in
    patterns-among finds p own root limit w b.walked b.begins

pub returns-clause-made : goal.returns-clause-made
returns-clause-made g c =
    let own = documents_in c.args.root.now.resolver in
    let root = target_in c.args.root.now in
    let p = g.P.PatternMaker.patterns c.args.maker.now in
    let finds = g.P.Matcher.PatternMatcher.finds in
    let limit = c.args.limit in
    let w = c.in_ok-walk.walk in
    let s = c.in_ok-visits.ensures in
    let started : IsStarted own root c.in_ok-visits.visits.list.items = record { visited_first = s.visited; graph = s.graph } in
    let b : IsBuilt finds p own root limit w = built-of finds p own root limit c.new-begun.result c.in_ok-visits.visits.list.items c.requires.placed c.new-begun.ensures started w
    c.in_ok-walk.ensures.further c.in_ok-walk.ensures.walked in
    made finds p own root limit w b.walked b.begins

pub returns-clause-linked : goal.returns-clause-linked
returns-clause-linked g c =
    let own = documents_in c.args.root.now.resolver in
    let root = target_in c.args.root.now in
    let p = g.P.PatternMaker.patterns c.args.maker.now in
    let finds = g.P.Matcher.PatternMatcher.finds in
    let limit = c.args.limit in
    let w = c.in_ok-walk.walk in
    let s = c.in_ok-visits.ensures in
    let started : IsStarted own root c.in_ok-visits.visits.list.items = record { visited_first = s.visited; graph = s.graph } in
    let b : IsBuilt finds p own root limit w = built-of finds p own root limit c.new-begun.result c.in_ok-visits.visits.list.items c.requires.placed c.new-begun.ensures started w
    c.in_ok-walk.ensures.further c.in_ok-walk.ensures.walked in
    compiled-at finds p own root limit w b.walked b.begins
