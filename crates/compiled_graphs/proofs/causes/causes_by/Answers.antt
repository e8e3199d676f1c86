use Rattle.std.proofs.Common.{◌<◌, ◌∷◌, [], ℕ, List, sym, subst, length}
use Rattle.std.specs.List.{All}
use Rattle.std.proofs.lemmas.Result.{err_from_is_err_and}
use Rattle.schema_definitions.specs.Sites.{Site, root_site}
use Rattle.referencing.specs.Resolved.{documents_in, target_in}
use Rattle.reached_sites.proofs.Listing.{in-one}
use Rattle.compiled_graphs.specs.Graphs.{IsVisited}
use Rattle.compiled_graphs.specs.Told.{TellsVisits}
use Rattle.compiled_graphs.proofs.Built.{one-placed, all-read}
use Rattle.compiled_graphs.proofs.Ending.{keys-within}
use Rattle.compiled_graphs.proofs.Told.{are-causes, refuses-telling, all-wrong, root-visited, begun-from}
use Rattle.compiled_graphs.proofs.causes.causes_by.Goals as goal

pub returns-in_err-walk-clause-refused : goal.returns-in_err-walk-clause-refused
returns-in_err-walk-clause-refused g c =
    let own = documents_in c.args.root.now.resolver in
    let root = target_in c.args.root.now in
    let p = g.P.PatternMaker.patterns c.args.maker.now in
    let finds = g.P.Matcher.PatternMatcher.finds in
    let walks = begun-from finds p own root c.new-begun.result c.in_ok-visits.visits.list.items c.new-begun.ensures (c.in_ok-visits.ensures.graph p.makes) in
    let e = err_from_is_err_and c.from_residual-in_err-walk.result c.from_residual-in_err-walk.ensures.1 in
    rw (e.1, e.2) (refuses-telling p.makes own (root_site root) c.args.limit _ (c.in_err-walk.ensures.refused own (root_site root ∷ []) (one-placed own root c.requires.placed) walks))

pub causes_at-requires : goal.causes_at-requires
causes_at-requires g c =
    let own = documents_in c.args.root.now.resolver in
    let root = target_in c.args.root.now in
    let p = g.P.PatternMaker.patterns c.args.maker.now in
    let finds = g.P.Matcher.PatternMatcher.finds in
    let w = c.in_ok-walk.walk in
    let walks = begun-from finds p own root c.new-begun.result c.in_ok-visits.visits.list.items c.new-begun.ensures (c.in_ok-visits.ensures.graph p.makes) in
    let walked = c.in_ok-walk.ensures.walked own (root_site root ∷ []) (one-placed own root c.requires.placed) walks in
    record {
      inside = subst (λ (ws : List ℕ). All (λ i. i < length w.visits.list.items) ws) (sym c.as_slice.ensures.value)
          (all-wrong own p.makes (root_site root ∷ []) w.visits.list.items w.edges.items w.wrong.items (length w.nodes.items) walked.walks.graph);
    }

pub returns-clause-told : goal.returns-clause-told
returns-clause-told g c =
    let own = documents_in c.args.root.now.resolver in
    let root = target_in c.args.root.now in
    let p = g.P.PatternMaker.patterns c.args.maker.now in
    let finds = g.P.Matcher.PatternMatcher.finds in
    let w = c.in_ok-walk.walk in
    let vs = w.visits.list.items in
    let visits = c.in_ok-visits.visits.list.items in
    let told = c.in_ok-causes_at.field-0.items in
    let walks = begun-from finds p own root c.new-begun.result visits c.new-begun.ensures (c.in_ok-visits.ensures.graph p.makes) in
    let walked = c.in_ok-walk.ensures.walked own (root_site root ∷ []) (one-placed own root c.requires.placed) walks in
    let graph = all-read own p.makes (root_site root ∷ []) vs w.edges.items w.wrong.items (length w.nodes.items) walked.all walked.walks.graph in
    let begins = root-visited finds p own root c.new-begun.result visits c.new-begun.ensures w c.in_ok-walk.ensures.further c.in_ok-visits.ensures.visited in
    are-causes own p.makes (root_site root) vs w.edges.items w.wrong.items graph begins told
    (subst (λ (ws : List ℕ). TellsVisits p.makes vs ws told) c.as_slice.ensures.value (c.in_ok-causes_at.ensures walked.walks.filled))

pub returns-clause-within : goal.returns-clause-within
returns-clause-within g c =
    let own = documents_in c.args.root.now.resolver in
    let root = target_in c.args.root.now in
    let p = g.P.PatternMaker.patterns c.args.maker.now in
    let finds = g.P.Matcher.PatternMatcher.finds in
    let w = c.in_ok-walk.walk in
    let vs = w.visits.list.items in
    let visits = c.in_ok-visits.visits.list.items in
    let walks = begun-from finds p own root c.new-begun.result visits c.new-begun.ensures (c.in_ok-visits.ensures.graph p.makes) in
    let walked = c.in_ok-walk.ensures.walked own (root_site root ∷ []) (one-placed own root c.requires.placed) walks in
    let graph = all-read own p.makes (root_site root ∷ []) vs w.edges.items w.wrong.items (length w.nodes.items) walked.all walked.walks.graph in
    let begins = root-visited finds p own root c.new-begun.result visits c.new-begun.ensures w c.in_ok-walk.ensures.further c.in_ok-visits.ensures.visited in
    keys-within own p.makes (root_site root ∷ []) vs w.edges.items w.wrong.items graph
    (λ r i. (0, subst (λ (s : Site). IsVisited vs 0 s) (sym (in-one i)) begins)) c.args.limit walked.few
