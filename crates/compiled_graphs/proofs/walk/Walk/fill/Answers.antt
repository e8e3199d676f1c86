use Rattle.std.proofs.Common.{◌≡◌, ◌∙◌, ◌<◌, ◌∷◌, Option, Some, None, option_map, box_value, Box, Global, slice_get, refl, sym, ap, subst, arith, is_none, length}
use Rattle.std.proofs.lemmas.Option.{slice_get_read}
use Rattle.std.specs.List.{AllZip}
use Rattle.schema_patterns.specs.Tables.{texts_of_table}
use Rattle.reached_sites.specs.declared.cause.BuildCause.{BuildCause}
use Rattle.reached_sites.specs.declared.visit.Visit.{Visit}
use Rattle.graph_answers.specs.Linking.{IsLocatedAt}
use Rattle.reached_sites.specs.Visits.{site_of}
use Rattle.compiled_graphs.specs.Walked.{Fills}
use Rattle.compiled_graphs.specs.Linked.{Links, StandsFor}
use Rattle.compiled_graphs.specs.Filled.{Compiled, IsRank}
use Rattle.compiled_graphs.proofs.Compiling.{zip-length}
use Rattle.compiled_graphs.proofs.Growing.{kept-at, noted_wrong}
use Rattle.compiled_graphs.proofs.Positions.{one-there, within}
use Rattle.compiled_graphs.proofs.Walks.{told-none, Step, IsFitting, fits-compiled, fits-empty, step-walks, first-from, orders, first-told}
use Rattle.compiled_graphs.proofs.walk.Walk.fill.Goals.{then-is_none+in_ok-keywords, else-is_none}
use Rattle.compiled_graphs.proofs.walk.Walk.fill.Goals as goal

none-boxed : (o : Option (Box BuildCause Global)) (p : Option BuildCause) → option_map box_value o ≡ p → is_none o ≡ is_none p
none-boxed None p e = ap is_none e
none-boxed (Some b) p e = ap is_none e

pub compile-requires : goal.compile-requires
compile-requires g c =
    let found = c.in_ok-found.found in
    let ns = c.in_ok-numbers.numbers.items in
    let same = zip-length (StandsFor c.len-next.result c.link.new.visits.list.items c.link.new.edges.items) found.visits.items ns c.in_ok-numbers.ensures.stand in
    rw (c.deref.ensures.value, c.deref-then-is_none.ensures.value) (c.in_ok-found.ensures.counts ∙ same)

pub returns-clause-further : goal.returns-clause-further
returns-clause-further g c = record { behind = c.in_ok-numbers.ensures.links.extends.added; is = c.in_ok-numbers.ensures.links.extends.grown }

pub returns-clause-fills : goal.returns-clause-fills
returns-clause-fills g c = λ own roots placed.
    let old = c.args.self.now in
    let vs = old.visits.list.items in
    let i = c.len-next.result in
    let v = c.index.result.now in
    let found = c.in_ok-found.found in
    let cause = c.in_ok-found.cause in
    let kept = c.in_ok-cause.cause in
    let same-none = none-boxed kept cause c.in_ok-cause.ensures in
    let read = c.in_ok-found.ensures in
    let ns = c.in_ok-numbers.numbers.items in
    let node = c.in_ok-node_of.field-0 in
    let us = c.link.new.visits.list.items in
    let es = c.link.new.edges.items in
    let texts = texts_of_table c.read.new.table in
    let finds = g.M.PatternMatcher.finds in
    let p = g.P.PatternMaker.patterns c.args.maker.now in
    let keeps = c.in_ok-node_of.ensures in
    let linked = c.in_ok-numbers.ensures.links in
    let v2 = c.index-2.result.now in
    let here : i ≡ length old.nodes.items = c.len-next.ensures ∙ old.nodes.ok.0 in
    let there : i < length vs = (let one = c.requires.there in omega (arith, one, here)) in
    let at = slice_get_read vs (length vs) i v refl there c.index.ensures in
    let still = kept-at vs us linked.extends.added i v linked.extends.grown at in
    let same : v ≡ v2 = one-there (slice_get us i) v v2 still (slice_get_read us (length us) i v2 refl (within us i v still) c.index-2.ensures) in
    let noted : c.note.new.wrong.items ≡ noted_wrong (is_none cause) old.wrong.items (length old.nodes.items) =
    c.in_ok-note.ensures ∙ ap (λ b. noted_wrong b old.wrong.items i) (told-none kept c.is_none.result c.is_none.ensures ∙ same-none) ∙ ap (λ n. noted_wrong (is_none cause) old.wrong.items n) here in
    let fitting : IsFitting (is_none cause) texts found.askings.items ns c.if-is_none.keywords.items = elim c.if-is_none.branch [
      | then-is_none+in_ok-keywords w ↦
          fits-compiled (is_none cause) texts found.askings.items ns _ (sym (told-none kept c.is_none-2.result c.is_none-2.ensures ∙ same-none) ∙ w.if-is_none.true)
          (rw (sym w.deref.ensures.value, sym w.deref-then-is_none.ensures.value, w.keywords-is) w.in_ok-keywords.ensures)
      | else-is_none w ↦
          fits-empty (is_none cause) texts found.askings.items ns _ (sym (told-none kept c.is_none-2.result c.is_none-2.ensures ∙ same-none) ∙ w.if-is_none.false) (rw w.keywords-is w.new-keywords.ensures.items)
    ] in
    let step : Step finds p old (record { visits = c.link.new.visits; nodes = c.push.new.self; edges = c.link.new.edges; wrong = c.note.new.wrong; table = c.read.new.table }) v found cause ns node = record {
      at = subst (λ n. slice_get vs n ≡ Some v) here at;
      read = read.read;
      filled = read.filled;
      kept = read.kept;
      grows = read.grows;
      written_here = read.written;
      links = subst (λ n. Links n vs us found.visits.items old.edges.items es) here linked;
      stand = subst (λ n. AllZip (StandsFor n us es) found.visits.items ns) here c.in_ok-numbers.ensures.stand;
      noted = noted;
      compiled = λ t. subst (λ ks. Compiled texts found.askings.items ns ks) (sym keeps.keywords) (fitting.compiled t);
      empty = λ f. keeps.keywords ∙ fitting.empty f;
      path = subst (λ (x : Visit). node.schema_path ≡ x.point.schema_path.steps) (sym same) keeps.path;
      located = subst (λ (x : Visit). IsLocatedAt (site_of x) node) (sym same) (record {
        layer = v2.point.place.document.layer;
        document = ap (λ uri. v2.point.place.document.layer ∷ uri) (sym keeps.document);
        path = sym keeps.place;
        draft = sym keeps.draft;
      });
      rank = subst (λ (x : Visit). IsRank x.point.place.path node.rank) (sym same) keeps.rank;
      pushed = c.in_ok-push.ensures.items;
    } in
    subst (λ (o : Option BuildCause). Fills finds p own roots old (record { visits = c.link.new.visits; nodes = c.push.new.self; edges = c.link.new.edges; wrong = c.note.new.wrong; table = c.read.new.table }) o) (sym (c.unboxed.ensures ∙ c.in_ok-cause.ensures)) (record {
      walks = λ w. step-walks finds p own roots placed old _ v found cause ns node step w;
      wrong = λ w. first-from finds p own roots placed old _ v found cause ns node step w;
      orders = λ w h. orders finds p own roots placed old _ v found cause ns node step w h;
      first = λ w h none. first-told finds p own roots placed old _ v found cause ns node step w h none;
      right = λ none. noted ∙ ap (λ (o : Option BuildCause). noted_wrong (is_none o) old.wrong.items (length old.nodes.items)) none;
    })
