use Rattle.std.proofs.Common.{◌≡◌, ◌<◌, ◌≤◌, ◌∷◌, ◌++◌, ◌∙◌, ◌+◌, [], List, ℕ, Option, refl, sym, ap, subst, map, take, string_bytes, length, arith}
use Rattle.std.proofs.lemmas.List.{take_more, take_all, map-append}
use Rattle.std.proofs.lemmas.Option.{slice_get_read, get_or_from_slice_get}
use Rattle.schema_meaning.specs.Members.{In}
use Rattle.compiled_graphs.specs.Marked.{IsNode}
use Rattle.compiled_graphs.specs.declared.schemas.SchemaGraph.{SchemaGraph}
use Rattle.schema_registries.specs.Seen.{documents_shared}
use Rattle.schema_validators.specs.Maps as maps
use Rattle.schema_validators.specs.Maps.{entries_in, entry_at, PutsPlace, Enters}
use Rattle.schema_validators.specs.Meant.{IsOfSome}
use Rattle.schema_validators.proofs.Entries.{same-found, absent, differ-before, entered-more, entered-names, slice-map, map-take}
use Rattle.schema_validators.proofs.mapping.validators_at.Goals as goal

pub loop-position-init : goal.loop-position-init
loop-position-init g c = subst (λ es. Enters (documents_shared c.args.registry.now) c.args.document.now c.in_ok-shared.shared.value [] [] es) (sym c.new-map.ensures) maps.none

pub start_at-start-requires : goal.start_at-start-requires
start_at-start-requires g c = omega (arith, c.loop-position-test.true, c.requires.long)

pub put-requires-clause-there : goal.put-requires-clause-there
put-requires-clause-there g c =
    let starts = c.args.starts.now in
    let i = c.loop-position.position in
    let o = c.start_at-start.result in
    let within : i < length starts = omega (arith, c.loop-position-test.true, c.requires.long) in
    let at = get_or_from_slice_get starts i o o c.start_at-start.ensures in
    subst (λ (s : SchemaGraph _ _). IsNode (length s.graph.nodes.items) o) (sym c.in_ok-shared.ensures.ok)
    (subst (λ (x : Option ℕ). IsNode (length c.args.schemas.graph.nodes.items) x) at (c.requires.there i o within))

pub put-requires-clause-of_some : goal.put-requires-clause-of_some
put-requires-clause-of_some g c =
    let starts = c.args.starts.now in
    let i = c.loop-position.position in
    let o = c.start_at-start.result in
    let within : i < length starts = omega (arith, c.loop-position-test.true, c.requires.long) in
    let at = get_or_from_slice_get starts i o o c.start_at-start.ensures in
    subst (λ (s : SchemaGraph _ _). IsOfSome s.graph.nodes.items o) (sym c.in_ok-shared.ensures.ok)
    (subst (λ (x : Option ℕ). IsOfSome c.args.schemas.graph.nodes.items x) at (c.requires.of_some i o within))

pub put-requires-clause-absent : goal.put-requires-clause-absent
put-requires-clause-absent g c =
    let ps = c.args.pointers.now in
    let i = c.loop-position.position in
    let r = c.index-pointers-position.result in
    let m = c.loop-position.map in
    let own = documents_shared c.args.registry.now in
    let at = slice_get_read ps (length ps) i r refl c.loop-position-test.true c.index-pointers-position.is in
    let k = string_bytes r in
    let apart = λ (n : List ℕ) (j : In n (map (λ e. e.0) (entries_in m))).
    differ-before (map string_bytes ps) i k c.requires.distinct (slice-map string_bytes ps i r at) n
    (subst (λ (ks : List (List ℕ)). In n ks) (map-take string_bytes i ps)
    (entered-names own c.args.document.now c.in_ok-shared.shared.value (map string_bytes (take i ps)) (take i c.args.starts.now) (entries_in m) c.loop-position.invariant n j)) in
    ap (entry_at m) c.as_str-pointer.ensures.value ∙ same-found m.validators.entries k ∙ absent (entries_in m) k apart

pub loop-position-preserved : goal.loop-position-preserved
loop-position-preserved g c =
    let ps = c.args.pointers.now in
    let starts = c.args.starts.now in
    let i = c.loop-position.position in
    let r = c.index-pointers-position.result in
    let o = c.start_at-start.result in
    let own = documents_shared c.args.registry.now in
    let document = c.args.document.now in
    let schemas = c.in_ok-shared.shared.value in
    let old = entries_in c.loop-position.map in
    let new = entries_in c.put.new.map in
    let within : i < length starts = omega (arith, c.loop-position-test.true, c.requires.long) in
    let texts : map string_bytes (take (i + 1) ps) ≡ map string_bytes (take i ps) ++ string_bytes r ∷ [] =
    ap (map string_bytes) (take_more ps i r c.loop-position-test.true ∙ ap (λ x. take i ps ++ x ∷ []) (sym c.index-pointers-position.is)) ∙ map-append string_bytes (take i ps) (r ∷ []) in
    let taken : take (i + 1) starts ≡ take i starts ++ o ∷ [] =
    take_more starts i o within ∙ ap (λ x. take i starts ++ x ∷ []) (get_or_from_slice_get starts i o o c.start_at-start.ensures) in
    let one = subst (λ (k : List ℕ). PutsPlace own document schemas k o old new) c.as_str-pointer.ensures.value c.in_ok-put.ensures in
    let all = entered-more own document schemas (map string_bytes (take i ps)) (take i starts) old new (string_bytes r) o c.loop-position.invariant one in
    subst (λ os. Enters own document schemas (map string_bytes (take (i + 1) ps)) os new) (sym taken)
    (subst (λ ks. Enters own document schemas ks (take i starts ++ o ∷ []) new) (sym texts) all)

pub returns : goal.returns
returns g c =
    let ps = c.args.pointers.now in
    let starts = c.args.starts.now in
    let i = c.loop-position.position in
    let own = documents_shared c.args.registry.now in
    let document = c.args.document.now in
    let es = entries_in c.loop-position.map in
    let all : length ps ≤ i = omega (arith, c.loop-position-test.false) in
    let all_starts : length starts ≤ i = omega (arith, c.loop-position-test.false, c.requires.long) in
    subst (λ (s : SchemaGraph _ _). Enters own document s (map string_bytes ps) starts es) c.in_ok-shared.ensures.ok
    (subst (λ os. Enters own document c.in_ok-shared.shared.value (map string_bytes ps) os es) (take_all i starts all_starts)
    (subst (λ ks. Enters own document c.in_ok-shared.shared.value (map string_bytes ks) (take i starts) es) (take_all i ps all) c.loop-position.invariant))
