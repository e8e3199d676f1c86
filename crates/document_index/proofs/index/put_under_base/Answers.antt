use Rattle.std.proofs.Common.{◌≡◌, ◌∙◌, ap, Some, string_bytes, if◌then◌else◌, bytes_eq, rules}
use Rattle.std.proofs.lemmas.Result.{on_ok_weaker}
use Rattle.document_index.specs.Located.{kept_of}
use Rattle.document_index.specs.Seen.{located_of}
use Rattle.document_index.proofs.NamedLemmas.{named-nothing, under-found, under-nothing, anchor-put}
use Rattle.document_index.proofs.index.put_under_base.Goals as goal

pub returns-in-Some : goal.returns-in-Some
returns-in-Some c =
    let base = c.args.standing.now.place.base.value in
    let name = c.args.name.now in
    let k = kept_of (located_of c.args.standing.now) in
    let text : c.as_str.result.now ≡ base = search rules in
    let found = under-found c.args.by_anchor.now c.in-Some.names.now base c.as_str.result.now text c.in-Some.ensures.value in
    let put = (c.get_mut.follows.holds c.put.new.names).3 (search rules) in
    on_ok_weaker c.put.result
    (λ inner. anchor-put base name c.as_str.result.now c.args.by_anchor.now (c.get_mut.follows.lender c.put.new.names) c.put.new.names k text put
    (λ q. inner q ∙ ap (λ o. if bytes_eq name q then Some k else o) (found q)))
    c.put.ensures

pub returns : goal.returns
returns c =
    let base = c.args.standing.now.place.base.value in
    let name = c.args.name.now in
    let k = kept_of (located_of c.args.standing.now) in
    let sought : c.as_str.result.now ≡ base = search rules in
    let text : string_bytes c.in_ok-from_str.field-0 ≡ base = search rules in
    let nothing = under-nothing c.args.by_anchor.now base c.as_str.result.now sought c.in_default.ensures.value in
    let put = rw c.get_mut.follows.holds-at-none at c.in_ok-insert.ensures.updates in
    anchor-put base name (string_bytes c.in_ok-from_str.field-0) c.args.by_anchor.now c.insert.new.self c.put-2.new.names k text put
    (λ q. c.in_ok-put.ensures q ∙ ap (λ o. if bytes_eq name q then Some k else o) (named-nothing c.new-names.result c.new-names.ensures.empty q ∙ nothing q))
