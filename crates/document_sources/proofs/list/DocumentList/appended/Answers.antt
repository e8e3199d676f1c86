use Rattle.std.proofs.Common.{◌≡◌, ◌∙◌, ◌++◌, ◌∷◌, [], map, ap, arith, length, rules, sym, bytes_eq, if◌then◌else◌, Some, string_bytes}
use Rattle.std.proofs.Math.Logic.{∥∥₁_map}
use Rattle.std.proofs.lemmas.Grind.{common_steps}
use Rattle.std.proofs.lemmas.List.{length-map, map-append}
use Rattle.std.proofs.lemmas.Map.Text.{btree_map_updates_text}
use Rattle.std.specs.BTreeMap.{get_by_text, Updates}
use Rattle.std.specs.String.{string_cmp}
use Rattle.document_sources.specs.Given.{position_in, are_given_apart}
use Rattle.document_sources.specs.Seen.{given_of}
use Rattle.document_sources.specs.Listed.{givens_of}
use Rattle.document_sources.proofs.Positions.{with_given-appended, position_in-appended}
use Rattle.document_sources.proofs.Apart.{with_given-apart}
use Rattle.document_sources.proofs.list.DocumentList.appended.Goals as goal

pub invariant_of-result : goal.invariant_of-result
invariant_of-result c =
    let items : c.push.new.self.items ≡ c.args.self.documents.items = search rules in
    record {
      placed = ∥∥₁_map c.args.self.placed (λ known. λ q. known q ∙ ap (λ ds. position_in (map given_of ds) q) (sym items));
      apart = ap (λ ds. are_given_apart (map given_of ds)) items ∙ c.args.self.apart;
    }

pub invariant_of-result-then-is_err-2 : goal.invariant_of-result-then-is_err-2
invariant_of-result-then-is_err-2 c =
    let items : c.push.new.self.items ≡ c.args.self.documents.items ++ c.args.document ∷ [] = search rules in
    let rest : c.pop.new.self.items ≡ c.args.self.documents.items = grind (arith, common_steps) in
    let same : c.insert.new.self.entries ≡ c.args.self.positions.entries = search rules in
    record {
      placed = ∥∥₁_map c.args.self.placed (λ known. λ q. rw same (known q ∙ ap (λ ds. position_in (map given_of ds) q) (sym rest)));
      apart = ap (λ ds. are_given_apart (map given_of ds)) rest ∙ c.args.self.apart;
    }

pub invariant_of-result-2 : goal.invariant_of-result-2
invariant_of-result-2 c =
    let gs = givens_of c.args.self in
    let g = given_of c.args.document in
    let items : c.push.new.self.items ≡ c.args.self.documents.items ++ c.args.document ∷ [] = search rules in
    let text : string_bytes c.in-Ok.key ≡ g.uri = search rules in
    let same = length-map c.args.self.documents.items given_of in
    let updates : Updates string_cmp c.args.self.positions c.insert.new.self c.in-Ok.key (Some c.len-position.result) = search rules in
    let count : c.len-position.result ≡ length gs = omega (arith, same, c.len-position.ensures, c.args.self.documents.ok.0) in
    let grown : map given_of c.push.new.self.items ≡ gs ++ g ∷ [] =
    ap (map given_of) items ∙ map-append given_of c.args.self.documents.items (c.args.document ∷ []) in
    record {
      placed = ∥∥₁_map c.args.self.placed (λ known. λ q.
          btree_map_updates_text (string_bytes c.in-Ok.key) c.args.self.positions c.insert.new.self _ updates q
          ∙ ap (λ u. if bytes_eq u q then Some c.len-position.result else get_by_text c.args.self.positions q) text
          ∙ ap (λ n. if bytes_eq g.uri q then Some n else get_by_text c.args.self.positions q) count
          ∙ ap (λ o. if bytes_eq g.uri q then Some (length gs) else o) (known q)
          ∙ sym (position_in-appended gs g q c.requires)
          ∙ ap (λ hs. position_in hs q) (sym grown));
      apart = ap are_given_apart (grown ∙ sym (with_given-appended gs g c.requires)) ∙ with_given-apart gs g c.args.self.apart;
    }

pub returns-clause-ok : goal.returns-clause-ok
returns-clause-ok c =
    let gs = givens_of c.args.self in
    let g = given_of c.args.document in
    let items : c.push.new.self.items ≡ c.args.self.documents.items ++ c.args.document ∷ [] = search rules in
    ap (map given_of) items ∙ map-append given_of c.args.self.documents.items (c.args.document ∷ []) ∙ sym (with_given-appended gs g c.requires)
