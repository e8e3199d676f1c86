use Rattle.std.proofs.Common.{◌≡◌, ◌∙◌, ◌++◌, ◌∷◌, [], ◌+◌, map, take, option_map, ap, sym}
use Rattle.std.proofs.lemmas.List.{take_more, take_all, map-append}
use Rattle.schema_definitions.specs.Identifiers.{anchors, dynamic_anchors}
use Rattle.schema_definitions.specs.Bearers.{bears, bears_anchor}
use Rattle.document_index.specs.Located.{Located, kept_of, last_located}
use Rattle.document_index.specs.Seen.{located_of}
use Rattle.document_index.specs.Indexes.{bearer_in, anchored_in, dynamically_anchored_in, dynamic_names_in, dynamic_names_among}
use Rattle.document_index.proofs.LocatedLemmas.{map-through}
use Rattle.document_index.proofs.NamedLemmas.{last-push}
use Rattle.document_index.proofs.index.Index.of.Goals as goal

pub loop-standing-preserved : goal.loop-standing-preserved
loop-standing-preserved c =
    let i = c.loop-standing.standing-index in
    let xs = c.args.standings.now in
    let s = c.standing-item.result in
    let ls = map located_of (take i xs) in
    let more : map located_of (take (i + 1) xs) ≡ ls ++ located_of s ∷ [] =
    ap (map located_of) (take_more xs i s c.loop-standing-test.true ∙ ap (λ x. take i xs ++ x ∷ []) (sym c.standing-item.is)) ∙ map-append located_of (take i xs) (s ∷ []) in
    record {
      by_uri = λ q. c.in_ok-put_uris.ensures q ∙ last-push (bears q) ls (located_of s) _ (c.loop-standing.invariant.by_uri q) ∙ sym (ap (λ l. option_map kept_of (last_located (bears q) l)) more);
      by_anchor = λ b q. c.in_ok-put_anchors.ensures b q ∙ last-push (bears_anchor anchors b q) ls (located_of s) _ (c.loop-standing.invariant.by_anchor b q) ∙ sym (ap (λ l. option_map kept_of (last_located (bears_anchor anchors b q) l)) more);
      by_dynamic_anchor = λ b q. c.in_ok-put_dynamic_anchor.ensures b q ∙ last-push (bears_anchor dynamic_anchors b q) ls (located_of s) _ (c.loop-standing.invariant.by_dynamic_anchor b q) ∙ sym (ap (λ l. option_map kept_of (last_located (bears_anchor dynamic_anchors b q) l)) more);
    }

pub returns : goal.returns
unfolding bearer_in anchored_in dynamically_anchored_in dynamic_names_in
returns c =
    let whole = take_all c.loop-standing.standing-index c.args.standings.now c.loop-standing-test.false in
    record {
      by_uri = λ q. c.loop-standing.invariant.by_uri q ∙ ap (λ l. option_map kept_of (last_located (bears q) (map located_of l))) whole;
      by_anchor = λ b q. c.loop-standing.invariant.by_anchor b q ∙ ap (λ l. option_map kept_of (last_located (bears_anchor anchors b q) (map located_of l))) whole;
      by_dynamic_anchor = λ b q. c.loop-standing.invariant.by_dynamic_anchor b q ∙ ap (λ l. option_map kept_of (last_located (bears_anchor dynamic_anchors b q) (map located_of l))) whole;
      dynamic_names = c.in_ok-dynamic_names.ensures ∙ ap dynamic_names_among (sym (map-through (λ (l : Located). l.standing) located_of c.args.standings.now));
    }
