use Rattle.std.proofs.Common.{◌≡◌, ◌∙◌, ◌++◌, [], ℕ, List, ◌||◌, map, ap, sym, is_some, append-nil, drop, arith}
use Rattle.std.proofs.lemmas.List.{drop_all}
use Rattle.std.specs.List.{flat_map}
use Rattle.schema_definitions.specs.Bearers.{bears, standings, bearer_under, meta}
use Rattle.document_index.specs.Located.{Located, located_standings, last_located, kept_of}
use Rattle.document_index.specs.Seen.{document_of, standing_of}
use Rattle.document_index.proofs.AnswerLemmas.{last-of-located}
use Rattle.document_index.proofs.LocatedLemmas.{stand-located}
use Rattle.schema_definitions.specs.Rounds.{further, wanted_at, is_at_hand, wants_under}
use Rattle.document_retrieval.specs.Known.{want_of, has_name, is_known_by}
use Rattle.document_retrieval.proofs.KnownLemmas.{further-same, borne}
use Rattle.document_retrieval.proofs.wants.wants_of.Goals as goal

pub returns : goal.returns
unfolding wants_under
returns c =
    let docs = map document_of c.args.documents.now in
    let told = meta docs in
    let places = c.args.survey.now.places.items in
    let index = c.args.survey.now.index in
    let names = c.in_ok-names.names in
    let surveys = c.requires in
    let stand : map standing_of places ≡ standings told docs = stand-located told docs places surveys.stand in
    let last = λ (q : List ℕ). last_located (bears q) (located_standings told docs) in
    let known : (q : List ℕ) → is_known_by index names q ≡ is_at_hand told docs q = λ q.
    ap (λ o. is_some o || has_name names q) (surveys.indexes.by_uri q)
    ∙ ap (λ b. b || has_name names q) (borne kept_of (λ (l : Located). l.standing) (last q))
    ∙ ap (λ o. is_some o || has_name names q) (sym (last-of-located told (bears q) docs))
    ∙ ap (λ b. is_some (bearer_under told docs q) || b) (c.in_ok-names.ensures q) in
    let i = c.loop-standing.standing-index in
    let found = map want_of c.loop-standing.wants.items in
    let seen = c.deref-standing-items.result.now in
    let none : drop i seen ≡ [] = drop_all i seen (omega arith) in
    sym (append-nil found)
    ∙ ap (λ l. found ++ further (is_known_by index c.loop-standing.names) (flat_map wanted_at (map standing_of l))) (sym none)
    ∙ c.loop-standing.invariant
    ∙ ap (λ l. further (is_known_by index names) (flat_map wanted_at l)) (ap (map standing_of) c.deref-standing-items.ensures.value ∙ stand)
    ∙ further-same (is_known_by index names) (is_at_hand told docs) known (flat_map wanted_at (standings told docs))
