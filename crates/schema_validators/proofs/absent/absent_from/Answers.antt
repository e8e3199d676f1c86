use Rattle.std.proofs.Common.{◌≡◌, ◌∙◌, ℕ, List, ◌||◌, map, ap, sym, is_some, option_map, take, subst, arith}
use Rattle.std.proofs.lemmas.List.{take_all}
use Rattle.std.specs.List.{AllZip, flat_map}
use Rattle.schema_definitions.specs.Bearers.{bears, standings, meta}
use Rattle.schema_definitions.specs.Rounds.{is_added, is_at_hand}
use Rattle.document_index.specs.Located.{Located, located_standings, last_located, kept_of}
use Rattle.document_index.specs.Seen.{document_of, standing_of, located_of}
use Rattle.document_index.proofs.AnswerLemmas.{last-of-located}
use Rattle.document_index.proofs.LocatedLemmas.{stand-located}
use Rattle.document_retrieval.proofs.KnownLemmas.{borne}
use Rattle.schema_validators.specs.Absent.{NamesAbsent, absent_at, is_known_by}
use Rattle.schema_validators.proofs.AbsentLemmas.{absent-same}
use Rattle.schema_validators.proofs.absent.absent_from.Goals as goal

pub returns : goal.returns
returns c =
    let docs = map document_of c.args.documents.now in
    let told = meta docs in
    let places = c.in_ok-places.places.items in
    let index = c.in_ok-index.index in
    let stand : map standing_of places ≡ standings told docs = stand-located told docs places c.in_ok-places.ensures in
    let last = λ (q : List ℕ). last_located (bears q) (located_standings told docs) in
    let known : (q : List ℕ) → is_known_by index docs q ≡ is_at_hand told docs q = λ q.
    ap (λ o. is_some o || is_added docs q) (c.in_ok-index.ensures.by_uri q ∙ ap (λ ls. option_map kept_of (last_located (bears q) ls)) (ap (map located_of) c.deref.ensures.value ∙ c.in_ok-places.ensures))
    ∙ ap (λ b. b || is_added docs q) (borne kept_of (λ (l : Located). l.standing) (last q))
    ∙ ap (λ o. is_some o || is_added docs q) (sym (last-of-located told (bears q) docs)) in
    let i = c.loop-standing.standing-index in
    let seen = c.deref-standing-items.result.now in
    let whole : take i seen ≡ seen = take_all i seen (omega arith) in
    subst (λ l. AllZip NamesAbsent l c.loop-standing.causes.items)
    (ap (λ ps. flat_map (absent_at (is_known_by index docs)) (map standing_of ps)) (whole ∙ c.deref-standing-items.ensures.value)
    ∙ ap (flat_map (absent_at (is_known_by index docs))) stand
    ∙ absent-same (is_known_by index docs) (is_at_hand told docs) known (standings told docs))
    c.loop-standing.invariant
