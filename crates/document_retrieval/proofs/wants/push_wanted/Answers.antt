use Rattle.std.proofs.Common.{◌≡◌, ◌∙◌, ◌++◌, ◌∷◌, [], ℕ, List, ◌||◌, map, false, ap, sym, is_some, option_map, bytes_eq, append_assoc}
use Rattle.std.proofs.lemmas.List.{map-append}
use Rattle.schema_definitions.specs.Words.{listed}
use Rattle.document_index.specs.Indexes.{bearer_in}
use Rattle.document_index.specs.Seen.{standing_of}
use Rattle.schema_definitions.specs.Rounds.{further, wanted_at}
use Rattle.document_retrieval.specs.Known.{want_of, has_name, is_known_by}
use Rattle.document_retrieval.proofs.KnownLemmas.{further-first, or-in-turn}
use Rattle.document_retrieval.proofs.wants.push_wanted.Goals as goal

pub returns-in_ok-push : goal.returns-in_ok-push
returns-in_ok-push c = λ rest.
    let w = c.in-Some.want in
    let index = c.args.index.now in
    let old = is_known_by index c.args.names.now in
    let new = is_known_by index c.put.new.self in
    let before = map want_of c.args.wants.now.items in
    let unknown : old w.uri.value ≡ false = ap old (sym c.deref.ensures) ∙ ap old (sym c.as_str.ensures.value) ∙ sym c.is_known.ensures ∙ c.if-not-is_known.true in
    let also : (q : List ℕ) → new q ≡ (old q || bytes_eq w.uri.value q) = λ q.
    ap (λ b. is_some (bearer_in index q) || b) (c.in_ok-put.ensures q ∙ ap (λ t. has_name c.args.names.now q || bytes_eq t q) (c.as_str-then-not-is_known.ensures.value ∙ c.deref-then-not-is_known.ensures))
    ∙ or-in-turn (is_some (bearer_in index q)) (has_name c.args.names.now q) (bytes_eq w.uri.value q) in
    let pushed : map want_of c.push.new.self.items ≡ before ++ want_of w ∷ [] = ap (map want_of) c.in_ok-push.ensures.items ∙ map-append want_of c.args.wants.now.items (w ∷ []) in
    let met : want_of w ∷ [] ≡ wanted_at (standing_of c.args.standing.now) = ap (λ o. listed (option_map want_of o)) (sym c.in-Some.is) ∙ c.in_ok-want.ensures in
    ap (λ l. l ++ further new rest) pushed
    ∙ append_assoc before (want_of w ∷ []) (further new rest)
    ∙ ap (λ l. before ++ l) (further-first old new (want_of w) unknown also rest)
    ∙ ap (λ l. before ++ further old (l ++ rest)) met
