-- Dialects that count as alike are the same.
use Rattle.std.proofs.Common.{◌≡◌, ◌∙◌, ℕ, zero, suc, List, [], ◌∷◌, Bool, true, false, ◌&&◌, nat_eq, bytes_eq, Option, Some, None, refl, sym, ap, ap₂}
use Rattle.std.proofs.lemmas.Bool.{false≢true, eqb-true, eq-eqb}
use Rattle.std.proofs.lemmas.Slice.Eq.{bytes_eq-Decides}
use Rattle.schema_drafts.specs.Vocabularies.{Vocabulary, core, applicator, unevaluated, validation, metadata, format, format_annotation, format_assertion, content, custom, Vocabularies, all_of_draft, only, the_known, number_of, uri_of, is_same}
use Rattle.schema_drafts.specs.declared.draft.Draft.{Draft}
use Rattle.schema_drafts.specs.declared.draft.Draft.TheVariants.{Draft4, Draft6, Draft7, Draft201909, Draft202012, Unknown}
use Rattle.schema_definitions.specs.Places.{Dialect}
use Rattle.schema_definitions.specs.DocumentCauses.{number_of_draft, are_listed_alike, are_alike, are_both, is_told_alike}
use Rattle.document_laws.specs.Stages.{ToldAlikeIsSame}

first_so : (a b : Bool) → (a && b) ≡ true → a ≡ true
first_so true b h = refl
first_so false b h = absurd (false≢true h)

second_so : (a b : Bool) → (a && b) ≡ true → b ≡ true
second_so true b h = h
second_so false b h = absurd (false≢true h)

both_so : (a b : Bool) → a ≡ true → b ≡ true → (a && b) ≡ true
both_so a b g h = ap₂ (λ x y. x && y) g h

-- ---- drafts and vocabularies by their numbers

-- the one of that number, or else this
numbered : {X : Type 0} → X → List X → ℕ → X
numbered x [] n = x
numbered x (y ∷ ys) zero = y
numbered x (y ∷ ys) (suc n) = numbered x ys n

draft_of : ℕ → Draft
draft_of n = numbered Unknown (Draft4 ∷ Draft6 ∷ Draft7 ∷ Draft201909 ∷ Draft202012 ∷ []) n

back : (d : Draft) → draft_of (number_of_draft d) ≡ d
unfolding draft_of numbered
back Draft4 = refl
back Draft6 = refl
back Draft7 = refl
back Draft201909 = refl
back Draft202012 = refl
back Unknown = refl

same_draft : (d e : Draft) → nat_eq (number_of_draft d) (number_of_draft e) ≡ true → d ≡ e
same_draft d e h = sym (back d) ∙ ap draft_of (eqb-true (number_of_draft d) (number_of_draft e) h) ∙ back e

vocabulary_of : ℕ → List ℕ → Vocabulary
vocabulary_of n uri = numbered (custom uri) the_known n

again : (v : Vocabulary) → vocabulary_of (number_of v) (uri_of v) ≡ v
unfolding vocabulary_of numbered
again core = refl
again applicator = refl
again unevaluated = refl
again validation = refl
again metadata = refl
again format = refl
again format_annotation = refl
again format_assertion = refl
again content = refl
again (custom uri) = refl

same_vocabulary : (v w : Vocabulary) → is_same v w ≡ true → v ≡ w
same_vocabulary v w h =
    let kinds = first_so (nat_eq (number_of v) (number_of w)) (bytes_eq (uri_of v) (uri_of w)) h in
    let uris = second_so (nat_eq (number_of v) (number_of w)) (bytes_eq (uri_of v) (uri_of w)) h in
    sym (again v)
    ∙ ap₂ (λ n uri. vocabulary_of n uri) (eqb-true (number_of v) (number_of w) kinds) ((bytes_eq-Decides (uri_of v) (uri_of w)).0 uris)
    ∙ again w

itself : (v : Vocabulary) → is_same v v ≡ true
itself v = both_so (nat_eq (number_of v) (number_of v)) (bytes_eq (uri_of v) (uri_of v)) (eq-eqb (number_of v) (number_of v) refl) ((bytes_eq-Decides (uri_of v) (uri_of v)).1 refl)

-- ---- dialects

same_list : (vs ws : List Vocabulary) → are_listed_alike vs ws ≡ true → vs ≡ ws
same_list [] [] h = refl
same_list [] (w ∷ ws) h = absurd (false≢true h)
same_list (v ∷ vs) [] h = absurd (false≢true h)
same_list (v ∷ vs) (w ∷ ws) h =
    ap₂ (λ x xs. x ∷ xs) (same_vocabulary v w (first_so (is_same v w) (are_listed_alike vs ws) h)) (same_list vs ws (second_so (is_same v w) (are_listed_alike vs ws) h))

list_itself : (vs : List Vocabulary) → are_listed_alike vs vs ≡ true
list_itself [] = refl
list_itself (v ∷ vs) = both_so (is_same v v) (are_listed_alike vs vs) (itself v) (list_itself vs)

same_vocabularies : (vs ws : Vocabularies) → are_alike vs ws ≡ true → vs ≡ ws
same_vocabularies all_of_draft all_of_draft h = refl
same_vocabularies all_of_draft (only ws) h = absurd (false≢true h)
same_vocabularies (only vs) all_of_draft h = absurd (false≢true h)
same_vocabularies (only vs) (only ws) h = ap only (same_list vs ws h)

vocabularies_themselves : (vs : Vocabularies) → are_alike vs vs ≡ true
vocabularies_themselves all_of_draft = refl
vocabularies_themselves (only vs) = list_itself vs

same_siblings : (a b : Bool) → are_both a b ≡ true → a ≡ b
same_siblings true true h = refl
same_siblings true false h = absurd (false≢true h)
same_siblings false true h = absurd (false≢true h)
same_siblings false false h = refl

siblings_themselves : (b : Bool) → are_both b b ≡ true
siblings_themselves true = refl
siblings_themselves false = refl

of_draft : Draft → Vocabularies → Bool → Dialect
of_draft draft vs siblings = record { draft = draft; vocabularies = vs; siblings = siblings }

same_dialect : (o p : Option Dialect) → is_told_alike o p ≡ true → o ≡ p
unfolding of_draft
same_dialect None None h = refl
same_dialect None (Some e) h = absurd (false≢true h)
same_dialect (Some d) None h = absurd (false≢true h)
same_dialect (Some d) (Some e) h =
    let drafts : Bool = nat_eq (number_of_draft d.draft) (number_of_draft e.draft) in
    let vocabularies : Bool = are_alike d.vocabularies e.vocabularies in
    let siblings : Bool = are_both d.siblings e.siblings in
    let both = first_so (drafts && vocabularies) siblings h in
    ap₂ (λ x y. Some (of_draft x y d.siblings)) (same_draft d.draft e.draft (first_so drafts vocabularies both))
    (same_vocabularies d.vocabularies e.vocabularies (second_so drafts vocabularies both))
    ∙ ap (λ z. Some (of_draft e.draft e.vocabularies z)) (same_siblings d.siblings e.siblings (second_so (drafts && vocabularies) siblings h))

dialect_itself : (o : Option Dialect) → is_told_alike o o ≡ true
dialect_itself None = refl
dialect_itself (Some d) =
    let drafts : Bool = nat_eq (number_of_draft d.draft) (number_of_draft d.draft) in
    let vocabularies : Bool = are_alike d.vocabularies d.vocabularies in
    both_so (drafts && vocabularies) (are_both d.siblings d.siblings)
    (both_so drafts vocabularies (eq-eqb (number_of_draft d.draft) (number_of_draft d.draft) refl) (vocabularies_themselves d.vocabularies))
    (siblings_themselves d.siblings)

pub told_alike_is_same : ToldAlikeIsSame
told_alike_is_same o p = (same_dialect o p, λ e. ap (is_told_alike o) (sym e) ∙ dialect_itself o)
