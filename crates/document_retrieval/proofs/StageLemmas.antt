-- Answers one after another, and rounds one after another.
use Rattle.std.proofs.Common.{◌≡◌, ◌+◌, ◌⊎◌, inl, inr, Result, Ok, Err, IfErr, IsErrAnd, List, [], ◌∷◌, ◌++◌, map, length, refl, sym, ap, subst, ◌∙◌, append-nil, append_assoc}
use Rattle.std.specs.List.{AllByRecursion}
use Rattle.std.proofs.lemmas.List.{map-append, length-append, length-map}
use Rattle.schema_meaning.specs.Members.{In, first, later}
use Rattle.schema_definitions.specs.Bearers.{Document, Documents}
use Rattle.document_sources.specs.Causes.{IsMemory}
use Rattle.document_sources.specs.declared.error.Error.{Error}
use Rattle.schema_definitions.specs.Rounds.{Want, Asking, IsRound, AreRounds, gathered, retrieved}
use Rattle.document_retrieval.specs.Stages.{documents_in, uris_in, MayAnswer, HasAnswer, HasAnswers, AnswersNothing}
use Rattle.document_retrieval.specs.declared.rounds.Retrieved.{Retrieved}

all-push : {X : Type 0} (P : X → Type 0) (xs : List X) (x : X) → AllByRecursion P xs → P x → AllByRecursion P (xs ++ x ∷ [])
all-push P [] x a p = (p, tt)
all-push P (y ∷ xs) x a p = (a.0, all-push P xs x a.1 p)

in-before : {A : Type 0} {x : A} (xs ys : List A) → In x xs → In x (xs ++ ys)
in-before [] ys h = elim h [ ]
in-before (x ∷ xs) ys first = first
in-before (y ∷ xs) ys (later h) = later (in-before xs ys h)

in-last : {A : Type 0} (x : A) (xs : List A) → In x (xs ++ x ∷ [])
in-last x [] = first
in-last x (y ∷ xs) = later (in-last x xs)

-- one of a list that begins so
pub in-front : {A B : Type 0} (f : A → B) (x : A) (xs front rest : List A) → front ++ x ∷ [] ≡ rest → (tail : List A) → rest ++ tail ≡ xs → In (f x) (map f xs)
in-front f x xs front rest begins tail whole =
    subst (λ l. In (f x) (map f l)) whole
    (subst (λ l. In (f x) l) (sym (map-append f rest tail))
    (in-before (map f rest) (map f tail)
    (subst (λ l. In (f x) (map f l)) begins (subst (λ l. In (f x) l) (sym (map-append f front (x ∷ []))) (in-last (f x) (map f front))))))

pub no-answers : (a : Asking) (r : Retrieved) → HasAnswers a [] r r
no-answers a r = record { answers = []; asked = refl; answered = tt; documents = sym (append-nil (documents_in r)); uris = sym (append-nil (uris_in r)) }

pub more-answers : (a : Asking) (ws : List Want) (w : Want) (old now new : Retrieved) → HasAnswers a ws old now → HasAnswer a w now new → HasAnswers a (ws ++ w ∷ []) old new
more-answers a ws w old now new all one = record {
  answers = all.answers ++ one.answer ∷ [];
  asked =
      map-append (λ (d : Document). d.uri) all.answers (one.answer ∷ [])
      ∙ ap (λ l. l ++ one.answer.uri ∷ []) all.asked
      ∙ ap (λ u. map (λ (v : Want). v.uri) ws ++ u ∷ []) one.is.uri
      ∙ sym (map-append (λ (v : Want). v.uri) ws (w ∷ []));
  answered = all-push (MayAnswer a) all.answers one.answer all.answered one.is.may;
  documents = one.documents ∙ ap (λ l. l ++ one.answer ∷ []) all.documents ∙ append_assoc (documents_in old) all.answers (one.answer ∷ []);
  uris =
      one.uris
      ∙ ap (λ l. l ++ w.uri ∷ []) all.uris
      ∙ append_assoc (uris_in old) (map (λ (v : Want). v.uri) ws) (w.uri ∷ [])
      ∙ ap (λ l. uris_in old ++ l) (sym (map-append (λ (v : Want). v.uri) ws (w ∷ [])));
}

pub how-many : (a : Asking) (ws : List Want) (old new : Retrieved) → HasAnswers a ws old new → length (uris_in new) ≡ length (uris_in old) + length ws
how-many a ws old new all =
    ap length all.uris ∙ length-append (uris_in old) (map (λ (v : Want). v.uri) ws) ∙ ap (λ n. length (uris_in old) + n) (length-map ws (λ (v : Want). v.uri))

-- ---- one round more

pub rounds-push : (a : Asking) (docs : Documents) (rounds : List Documents) (answers : Documents)
    → AreRounds a docs rounds → IsRound a (gathered docs rounds) answers → AreRounds a docs (rounds ++ answers ∷ [])
rounds-push a docs [] answers are is = (is, tt)
rounds-push a docs (r ∷ rounds) answers are is = (are.0, rounds-push a (docs ++ r) rounds answers are.1 is)

pub gathered-push : (docs : Documents) (rounds : List Documents) (answers : Documents) → gathered docs (rounds ++ answers ∷ []) ≡ gathered docs rounds ++ answers
gathered-push docs [] answers = refl
gathered-push docs (r ∷ rounds) answers = gathered-push (docs ++ r) rounds answers

pub retrieved-push : (rounds : List Documents) (answers : Documents) → retrieved (rounds ++ answers ∷ []) ≡ retrieved rounds ++ map (λ d. d.uri) answers
retrieved-push [] answers = append-nil (map (λ (d : Document). d.uri) answers)
retrieved-push (r ∷ rounds) answers =
    ap (λ l. map (λ (d : Document). d.uri) r ++ l) (retrieved-push rounds answers) ∙ sym (append_assoc (map (λ (d : Document). d.uri) r) (retrieved rounds) (map (λ (d : Document). d.uri) answers))

-- ---- where nothing may be answered

none-answered : (a : Asking) (answers : Documents) → AnswersNothing a → AllByRecursion (MayAnswer a) answers → answers ≡ []
none-answered a [] nothing answered = refl
none-answered a (d ∷ answers) nothing answered = absurd (nothing d.uri d.contents answered.0.0)

pub gathered-alone : (a : Asking) (docs : Documents) (rounds : List Documents) → AnswersNothing a → AreRounds a docs rounds → gathered docs rounds ≡ docs
gathered-alone a docs [] nothing are = refl
gathered-alone a docs (answers ∷ rounds) nothing are =
    gathered-alone a (docs ++ answers) rounds nothing are.1 ∙ ap (λ l. docs ++ l) (none-answered a answers nothing are.0.answered) ∙ append-nil docs

pub retrieved-alone : (a : Asking) (docs : Documents) (rounds : List Documents) → AnswersNothing a → AreRounds a docs rounds → retrieved rounds ≡ []
retrieved-alone a docs [] nothing are = refl
retrieved-alone a docs (answers ∷ rounds) nothing are =
    ap (λ l. map (λ (d : Document). d.uri) l ++ retrieved rounds) (none-answered a answers nothing are.0.answered) ∙ retrieved-alone a (docs ++ answers) rounds nothing are.1

-- ---- errors

pub memory-or : {P Q : Type 0} (e : Error) → (P → Q) → IsMemory e ⊎ P → IsMemory e ⊎ Q
memory-or e f (inl m) = inl m
memory-or e f (inr p) = inr (f p)

-- the error of a call is that of the call inside
pub kept : {X : Type 0} (r : Result X Error) (e : Error) (P : Error → Type 0) → IsErrAnd r (λ x. x ≡ e) → P e → IfErr r P
kept (Ok v) e P is h = absurd is
kept (Err x) e P is h = subst P (sym is) h
