-- Vocabularies and dialects that are the same.
use Rattle.std.proofs.Common.{◌≡◌, ◌∙◌, List, [], ◌∷◌, Bool, true, false, ◌&&◌, Option, None, Some, refl, sym, ap, ap₂}
use mathlib.Core.Bool.{beq}
use Rattle.std.proofs.lemmas.Bool.{false≢true}
use Rattle.std.specs.Prelude.{Decides}
use Rattle.std.specs.Option.{option_eq}
use Rattle.schema_drafts.specs.Vocabularies.{only, the_known}
use Rattle.schema_drafts.specs.declared.draft.Draft.TheVariants.{Unknown}
use Rattle.schema_dialects.specs.Sets.{flags, marked, required}
use Rattle.schema_dialects.specs.declared.known.KnownVocabularies.{KnownVocabularies}
use Rattle.schema_dialects.specs.declared.dialect.Dialect.{Dialect}
use Rattle.schema_dialects.proofs.Dialects.{same_dialects}

-- whether marks are the same one by one, the last ones too
all_same : Bool → List Bool → Bool → List Bool → Bool
all_same a [] b [] = beq a b
all_same a [] b (y ∷ ys) = false
all_same a (x ∷ xs) b [] = false
all_same a (x ∷ xs) b (y ∷ ys) = beq a b && all_same x xs y ys

same_bool : (a b : Bool) → beq a b ≡ true → a ≡ b
same_bool true true h = refl
same_bool true false h = absurd (false≢true h)
same_bool false true h = absurd (false≢true h)
same_bool false false h = refl

bool_itself : (a : Bool) → beq a a ≡ true
bool_itself true = refl
bool_itself false = refl

first_so : (a b : Bool) → (a && b) ≡ true → a ≡ true
first_so true b h = refl
first_so false b h = absurd (false≢true h)

second_so : (a b : Bool) → (a && b) ≡ true → b ≡ true
second_so true b h = h
second_so false b h = absurd (false≢true h)

same_marks : (a : Bool) (xs : List Bool) (b : Bool) (ys : List Bool) → all_same a xs b ys ≡ true → (a ∷ xs) ≡ (b ∷ ys)
unfolding all_same
same_marks a [] b [] h = ap (λ x. x ∷ []) (same_bool a b h)
same_marks a [] b (y ∷ ys) h = absurd (false≢true h)
same_marks a (x ∷ xs) b [] h = absurd (false≢true h)
same_marks a (x ∷ xs) b (y ∷ ys) h =
    ap₂ (λ c cs. c ∷ cs) (same_bool a b (first_so (beq a b) (all_same x xs y ys) h)) (same_marks x xs y ys (second_so (beq a b) (all_same x xs y ys) h))

marks_themselves : (a : Bool) (xs : List Bool) → all_same a xs a xs ≡ true
unfolding all_same
marks_themselves a [] = bool_itself a
marks_themselves a (x ∷ xs) = ap₂ (λ b c. b && c) (bool_itself a) (marks_themselves x xs)

with_known : KnownVocabularies → Dialect
with_known k = record { draft = Unknown; required = Some k; siblings = false }

same_known : (k j : KnownVocabularies) → flags k ≡ flags j → k ≡ j
unfolding with_known
same_known k j e =
    let required_same : required k ≡ required j = ap (λ bs. marked bs the_known) e in
    let dialects_same : Some (with_known k) ≡ Some (with_known j) = same_dialects (Some (with_known k)) (Some (with_known j)) (ap (λ vs. Some (record { draft = Unknown; vocabularies = only vs; siblings = false })) required_same) in
    let one : with_known k ≡ with_known j = cc in
    let held : Some k ≡ Some j = ap (λ (d : Dialect). d.required) one in
    cc

rest_of : KnownVocabularies → List Bool
rest_of k = k.applicator ∷ k.unevaluated ∷ k.validation ∷ k.metadata ∷ k.format ∷ k.format_annotation ∷ k.format_assertion ∷ k.content ∷ []

abbrev are_equal : KnownVocabularies → KnownVocabularies → Bool
are_equal k j =
    beq k.core j.core && (beq k.applicator j.applicator && (beq k.unevaluated j.unevaluated && (beq k.validation j.validation && (beq k.metadata j.metadata
    && (beq k.format j.format && (beq k.format_annotation j.format_annotation && (beq k.format_assertion j.format_assertion && beq k.content j.content)))))))

known_decided : (k j : KnownVocabularies) → Decides (are_equal k j) (k ≡ j)
unfolding all_same rest_of
known_decided k j = (
  λ e. same_known k j (same_marks k.core (rest_of k) j.core (rest_of j) e),
  λ e. ap (λ (x : KnownVocabularies). all_same k.core (rest_of k) x.core (rest_of x)) (sym e) ∙ marks_themselves k.core (rest_of k),
)

option_decided : {X : Type 0} (E : X → X → Bool) → ((x y : X) → Decides (E x y) (x ≡ y)) → (o p : Option X) → Decides (option_eq E o p) (o ≡ p)
option_decided E d None None = (λ e. refl, λ e. refl)
option_decided E d None (Some y) = (λ e. absurd (false≢true e), λ e. (let no : None ≡ Some y = e in cc))
option_decided E d (Some x) None = (λ e. absurd (false≢true e), λ e. (let no : Some x ≡ None = e in cc))
option_decided E d (Some x) (Some y) = (λ e. ap Some ((d x y).0 e), λ e. (let same : Some x ≡ Some y = e in let one : x ≡ y = cc in (d x y).1 one))

-- `==` of two decides whether they are one
pub equal_decides : (o p : Option KnownVocabularies) (b : Bool) → b ≡ option_eq are_equal o p → Decides b (o ≡ p)
equal_decides o p b is = (
  λ e. (option_decided are_equal known_decided o p).0 (sym is ∙ e),
  λ e. is ∙ (option_decided are_equal known_decided o p).1 e,
)
