-- Patterns that are put behind others.
use Rattle.std.proofs.Common.{◌≡◌, ◌∙◌, ◌⊎◌, ℕ, List, [], ◌∷◌, ◌++◌, Bool, refl, sym, ap, ap₂, subst, append-nil, append_assoc, inl, inr, Bor}
use Rattle.std.proofs.lemmas.List.{map-append}
use Rattle.json_values.specs.Parts.{Part}
use Rattle.schema_meaning.specs.Members.{In, first, later}
use Rattle.schema_definitions.specs.Rows.{Place}
use Rattle.applicators.specs.Applied.{Applicator}
use Rattle.schema_sites.specs.Read.{patterns_in}
use Rattle.schema_sites.specs.declared.keyword.Keyword.{Keyword}
use Rattle.schema_sites.specs.declared.keyword.Keyword.TheVariants as keyword
use Rattle.reached_sites.specs.Patterns.{text_of, texts_of, place_with, Puts, RefusesPattern, TellsPattern}
use Rattle.reached_sites.specs.Places.{place_in}
use Rattle.reached_sites.specs.declared.cause.BuildCause.{BuildCause}
use Rattle.reached_sites.specs.declared.pattern.Pattern.{Pattern}
use Rattle.reached_sites.proofs.Listing.{in-either, in-one, none-in}

pub texts-behind : (qs rs : List Pattern) → texts_of (qs ++ rs) ≡ texts_of qs ++ texts_of rs
texts-behind qs rs = map-append text_of qs rs

pub in-texts : {q : Pattern} (qs : List Pattern) → In q qs → In (text_of q) (texts_of qs)
in-texts [] i = none-in i
in-texts (q ∷ qs) first = first
in-texts (q ∷ qs) (later i) = later (in-texts qs i)

module _ (at : Place) (parts : List ℕ → List Part) where
  pub puts-none : (old : List Pattern) → Puts at parts [] old old
  puts-none old = record { added = []; grown = sym (append-nil old); are = refl; places = λ q i. none-in i }

  pub puts-one : (old new : List Pattern) (q : Pattern) (p : List ℕ) → new ≡ old ++ q ∷ [] → text_of q ≡ p → place_in q.place ≡ place_with at (parts (text_of q)) → Puts at parts (p ∷ []) old new
  puts-one old new q p e is there = record {
    added = q ∷ [];
    grown = e;
    are = ap (λ (t : List ℕ). t ∷ []) is;
    places = λ r i. subst (λ (r : Pattern). place_in r.place ≡ place_with at (parts (text_of r))) (sym (in-one i)) there;
  }

  either-place : (xs ys : List Pattern) → ((q : Pattern) → In q xs → place_in q.place ≡ place_with at (parts (text_of q)))
      → ((q : Pattern) → In q ys → place_in q.place ≡ place_with at (parts (text_of q))) → (q : Pattern) → In q xs ⊎ In q ys → place_in q.place ≡ place_with at (parts (text_of q))
  either-place xs ys f g q (inl i) = f q i
  either-place xs ys f g q (inr i) = g q i

  pub puts-both : (a b c : List Pattern) (ps qs : List (List ℕ)) → Puts at parts ps a b → Puts at parts qs b c → Puts at parts (ps ++ qs) a c
  puts-both a b c ps qs x y = record {
    added = x.added ++ y.added;
    grown = y.grown ∙ ap (λ (l : List Pattern). l ++ y.added) x.grown ∙ append_assoc a x.added y.added;
    are = texts-behind x.added y.added ∙ ap₂ (λ (t u : List (List ℕ)). t ++ u) x.are y.are;
    places = λ q i. either-place x.added y.added x.places y.places q (in-either x.added y.added i);
  }

-- ---- what is made of them

-- ---- keywords without patterns

pub no-patterns : (k : Keyword) → ((p : Bor (List ℕ)) → k ≡ keyword.Pattern p → ⊥) → ((a : Applicator) → k ≡ keyword.Applicator a → ⊥) → patterns_in k ≡ []
no-patterns keyword.Nothing p a = refl
no-patterns (keyword.Assertion w) p a = refl
no-patterns (keyword.Pattern t) p a = absurd (p t refl)
no-patterns (keyword.If schema then_schema else_schema) p a = refl
no-patterns (keyword.Consequent k schema) p a = refl
no-patterns (keyword.Applicator w) p a = absurd (a w refl)
no-patterns (keyword.Reference r text target) p a = refl

-- ---- refused

pub refuses-more : (makes : List ℕ → Bool) (q : Pattern) (qs : List Pattern) (e : BuildCause) → In q qs → RefusesPattern makes (q ∷ []) e → RefusesPattern makes qs e
refuses-more makes q qs e i (inl m) = inl m
refuses-more makes q qs e i (inr r) = inr (r.0, subst (λ (p : Pattern). In p qs) (sym (in-one r.1)) i, r.2, r.3)

pub tells-more : (q : Pattern) (qs : List Pattern) (e : BuildCause) → In q qs → TellsPattern (q ∷ []) e → TellsPattern qs e
tells-more q qs e i (inl m) = inl m
tells-more q qs e i (inr r) = inr (r.0, subst (λ (p : Pattern). In p qs) (sym (in-one r.1)) i, r.2, r.3)
