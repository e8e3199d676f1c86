-- The loops over a keyword's questions.
use Rattle.std.proofs.Common.{◌≡◌, ◌<◌, ◌≤◌, ◌+◌, ◌∙◌, ℕ, suc, List, ◌∷◌, Bool, true, false, ◌&&◌, map, drop, length, get_or, refl, sym, ap, subst, arith}
use Rattle.std.proofs.lemmas.List.{drop_more}
use Rattle.schema_meaning.specs.Members.{count_true, one_if}
use Rattle.schema_meaning.specs.Keywords.{Shape}
use Rattle.schema_engine.specs.declared.node.Node.{Node}
use Rattle.schema_engine.specs.declared.place.Place.{Place}
use Rattle.schema_engine.specs.declared.place.Question.{Question}
use Rattle.schema_engine.specs.declared.combination.Combination.{Combination}
use Rattle.schema_engine.specs.Matches.{Answers}
use Rattle.schema_engine.specs.Places.{value_at}
use Rattle.schema_engine.specs.Questions.{Call, call_of}
use Rattle.schema_engine.specs.Rules.{all_beside, passes, chosen_by_first, combined}
use Rattle.schema_engine.specs.Graphs.{reading_of, rank_at}
use Rattle.schema_engine.specs.Verdicts.{Setting, Fits, Tells, asked_in, size}
use Rattle.schema_engine.proofs.Left.{EachLeft, CountLeft}

pub calls_next : (qs : List Question) (i : ℕ) (q : Question) → i < length qs → q ≡ get_or qs i q → map call_of (drop i qs) ≡ call_of q ∷ map call_of (drop (i + 1) qs)
calls_next qs i q high is = ap (map call_of) (drop_more qs i q high ∙ ap (λ y. y ∷ drop (i + 1) qs) (sym is))

passes_same : (b c x : Bool) → b ≡ c → passes b c x ≡ x
passes_same true true x e = refl
passes_same true false x e = absurd (cc)
passes_same false true x e = absurd (cc)
passes_same false false x e = refl

passes_other : (b c x : Bool) → (b ≡ c → ⊥) → passes b c x ≡ true
passes_other true true x e = absurd (e refl)
passes_other true false x e = refl
passes_other false true x e = refl
passes_other false false x e = absurd (e refl)

module _ {K : Type 0} (shape : K → Shape ℕ) (matches : Answers) (nodes : List (Node K)) (node : ℕ) (p : Place) (progress : List ℕ) where
  abbrev told : Question → Setting → Bool
  told q x = asked_in (reading_of shape matches nodes) x (call_of q)

  abbrev answer : (Setting → Bool) → Bool → Type 0
  answer = Tells p progress (size nodes (value_at p) progress (rank_at nodes node))

  module _ (all qs : List Question) (i : ℕ) (q : Question) (high : i < length qs) (is : q ≡ get_or qs i q) where
    module _ (beside : Bool) (left : EachLeft shape matches nodes node p progress beside all (drop i qs)) where
      -- the answer to a question beside, and to the rest
      each_next : (x : Setting) → Fits p progress x → size nodes (value_at p) progress (rank_at nodes node) ≤ x.depth
          → all_beside (asked_in (reading_of shape matches nodes) x) beside (map call_of all)
          ≡ (passes q.beside beside (asked_in (reading_of shape matches nodes) x (call_of q)) && all_beside (asked_in (reading_of shape matches nodes) x) beside (map call_of (drop (i + 1) qs)))
      each_next x fits deep = left.left x fits deep ∙ ap (all_beside (asked_in (reading_of shape matches nodes) x) beside) (calls_next qs i q high is)

      pub each_yes : q.beside ≡ beside → answer (told q) true → EachLeft shape matches nodes node p progress beside all (drop (i + 1) qs)
      each_yes same taken = record {
        left = λ x fits deep.
            each_next x fits deep
            ∙ ap (λ b. b && all_beside (asked_in (reading_of shape matches nodes) x) beside (map call_of (drop (i + 1) qs))) (passes_same q.beside beside _ same ∙ sym (taken.same x fits deep));
      }

      pub each_skipped : (q.beside ≡ beside → ⊥) → EachLeft shape matches nodes node p progress beside all (drop (i + 1) qs)
      each_skipped other = record {
        left = λ x fits deep.
            each_next x fits deep
            ∙ ap (λ b. b && all_beside (asked_in (reading_of shape matches nodes) x) beside (map call_of (drop (i + 1) qs))) (passes_other q.beside beside _ other);
      }

      pub each_no : q.beside ≡ beside → answer (told q) false → answer (λ x. all_beside (asked_in (reading_of shape matches nodes) x) beside (map call_of all)) false
      each_no same refused = record {
        same = λ x fits deep.
            sym (each_next x fits deep
            ∙ ap (λ b. b && all_beside (asked_in (reading_of shape matches nodes) x) beside (map call_of (drop (i + 1) qs))) (passes_same q.beside beside _ same ∙ sym (refused.same x fits deep)));
      }

    module _ (count : ℕ) (left : CountLeft shape matches nodes node p progress all (drop i qs) count) where
      count_next : (x : Setting) → Fits p progress x → size nodes (value_at p) progress (rank_at nodes node) ≤ x.depth
          → count_true (map (asked_in (reading_of shape matches nodes) x) (map call_of all))
          ≡ one_if (asked_in (reading_of shape matches nodes) x (call_of q)) (count_true (map (asked_in (reading_of shape matches nodes) x) (map call_of (drop (i + 1) qs)))) + count
      count_next x fits deep = left.left x fits deep ∙ ap (λ cs. count_true (map (asked_in (reading_of shape matches nodes) x) cs) + count) (calls_next qs i q high is)

      pub count_yes : answer (told q) true → CountLeft shape matches nodes node p progress all (drop (i + 1) qs) (count + 1)
      count_yes taken = record {
        left = λ x fits deep.
            (let e = count_next x fits deep ∙ ap (λ b. one_if b (count_true (map (asked_in (reading_of shape matches nodes) x) (map call_of (drop (i + 1) qs)))) + count) (sym (taken.same x fits deep)) in
            e ∙ moved (count_true (map (asked_in (reading_of shape matches nodes) x) (map call_of (drop (i + 1) qs)))) count);
      }
        where
          moved : (n m : ℕ) → suc n + m ≡ n + (m + 1)
          moved n m = omega arith

      pub count_no : answer (told q) false → CountLeft shape matches nodes node p progress all (drop (i + 1) qs) count
      count_no refused = record {
        left = λ x fits deep.
            count_next x fits deep ∙ ap (λ b. one_if b (count_true (map (asked_in (reading_of shape matches nodes) x) (map call_of (drop (i + 1) qs)))) + count) (sym (refused.same x fits deep));
      }

    -- beside the answer to the first
    pub chosen_by : (b c : Bool) → answer (told q) c → answer (λ x. all_beside (asked_in (reading_of shape matches nodes) x) c (map call_of (drop (i + 1) qs))) b
        → answer (λ x. chosen_by_first (asked_in (reading_of shape matches nodes) x) (map call_of (drop i qs))) b
    chosen_by b c first rest = record {
      same = λ x fits deep.
          rest.same x fits deep
          ∙ ap (λ a. all_beside (asked_in (reading_of shape matches nodes) x) a (map call_of (drop (i + 1) qs))) (first.same x fits deep)
          ∙ sym (ap (chosen_by_first (asked_in (reading_of shape matches nodes) x)) (calls_next qs i q high is));
    }

  pub combined_by : (calls : List Call) (k j : Combination) (b : Bool) → k ≡ j → answer (λ x. combined j (asked_in (reading_of shape matches nodes) x) calls) b
      → answer (λ x. combined k (asked_in (reading_of shape matches nodes) x) calls) b
  combined_by calls k j b is told = subst (λ c. answer (λ x. combined c (asked_in (reading_of shape matches nodes) x) calls) b) (sym is) told
