-- Members whose names a pattern matches, and those that are not declared, one after another.
use Rattle.std.proofs.Common.{◌≡◌, ◌++◌, ◌∙◌, ℕ, List, [], ◌∷◌, Bool, true, false, Some, None, map, cond, not, refl, sym, ap, append_assoc}
use Rattle.std.specs.List.{filter}
use Rattle.serde_json.specs.Data.{Data, null, boolean, number, string, array, object, Members}
use Rattle.serde_json.specs.Find.{as_object}
use Rattle.json_values.specs.Patterns.{matched}
use Rattle.schema_meaning.specs.Places.{to_member}
use Rattle.schema_meaning.specs.Questions.{Question, question, at, at_name, listed_members, members_of, Declared, is_declared, each_member}
use Rattle.applicators.specs.Shapes.{others_among}
use Rattle.applicators.specs.Matching.{matching_members, by_patterns}

pub none_matching : {S : Type 0} (matches : List ℕ → List ℕ → Bool) (keyword : List ℕ) (ps : List (List ℕ × S)) → by_patterns matches keyword [] ps ≡ []
none_matching matches keyword [] = refl
none_matching matches keyword (p ∷ ps) = none_matching matches keyword ps

pub members_given : (d : Data) (ms : Members) → Some ms ≡ as_object d → members_of d ≡ listed_members ms
members_given null ms h = cc
members_given (boolean b) ms h = cc
members_given (number n) ms h = cc
members_given (string t) ms h = cc
members_given (array ds) ms h = cc
members_given (object ns) ms h = cc

pub members_none : (d : Data) → None ≡ as_object d → members_of d ≡ []
members_none null h = refl
members_none (boolean b) h = refl
members_none (number n) h = refl
members_none (string t) h = refl
members_none (array ds) h = refl
members_none (object ms) h = cc

-- once the question of a member is asked whose name the pattern matches
pub matched_step : {S : Type 0} (matches : List ℕ → List ℕ → Bool) (s : S) (pattern k keyword : List ℕ) (e : Data) (left more : List (List ℕ × Data)) (all done next : List (Question S))
    → left ≡ (k, e) ∷ more → matched matches pattern k ≡ true → all ≡ done ++ matching_members matches keyword s pattern left
    → next ≡ done ++ question s (to_member k e) (at_name keyword pattern) ∷ [] → all ≡ next ++ matching_members matches keyword s pattern more
matched_step {S} matches s pattern k keyword e left more all done next is yes_it_is h asked =
    let ask : List ℕ × Data → Question S = λ m. question s (to_member m.0 m.1) (at_name keyword pattern) in
    h ∙ ap (λ ms. done ++ matching_members matches keyword s pattern ms) is
    ∙ ap (λ b. done ++ map ask (cond b ((k, e) ∷ filter (λ m. matched matches pattern m.0) more) (filter (λ m. matched matches pattern m.0) more))) yes_it_is
    ∙ sym (append_assoc done (ask (k, e) ∷ []) (matching_members matches keyword s pattern more))
    ∙ ap (λ qs. qs ++ matching_members matches keyword s pattern more) (sym asked)

-- once the question of a member is asked that is not declared
pub others_step : {S : Type 0} (matches : List ℕ → List ℕ → Bool) (w : Declared) (keyword : List ℕ) (s : S) (k : List ℕ) (e : Data) (left more : List (List ℕ × Data)) (all done next : List (Question S))
    → left ≡ (k, e) ∷ more → is_declared matches w k ≡ false → all ≡ done ++ each_member keyword s (others_among matches w left)
    → next ≡ done ++ question s (to_member k e) (at keyword) ∷ [] → all ≡ next ++ each_member keyword s (others_among matches w more)
others_step {S} matches w keyword s k e left more all done next is other h asked =
    h ∙ ap (λ ms. done ++ each_member keyword s (others_among matches w ms)) is
    ∙ ap (λ b. done ++ each_member keyword s (cond (not b) ((k, e) ∷ others_among matches w more) (others_among matches w more))) other
    ∙ sym (append_assoc done (question s (to_member k e) (at keyword) ∷ []) (each_member keyword s (others_among matches w more)))
    ∙ ap (λ qs. qs ++ each_member keyword s (others_among matches w more)) (sym asked)
