-- The step of a certificate by a keyword behind whose name something is left.
use Rattle.std.proofs.Common.{◌≡◌, ◌∙◌, ◌++◌, ℕ, List, [], ◌∷◌, All, Bool, true, false, true≢false, Bor, Option, None, Some, is_some, not, ◌||◌, refl, sym, ap, subst, append-nil, length, ◌+◌, ◌<◌, length-append, arith}
use Rattle.serde_json.specs.Data.{Data, boolean, depth}
use Rattle.json_values.specs.Parts.{Part}
use Rattle.json_values.specs.Pointers.{escape}
use Rattle.schema_meaning.specs.Members.{In, first, later}
use Rattle.schema_meaning.specs.Places.{whole, value_after, path_after}
use Rattle.schema_meaning.specs.Questions.{Question, at}
use Rattle.schema_meaning.specs.Rules.{Note, Rule, every, obliged, refuses_at}
use Rattle.schema_meaning.specs.Readings.{Reading}
use Rattle.schema_meaning.specs.Certificates.{AreAnswers}
use Rattle.schema_definitions.specs.Sites.{Site}
use Rattle.schema_definitions.specs.PathTexts.{path_text}
use Rattle.certificate_laws.specs.Spelled.{AreSpelled, AreSpelledBy, refuses, goes}
use Rattle.serde_json.specs.View.{view}
use Rattle.fault_checks.specs.Passed.{Finds}
use Rattle.fault_checks.specs.Passed.{AsksInside}
use Rattle.fault_checks.specs.Passed as code
use Rattle.fault_checks.specs.Passed.{Keyword}
use Rattle.serde_json.specs.Find.{unescape}
use Rattle.json_pointers.proofs.EscapeLemmas.{unescape-escape}
use Rattle.certificate_laws.specs.Words.{cuts, cuts_behind, IsRest, nothing}
use Rattle.certificate_laws.proofs.Cuts.{NotSlash, cut_is, cut_joined, cuts_first, escape_no_slash}
use Rattle.fault_checks.specs.declared.walk.Step.{Step}
use Rattle.fault_checks.specs.declared.walk.Step.TheVariants.{Answered, On, Named}
use Rattle.fault_paths.specs.Texts.{text_left}
use Rattle.fault_paths.proofs.TextFacts.{rest_left, tail_is, behind_same, no_part}
use Rattle.fault_checks.specs.Verdicts.{LiesIn}
use Rattle.fault_checks.specs.Steps.{IsMore, IsDone, Ends, IsNotLonger, IsShorter}

-- a name that is written as it is
pub name_text : (k n : List ℕ) → k ≡ n → escape n ≡ n → path_text (at k) ≡ 47 ∷ n
name_text k n same plain = ap (λ x. path_text (at x)) same ∙ ap (λ t. 47 ∷ t) (append-nil (escape n) ∙ plain)

-- a question that leads on
pub record Goes (r : Reading Site) (d : Data) (qs : List (Question Site)) (i e : List ℕ) : Type 0 where
  pub question : Question Site
  pub asked : In question qs
  pub instance : List ℕ
  pub evaluation : List ℕ
  pub under : AreSpelled r question.site (value_after d question.step) instance evaluation
  pub at_instance : i ≡ path_text (path_after [] question.step) ++ instance
  pub on_evaluation : e ≡ path_text question.added ++ evaluation

-- by a rule whose obliged steps are these, whatever is answered
pub going_by : (r : Reading Site) (d : Data) (k : Rule Site) (qs : List (Question Site)) (i e : List ℕ) → ((bs : List Bool) → obliged k bs ≡ qs)
    → ((bs : List Bool) → i ≡ [] → e ≡ path_text (refuses_at k bs) → ⊥) → AreSpelledBy r d (k ∷ []) i e → Goes r d qs i e
going_by r d k qs i e obliges own (refuses _ bs first a wrong at_i on_e) = absurd (own bs at_i on_e)
going_by r d k qs i e obliges own (refuses l bs (later j) a wrong at_i on_e) = elim j [ ]
going_by r d k qs i e obliges own (goes _ bs q x y first a o under at_i on_e) =
    record { question = q; asked = subst (λ ks. In q ks) (obliges bs) o; instance = x; evaluation = y; under = under; at_instance = at_i; on_evaluation = on_e }
going_by r d k qs i e obliges own (goes l bs q x y (later j) a o under at_i on_e) = elim j [ ]

pub gone_by : (r : Reading Site) (d : Data) (k : Rule Site) (qs : List (Question Site)) (i e : List ℕ) (bs : List Bool) → ((bs : List Bool) → obliged k bs ≡ qs)
    → AreAnswers r (whole d) k bs → Goes r d qs i e → AreSpelledBy r d (k ∷ []) i e
gone_by r d k qs i e bs obliges a g =
    goes k bs g.question g.instance g.evaluation first a (subst (λ ks. In g.question ks) (sym (obliges bs)) g.asked) g.under g.at_instance g.on_evaluation

pub going : (r : Reading Site) (d : Data) (p : List Part) (notes : List Note) (qs : List (Question Site)) (i e : List ℕ) → (i ≡ [] → e ≡ path_text p → ⊥)
    → AreSpelledBy r d (every p notes qs ∷ []) i e → Goes r d qs i e
going r d p notes qs i e own h = going_by r d (every p notes qs) qs i e (λ bs. refl) (λ bs. own) h

pub gone : (r : Reading Site) (d : Data) (p : List Part) (notes : List Note) (qs : List (Question Site)) (i e : List ℕ) (bs : List Bool)
    → AreAnswers r (whole d) (every p notes qs) bs → Goes r d qs i e → AreSpelledBy r d (every p notes qs ∷ []) i e
gone r d p notes qs i e bs a g = gone_by r d (every p notes qs) qs i e bs (λ bs. refl) a g

-- a text goes on behind one name alone
pub one_begun : (n m rest : List ℕ) (after : Option (Bor (List ℕ))) → escape n ≡ n → IsRest rest → 47 ∷ (n ++ text_left after) ≡ 47 ∷ (escape m ++ rest) → (n ≡ m) × (text_left after ≡ rest)
one_begun n m rest after plain is_rest e =
    let clean : All NotSlash n = subst (All NotSlash) plain (escape_no_slash n) in
    let both = cut_is (n ++ text_left after) n (text_left after) (escape m) rest (cuts_first n (text_left after) clean (rest_left after)) (rest_left after) (escape_no_slash m) is_rest (tail_is 47 _ _ e) in
    (sym (unescape-escape n) ∙ ap unescape (plain ∙ both.0) ∙ unescape-escape m, both.1)

-- where something is left, the keyword is not the last, under whichever name
pub not_named : (instance after : Option (Bor (List ℕ))) (n m : List ℕ) → IsMore instance after → escape n ≡ n → text_left instance ≡ [] → 47 ∷ (n ++ text_left after) ≡ path_text (at m) → ⊥
not_named instance after n m more plain none is = more.more none (one_begun n m [] after plain nothing is).1

-- where something is left, the keyword is not the last
pub not_last : (instance after : Option (Bor (List ℕ))) (k n : List ℕ) → IsMore instance after → k ≡ n → escape n ≡ n
    → text_left instance ≡ [] → 47 ∷ (n ++ text_left after) ≡ path_text (at k) → ⊥
not_last instance after k n m same plain none is =
    m.more none (behind_same n (text_left after) [] (tail_is 47 (n ++ text_left after) (n ++ []) (is ∙ name_text k n same plain ∙ ap (λ t. 47 ∷ t) (sym (append-nil n)))))

-- whether something is left of two paths
pub more_by : (instance after : Option (Bor (List ℕ))) (b : Bool) → b ≡ (is_some instance || is_some after) → b ≡ true → IsMore instance after
more_by (Some t) after b is e = record { more = λ none other. no_part 47 t.now none }
more_by None (Some t) b is e = record { more = λ other none. no_part 47 t.now none }
more_by None None b is e = absurd (true≢false (sym e ∙ is))

pub done_by : (instance after : Option (Bor (List ℕ))) (b : Bool) → b ≡ (is_some instance || is_some after) → b ≡ false → IsDone instance after
done_by (Some t) after b is e = absurd (true≢false (sym is ∙ e))
done_by None (Some t) b is e = absurd (true≢false (sym is ∙ e))
done_by None None b is e = record { no_instance = refl; no_after = refl }

none_text : (o : Option (Bor (List ℕ))) (b : Bool) → is_some o ≡ not b → b ≡ true → text_left o ≡ []
none_text None b is e = refl
none_text (Some t) b is e = absurd (true≢false (is ∙ ap not e))

text_none : (o : Option (Bor (List ℕ))) (b : Bool) → is_some o ≡ not b → text_left o ≡ [] → b ≡ true
text_none None true is e = refl
text_none None false is e = absurd (true≢false (sym is))
text_none (Some t) b is e = absurd (no_part 47 t.now e)

pub none_here : (d : Data) (instance : Option (Bor (List ℕ))) (b : Bool) → d ≡ boolean false → is_some instance ≡ not b → Ends d instance b
none_here d instance b is same = record {
  ends = λ e. (is, none_text instance b same e);
  only = λ e none. text_none instance b same none;
}

pub not_false_here : (d : Data) (instance : Option (Bor (List ℕ))) → (d ≡ boolean false → ⊥) → Ends d instance false
not_false_here d instance other = record { ends = λ e. absurd (true≢false (sym e)); only = λ e none. absurd (other e) }

-- ---- less is left

pub shorter_by : (step : Step) (text token : List ℕ) (after : Option (Bor (List ℕ))) → cuts text ≡ token ∷ cuts_behind (text_left after) → IsNotLonger after step → IsShorter (47 ∷ text) step
shorter_by (Answered b) text token after cut h = tt
shorter_by (On w) text token after cut h =
    let joined : length text ≡ length token + length (text_left after) = ap length (cut_joined text token (text_left after) cut (rest_left after)) ∙ length-append token (text_left after) in
    omega (arith, h, joined)
shorter_by (Named n) text token after cut h =
    let joined : length text ≡ length token + length (text_left after) = ap length (cut_joined text token (text_left after) cut (rest_left after)) ∙ length-append token (text_left after) in
    omega (arith, h, joined)

pub shorter_at : (step : Step) (t u : List ℕ) → t ≡ u → IsShorter u step → IsShorter t step
shorter_at step t u e h = subst (λ x. IsShorter x step) (sym e) h

pub lies_in : (c : code.Site) (d : Data) (k : Keyword) → Finds c d k → depth d < depth (view c.contents.now) → AsksInside c k → LiesIn c k
lies_in c d code.Nothing f h i = tt
lies_in c d (code.Assertion a) f h i = tt
lies_in c d (code.Pattern p) f h i = tt
lies_in c d (code.If schema then_schema else_schema) f h i = record { inside = subst (λ e. depth e < depth (view c.contents.now)) f h; beside = i }
lies_in c d (code.Consequent k schema) f h i = tt
lies_in c d (code.Applicator a) f h i = record { by_answers = f; inside = i }
lies_in c d (code.Reference by text target) f h i = f
