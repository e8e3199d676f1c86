-- Questions of two keywords, pushed a member at a time.
use Rattle.std.proofs.Common.{◌≡◌, ◌∙◌, ◌++◌, ◌||◌, ℕ, List, [], ◌∷◌, map, Bool, true, false, refl, sym, ap, subst}
use Rattle.std.specs.List.{list_any}
use Rattle.serde_json.specs.Data.{Data}
use Rattle.json_values.specs.Patterns.{matched}
use Rattle.schema_meaning.specs.Members.{is_listed}
use Rattle.schema_meaning.specs.Questions.{Declared, is_declared}
use Rattle.schema_engine.specs.Matches.{Answers}
use Rattle.schema_engine.specs.Questions.{Call, call_of, Pushes}
use Rattle.schema_engine.specs.declared.place.Question.{Question}
use Rattle.schema_engine.proofs.Pushing.{LeavesToPush, push_next, push_done, pushes_both, pushes_nothing, pushes_one}
use Rattle.compiled_keywords.specs.Asked.{patterns_of}
use Rattle.compiled_keywords.specs.Forms.{form_of}
use Rattle.compiled_keywords.specs.Owned.{by_pattern, text_of}
use Rattle.compiled_keywords.specs.Paired.{member_call, matched_calls, unless_so, calls_of_member, calls_of_both}
use Rattle.compiled_keywords.specs.declared.asks.Asks.{Asks}
use Rattle.compiled_keywords.specs.declared.subschemas.Pattern.{Pattern}
use Rattle.compiled_keywords.specs.declared.subschemas.PatternNode.{PatternNode}

-- ---- the same patterns

pub same_next : (nodes more : List PatternNode) (patterns others : List Pattern) (n : PatternNode) (p : Pattern) → nodes ≡ n ∷ more → patterns ≡ p ∷ others
    → text_of n.pattern ≡ text_of p → patterns_of more ≡ map text_of others → patterns_of nodes ≡ map text_of patterns
same_next nodes more patterns others n p nodes_are patterns_are same rest = rw (nodes_are, patterns_are, same, rest) refl

-- ---- of one member, a pattern at a time

module _ (reads : Answers) (nodes more : List PatternNode) (p : PatternNode) (m : List ℕ × Data) (is : nodes ≡ p ∷ more) where
  pub matched_first : matched reads (by_pattern p).0 m.0 ≡ true
      → matched_calls reads (map by_pattern nodes) m ≡ member_call p.node m ∷ matched_calls reads (map by_pattern more) m
  matched_first so = ap (λ ns. matched_calls reads (map by_pattern ns) m) is ∙ rw so refl

  pub unmatched_first : matched reads (by_pattern p).0 m.0 ≡ false
      → matched_calls reads (map by_pattern nodes) m ≡ matched_calls reads (map by_pattern more) m
  unmatched_first so = ap (λ ns. matched_calls reads (map by_pattern ns) m) is ∙ rw so refl

  abbrev any_of : List PatternNode → Bool
  any_of ns = list_any (λ t. matched reads t m.0) (patterns_of ns)

  pub any_first : (all found : Bool) → all ≡ (found || any_of nodes) → matched reads (by_pattern p).0 m.0 ≡ true → all ≡ (true || any_of more)
  any_first all true so hit = so
  any_first all false so hit = so ∙ ap any_of is ∙ rw hit refl

  pub any_next : (all found : Bool) → all ≡ (found || any_of nodes) → matched reads (by_pattern p).0 m.0 ≡ false → all ≡ (found || any_of more)
  any_next all found so missed = so ∙ ap (λ ns. found || any_of ns) is ∙ rw missed refl

pub none_any : (found : Bool) → (found || false) ≡ found
none_any true = refl
none_any false = refl

pub leaves_next : (old mid new : List Question) (q : Question) (left more all : List Call) → left ≡ call_of q ∷ more → LeavesToPush old mid left all → new ≡ mid ++ q ∷ []
    → LeavesToPush old new more all
leaves_next old mid new q left more all is so e = push_next old mid new q more all (subst (λ cs. LeavesToPush old mid cs all) is so) e

pub leaves_same : (old new : List Question) (left more all : List Call) → left ≡ more → LeavesToPush old new left all → LeavesToPush old new more all
leaves_same old new left more all is so = subst (λ cs. LeavesToPush old new cs all) is so

pub leaves_done : (old new : List Question) (left all : List Call) → left ≡ [] → LeavesToPush old new left all → Pushes old new all
leaves_done old new left all none so = push_done old new all (leaves_same old new left [] all none so)

-- ---- of one member by both

either_way : (a b : Bool) → b ≡ true → (a || b) ≡ true
either_way true b h = refl
either_way false b h = h

module _ (reads : Answers) (w : Declared) (name : List ℕ) (nodes : List PatternNode) (pairs : patterns_of nodes ≡ w.patterns) where
  -- a pattern matches it
  pub declared_matched : true ≡ list_any (λ p. matched reads p name) (patterns_of nodes) → is_declared reads w name ≡ true
  declared_matched so = either_way (is_listed name w.names) _ (ap (list_any (λ p. matched reads p name)) (sym pairs) ∙ sym so)

  pub declared_named : true ≡ is_listed name w.names → is_declared reads w name ≡ true
  declared_named so = ap (λ b. b || list_any (λ p. matched reads p name) w.patterns) (sym so)

  pub not_declared : false ≡ list_any (λ p. matched reads p name) (patterns_of nodes) → false ≡ is_listed name w.names → is_declared reads w name ≡ false
  not_declared unmatched unnamed =
      ap (λ b. b || list_any (λ p. matched reads p name) w.patterns) (sym unnamed) ∙ ap (list_any (λ p. matched reads p name)) (sym pairs) ∙ sym unmatched

  module _ (e : Data) (s : ℕ) (old mid : List Question) (pushed : Pushes old mid (matched_calls reads (map by_pattern nodes) (name, e))) where
    pub member_declared : is_declared reads w name ≡ true → Pushes old mid (calls_of_member reads (map by_pattern nodes) w s (name, e))
    member_declared so =
        pushes_both old mid mid (matched_calls reads (map by_pattern nodes) (name, e)) _ pushed
        (subst (λ b. Pushes mid mid (unless_so b (member_call s (name, e)))) (sym so) (pushes_nothing mid))

    pub member_other : (new : List Question) (q : Question) → call_of q ≡ member_call s (name, e) → new ≡ mid ++ q ∷ [] → is_declared reads w name ≡ false
        → Pushes old new (calls_of_member reads (map by_pattern nodes) w s (name, e))
    member_other new q is one so =
        pushes_both old mid new (matched_calls reads (map by_pattern nodes) (name, e)) _ pushed
        (subst (λ b. Pushes mid new (unless_so b (member_call s (name, e)))) (sym so) (subst (λ c. Pushes mid new (c ∷ [])) is (pushes_one mid new q one)))

-- ---- by what two keywords ask

pub as_both : (reads : Answers) (d : Data) (old new : List Question) (x y v w : Asks) → x ≡ v → y ≡ w
    → Pushes old new (calls_of_both reads (form_of v) (form_of w) d) → Pushes old new (calls_of_both reads (form_of x) (form_of y) d)
as_both reads d old new x y v w one other h =
    subst (λ z. Pushes old new (calls_of_both reads (form_of z) (form_of y) d)) (sym one)
    (subst (λ z. Pushes old new (calls_of_both reads (form_of v) (form_of z) d)) (sym other) h)
