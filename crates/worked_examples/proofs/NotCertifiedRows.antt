-- Places without a certificate: whatever it would begin with leads elsewhere.
use Rattle.std.proofs.Common.{◌≡◌, ℕ, List, [], ◌∷◌, codes, Bool, true, false, Option, Some, None, refl, ap, sym, ◌∙◌}
use Rattle.std.specs.List.{AllByRecursion}
use Rattle.json_values.specs.Pointers.{replace_escape}
use Rattle.schema_meaning.specs.Members.{In, first, later, known_too, all_true}
use Rattle.json_values.specs.Parts.{Part, name, index}
use Rattle.schema_meaning.specs.Places.{Spot, stay, to_item, to_member, whole}
use Rattle.schema_meaning.specs.Questions.{at, question, asked_at}
use Rattle.schema_meaning.specs.Cut.{same_path}
use Rattle.schema_meaning.specs.Certificates.{Certificate, ends, leads}
use Rattle.worked_examples.specs.Forms.{natural, text, list_of, object_of, reading_of, pointer}
use Rattle.worked_examples.specs.Certified.{IsNotCertified, not_certified_examples, two_documents, two_branches, negated, conditioned, at_most_one, no_others}

false_is_not_true : false ≡ true → ⊥
false_is_not_true e = cc

-- paths that differ
apart : (p q : List Part) → p ≡ q → same_path p q ≡ false → same_path q q ≡ true → ⊥
apart p q e other itself = false_is_not_true (sym other ∙ (ap (λ x. same_path x q) e ∙ itself))

none_in : {A : Type 0} {x : A} → In x [] → ⊥
none_in h = elim h [ ]

-- ---- [1] by the two documents

abbrev at_item : Spot
at_item = asked_at {S = ℕ} (whole (list_of (natural 1 ∷ []))) (question 1 (to_item 0 (natural 1)) (at (codes "items")))

abbrev at_leaf : Spot
at_leaf = asked_at {S = ℕ} at_item (record { site = 2; step = stay; added = at (codes "$ref"); follows = true })

or_nothing : Option (List Bool) → List Bool
or_nothing None = []
or_nothing (Some bs) = bs

no_answers : (bs : List Bool) → Some [] ≡ Some bs → all_true bs ≡ false → ⊥
unfolding or_nothing
no_answers bs e wrong = false_is_not_true (sym wrong ∙ ap (λ o. all_true (or_nothing o)) (sym e))

leaf_is_below : {i e : List Part} → Certificate (reading_of two_documents []) 2 at_leaf i e → i ≡ [] → ⊥
unfolding replace_escape
leaf_is_below (ends k bs first a x) p = apart (index 0 ∷ []) [] p refl refl
leaf_is_below (ends k bs (later h) a x) p = none_in h
leaf_is_below (leads k bs q first a o c) p = none_in o
leaf_is_below (leads k bs q (later h) a o c) p = none_in h

item_is_below : {i e : List Part} → Certificate (reading_of two_documents []) 1 at_item i e → i ≡ [] → ⊥
unfolding replace_escape
item_is_below (ends k bs first a x) p = apart (index 0 ∷ []) [] p refl refl
item_is_below (ends k bs (later h) a x) p = none_in h
item_is_below (leads k bs q first a first c) p = leaf_is_below c p
item_is_below (leads k bs q first a (later o) c) p = none_in o
item_is_below (leads k bs q (later h) a o c) p = none_in h

the_list_is_an_array : {i e : List Part} → Certificate (reading_of two_documents []) 0 (whole (list_of (natural 1 ∷ []))) i e → i ≡ [] → e ≡ name (codes "type") ∷ [] → ⊥
unfolding replace_escape
the_list_is_an_array (ends k bs first a x) p e = apart (name (codes "items") ∷ []) (name (codes "type") ∷ []) e refl refl
the_list_is_an_array (ends k bs (later first) a x) p e = apart (name (codes "minItems") ∷ []) (name (codes "type") ∷ []) e refl refl
the_list_is_an_array (ends k bs (later (later first)) a x) p e = no_answers bs a.are x
the_list_is_an_array (ends k bs (later (later (later h))) a x) p e = none_in h
the_list_is_an_array (leads k bs q first a first c) p e = item_is_below c p
the_list_is_an_array (leads k bs q first a (later o) c) p e = none_in o
the_list_is_an_array (leads k bs q (later first) a o c) p e = none_in o
the_list_is_an_array (leads k bs q (later (later first)) a o c) p e = none_in o
the_list_is_an_array (leads k bs q (later (later (later h))) a o c) p e = none_in h

leaf_is_longer : {i e : List Part} → Certificate (reading_of two_documents []) 2 at_leaf i e → e ≡ name (codes "items") ∷ [] → ⊥
unfolding replace_escape
leaf_is_longer (ends k bs first a x) e = apart (pointer "/items/$ref/type") (name (codes "items") ∷ []) e refl refl
leaf_is_longer (ends k bs (later h) a x) e = none_in h
leaf_is_longer (leads k bs q first a o c) e = none_in o
leaf_is_longer (leads k bs q (later h) a o c) e = none_in h

item_is_longer : {i e : List Part} → Certificate (reading_of two_documents []) 1 at_item i e → e ≡ name (codes "items") ∷ [] → ⊥
unfolding replace_escape
item_is_longer (ends k bs first a x) e = apart (pointer "/items/$ref") (name (codes "items") ∷ []) e refl refl
item_is_longer (ends k bs (later h) a x) e = none_in h
item_is_longer (leads k bs q first a first c) e = leaf_is_longer c e
item_is_longer (leads k bs q first a (later o) c) e = none_in o
item_is_longer (leads k bs q (later h) a o c) e = none_in h

no_keyword_there : {i e : List Part} → Certificate (reading_of two_documents []) 0 (whole (list_of (natural 1 ∷ []))) i e → i ≡ index 0 ∷ [] → e ≡ name (codes "items") ∷ [] → ⊥
unfolding replace_escape
no_keyword_there (ends k bs h a x) p e = apart [] (index 0 ∷ []) p refl refl
no_keyword_there (leads k bs q first a first c) p e = item_is_longer c e
no_keyword_there (leads k bs q first a (later o) c) p e = none_in o
no_keyword_there (leads k bs q (later first) a o c) p e = none_in o
no_keyword_there (leads k bs q (later (later first)) a o c) p e = none_in o
no_keyword_there (leads k bs q (later (later (later h))) a o c) p e = none_in h

-- ---- 1 by {"anyOf":[{"type":"string"},{"type":"integer"}]} and by {"not":{"type":"integer"}}

no_single_branch : {i e : List Part} → Certificate (reading_of two_branches []) 0 (whole (natural 1)) i e
    → e ≡ pointer "/anyOf/0/type" → ⊥
unfolding replace_escape
no_single_branch (ends k bs first a x) e = apart (name (codes "anyOf") ∷ []) (pointer "/anyOf/0/type") e refl refl
no_single_branch (ends k bs (later h) a x) e = none_in h
no_single_branch (leads k bs q first a o c) e = none_in o
no_single_branch (leads k bs q (later h) a o c) e = none_in h

nothing_below_not : {i e : List Part} → Certificate (reading_of negated []) 0 (whole (natural 1)) i e → e ≡ pointer "/not/type" → ⊥
unfolding replace_escape
nothing_below_not (ends k bs first a x) e = apart (name (codes "not") ∷ []) (pointer "/not/type") e refl refl
nothing_below_not (ends k bs (later h) a x) e = none_in h
nothing_below_not (leads k bs q first a o c) e = none_in o
nothing_below_not (leads k bs q (later h) a o c) e = none_in h

-- ---- 3 by {"if":{"minimum":0},"then":{"multipleOf":2}}

some_answer : {A : Type 0} (o : Option A) (os : Option (List A)) → known_too o os ≡ Some [] → ⊥
some_answer None os e = cc
some_answer (Some b) None e = cc
some_answer (Some b) (Some bs) e = cc

then_is_longer : {i e : List Part} → Certificate (reading_of conditioned []) 2 (asked_at {S = ℕ} (whole (natural 3)) (question 2 stay (at (codes "then")))) i e → e ≡ name (codes "if") ∷ [] → ⊥
unfolding replace_escape
then_is_longer (ends k bs first a x) e = apart (pointer "/then/multipleOf") (name (codes "if") ∷ []) e refl refl
then_is_longer (ends k bs (later h) a x) e = none_in h
then_is_longer (leads k bs q first a o c) e = none_in o
then_is_longer (leads k bs q (later h) a o c) e = none_in h

if_refuses_nothing : {i e : List Part} → Certificate (reading_of conditioned []) 0 (whole (natural 3)) i e → e ≡ name (codes "if") ∷ [] → ⊥
unfolding replace_escape
if_refuses_nothing (ends k [] first a x) e = some_answer _ _ a.are
if_refuses_nothing (ends k (true ∷ bs) first a x) e = apart (name (codes "then") ∷ []) (name (codes "if") ∷ []) e refl refl
if_refuses_nothing (ends k (false ∷ bs) first a x) e = apart (name (codes "else") ∷ []) (name (codes "if") ∷ []) e refl refl
if_refuses_nothing (ends k bs (later h) a x) e = none_in h
if_refuses_nothing (leads k [] q first a o c) e = none_in o
if_refuses_nothing (leads k (true ∷ bs) q first a first c) e = then_is_longer c e
if_refuses_nothing (leads k (true ∷ bs) q first a (later o) c) e = none_in o
if_refuses_nothing (leads k (false ∷ bs) q first a o c) e = none_in o
if_refuses_nothing (leads k bs q (later h) a o c) e = none_in h

-- ---- ["a"] by {"contains":{"type":"integer"},"maxContains":1}

the_group_has_one_name : {i e : List Part} → Certificate (reading_of at_most_one []) 0 (whole (list_of (text "a" ∷ []))) i e → e ≡ name (codes "contains") ∷ [] → ⊥
unfolding replace_escape
the_group_has_one_name (ends k bs first a x) e = apart (name (codes "maxContains") ∷ []) (name (codes "contains") ∷ []) e refl refl
the_group_has_one_name (ends k bs (later h) a x) e = none_in h
the_group_has_one_name (leads k bs q first a o c) e = none_in o
the_group_has_one_name (leads k bs q (later h) a o c) e = none_in h

-- ---- {"a":1,"b":1} by {"properties":{"a":true},"additionalProperties":false}

abbrev both_members : Spot
both_members = whole (object_of (("a", natural 1) ∷ ("b", natural 1) ∷ []))

other_is_elsewhere : {i e : List Part} → Certificate (reading_of no_others []) 1 (asked_at {S = ℕ} both_members (question 1 (to_member (codes "b") (natural 1)) (at (codes "additionalProperties")))) i e
    → i ≡ name (codes "a") ∷ [] → ⊥
unfolding replace_escape
other_is_elsewhere (ends k bs first a x) p = apart (name (codes "b") ∷ []) (name (codes "a") ∷ []) p refl refl
other_is_elsewhere (ends k bs (later h) a x) p = none_in h
other_is_elsewhere (leads k bs q first a o c) p = none_in o
other_is_elsewhere (leads k bs q (later h) a o c) p = none_in h

true_refuses_nothing : {w : Spot} {i e : List Part} → Certificate (reading_of no_others []) 2 w i e → ⊥
unfolding replace_escape
true_refuses_nothing (ends k bs h a x) = none_in h
true_refuses_nothing (leads k bs q h a o c) = none_in h

declared_is_no_other : {i e : List Part} → Certificate (reading_of no_others []) 0 both_members i e → i ≡ name (codes "a") ∷ [] → ⊥
unfolding replace_escape
declared_is_no_other (ends k bs h a x) p = apart [] (name (codes "a") ∷ []) p refl refl
declared_is_no_other (leads k bs q first a first c) p = other_is_elsewhere c p
declared_is_no_other (leads k bs q first a (later o) c) p = none_in o
declared_is_no_other (leads k bs q (later first) a first c) p = true_refuses_nothing c
declared_is_no_other (leads k bs q (later first) a (later o) c) p = none_in o
declared_is_no_other (leads k bs q (later (later h)) a o c) p = none_in h

pub not_certified_hold : AllByRecursion IsNotCertified not_certified_examples
unfolding replace_escape
not_certified_hold = (
  (λ c. the_list_is_an_array c refl refl),
  (
    (λ c. no_keyword_there c refl refl),
    (
      (λ c. no_single_branch c refl),
      (
        (λ c. nothing_below_not c refl),
        (
          (λ c. if_refuses_nothing c refl),
          (
            (λ c. the_group_has_one_name c refl),
            (
              (λ c. declared_is_no_other c refl),
              tt,
            ),
          ),
        ),
      ),
    ),
  ),
)
