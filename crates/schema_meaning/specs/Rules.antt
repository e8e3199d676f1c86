-- How a keyword's verdict and faults come from the answers to its questions. Every keyword follows one of eight rules.
use Rattle.std.specs.Prelude.{ℕ, zero, suc, ◌==◌, nat_le, nat_lt, List, [], ◌∷◌, ◌++◌, map, Bool, true, false, not, ◌&&◌, Option, Some, None, codes, if◌then◌else◌}
use Rattle.serde_json.specs.Data.{Data}
use Rattle.schema_meaning.specs.Members.{is_empty, all_true, some_true, count_true}
use Rattle.json_values.specs.Parts.{Part}
use Rattle.schema_meaning.specs.Places.{Spot}
use Rattle.schema_meaning.specs.Faults.{Fault, fault, Kind, AnyOf, Contains, Not, OneOfMultipleValid, OneOfNotValid, PropertyNames, Faults, none, also, joined, join, is_none, Branches, branches_of}
use Rattle.schema_meaning.specs.Questions.{Question, at, each_name}

-- what is wrong by the value itself: the kind of fault and the value at fault
pub record Note : Type 0 where
  pub kind : Kind
  pub value : Data

pub data Rule (S : Type 0) : Type 0 where
  -- nothing is wrong by the value itself, and every answer is yes. A fault for each note, and those below
  every : List Part → List Note → List (Question S) → Rule S
  -- every answer is yes, else one fault for all
  together : List Part → Note → List (Question S) → Rule S
  -- every name is accepted by the schema. A fault of the object for each fault of a name
  each_named : List Part → S → List (List ℕ) → Rule S
  -- at least one answer is yes
  some_branch : List Part → List (Question S) → Rule S
  -- exactly one answer is yes
  one_branch : List Part → List (Question S) → Rule S
  -- the answer is no. The schema refused stands in the fault
  refusal : List Part → Data → Question S → Rule S
  -- the number of answers that are yes is at least the first bound, 1 without one, and at most the second
  counted : Option ℕ → Option ℕ → List (Question S) → Rule S
  -- the first question's answer chooses which of the others count: those that stand beside that answer
  conditional : Question S → List (Bool × Question S) → Rule S

-- ---- the questions, whatever is answered

abbrev pub consequents : {S : Type 0} → List (Bool × Question S) → List (Question S)
consequents cs = map (λ c. c.1) cs

abbrev pub asks : {S : Type 0} → Rule S → List (Question S)
asks (every p notes qs) = qs
asks (together p note qs) = qs
asks (each_named p s names) = each_name p s names
asks (some_branch p qs) = qs
asks (one_branch p qs) = qs
asks (refusal p schema q) = q ∷ []
asks (counted least most qs) = qs
asks (conditional q cs) = q ∷ consequents cs

-- ---- the verdict

abbrev pub is_enough : Option ℕ → ℕ → Bool
is_enough None n = nat_le 1 n
is_enough (Some least) n = nat_le least n

abbrev pub is_few : Option ℕ → ℕ → Bool
is_few None n = true
is_few (Some most) n = nat_le n most

abbrev pub if_same : {A : Type 0} → Bool → Bool → A → List A → List A
if_same true true x xs = x ∷ xs
if_same true false x xs = xs
if_same false true x xs = xs
if_same false false x xs = x ∷ xs

-- what stands beside the answer, of a list as long as the consequents
abbrev pub chosen : {S A : Type 0} → Bool → List (Bool × Question S) → List A → List A
chosen b [] xs = []
chosen b (c ∷ cs) [] = []
chosen b (c ∷ cs) (x ∷ xs) = if_same b c.0 x (chosen b cs xs)

abbrev pub accepts_chosen : {S : Type 0} → List (Bool × Question S) → List Bool → Bool
accepts_chosen cs [] = true
accepts_chosen cs (b ∷ bs) = all_true (chosen b cs bs)

-- the verdict by the answers to the questions, in order
abbrev pub accepts : {S : Type 0} → Rule S → List Bool → Bool
accepts (every p notes qs) bs = is_empty notes && all_true bs
accepts (together p note qs) bs = all_true bs
accepts (each_named p s names) bs = all_true bs
accepts (some_branch p qs) bs = some_true bs
accepts (one_branch p qs) bs = count_true bs == 1
accepts (refusal p schema q) bs = not (all_true bs)
accepts (counted least most qs) bs = is_enough least (count_true bs) && is_few most (count_true bs)
accepts (conditional q cs) bs = accepts_chosen cs bs

-- ---- the part of the road under which it refuses, last part first

abbrev pub count_refused_at : Option ℕ → Option ℕ → ℕ → List ℕ
count_refused_at None None n = codes "contains"
count_refused_at (Some least) None n = codes "minContains"
count_refused_at None (Some most) n = codes "maxContains"
count_refused_at (Some least) (Some most) n = if nat_lt most n then codes "maxContains" else codes "minContains"

abbrev pub chosen_name : List Bool → List ℕ
chosen_name [] = codes "if"
chosen_name (true ∷ bs) = codes "then"
chosen_name (false ∷ bs) = codes "else"

abbrev pub refuses_at : {S : Type 0} → Rule S → List Bool → List Part
refuses_at (every p notes qs) bs = p
refuses_at (together p note qs) bs = p
refuses_at (each_named p s names) bs = p
refuses_at (some_branch p qs) bs = p
refuses_at (one_branch p qs) bs = p
refuses_at (refusal p schema q) bs = p
refuses_at (counted least most qs) bs = at (count_refused_at least most (count_true bs))
refuses_at (conditional q cs) bs = at (chosen_name bs)

-- ---- the obliged steps: the questions whose refusal is the keyword's

abbrev pub lone : {A : Type 0} → List A → List A
lone [] = []
lone (x ∷ []) = x ∷ []
lone (x ∷ y ∷ xs) = []

abbrev pub chosen_steps : {S : Type 0} → List (Bool × Question S) → List Bool → List (Question S)
chosen_steps cs [] = []
chosen_steps cs (b ∷ bs) = chosen b cs (consequents cs)

abbrev pub obliged : {S : Type 0} → Rule S → List Bool → List (Question S)
obliged (every p notes qs) bs = qs
obliged (together p note qs) bs = qs
obliged (each_named p s names) bs = each_name p s names
obliged (some_branch p qs) bs = lone qs
obliged (one_branch p qs) bs = lone qs
obliged (refusal p schema q) bs = []
obliged (counted least most qs) bs = []
obliged (conditional q cs) bs = chosen_steps cs bs

-- ---- the faults, by those that answer the questions

-- a fault at the spot of the keyword's schema, whose own schema path is `above`
abbrev pub own_fault : Spot → List Part → List Part → Note → Fault
own_fault w above p note = fault note.kind note.value w.path (p ++ above) (p ++ w.road)

abbrev pub own_faults : Spot → List Part → List Part → List Note → Faults
own_faults w above p [] = none
own_faults w above p (note ∷ notes) = also (own_fault w above p note) (own_faults w above p notes)

abbrev pub one_fault : Bool → Fault → Faults
one_fault true f = none
one_fault false f = also f none

-- a name's fault, told of the object
abbrev pub of_object : Spot → Fault → Fault
of_object w (fault k d i s e) = fault (PropertyNames (fault k d i s e)) w.value w.path s e

abbrev pub each_of_object : Spot → Faults → Faults
each_of_object w none = none
each_of_object w (also f fs) = also (of_object w f) (each_of_object w fs)

abbrev pub one_of_kind : ℕ → Branches → Kind
one_of_kind zero bs = OneOfNotValid bs
one_of_kind (suc n) bs = OneOfMultipleValid bs

abbrev pub faults_chosen : {S : Type 0} → List (Bool × Question S) → List Faults → Faults
faults_chosen cs [] = none
faults_chosen cs (fs ∷ rest) = join (chosen (is_none fs) cs rest)

abbrev pub verdicts_of : List Faults → List Bool
verdicts_of answers = map is_none answers

abbrev pub faults : {S : Type 0} → Rule S → Spot → List Part → List Faults → Faults
faults (every p notes qs) w above answers = joined (own_faults w above p notes) (join answers)
faults (together p note qs) w above answers = one_fault (all_true (verdicts_of answers)) (own_fault w above p note)
faults (each_named p s names) w above answers = each_of_object w (join answers)
faults (some_branch p qs) w above answers =
    one_fault (some_true (verdicts_of answers)) (own_fault w above p (record { kind = AnyOf (branches_of answers); value = w.value }))
faults (one_branch p qs) w above answers =
    let n = count_true (verdicts_of answers) in
    one_fault (n == 1) (own_fault w above p (record { kind = one_of_kind n (branches_of answers); value = w.value }))
faults (refusal p schema q) w above answers =
    one_fault (not (all_true (verdicts_of answers))) (own_fault w above p (record { kind = Not schema; value = w.value }))
faults (counted least most qs) w above answers =
    let n = count_true (verdicts_of answers) in
    one_fault (is_enough least n && is_few most n) (own_fault w above (at (count_refused_at least most n)) (record { kind = Contains; value = w.value }))
faults (conditional q cs) w above answers = faults_chosen cs answers
