-- How the answers to an applicator's questions are combined.
use Rattle.std.proofs.lemmas.Bool.Decides.{nat_tests}
use Rattle.std.proofs.Common.{◌≡◌, ◌==◌, ◌≤◌, ◌∙◌, ◌&&◌, ℕ, nat_lt, List, [], ◌∷◌, Bool, true, false, not, length, Option, refl, sym, ap, subst, arith, ◌++◌, ap₂, if◌then◌else◌}
use Rattle.serde_json.specs.Data.{Data, null, boolean, number, string, array, object, Members, no_members, member}
use Rattle.serde_json.specs.Find.{get}
use Rattle.serde_json.specs.View.{members_view}
use Rattle.json_values.specs.Parts.{Part}
use Rattle.schema_meaning.specs.Members.{is_empty, all_true, some_true, count_true}
use Rattle.schema_meaning.specs.Rules.{Rule, accepts, asks, is_enough, is_few, Note, every, together, each_named, some_branch, one_branch, refusal, counted}
use Rattle.schema_meaning.specs.Keywords.{rule, missing, missing_beside, needed}
use Rattle.schema_definitions.specs.Sites.{Site}
use Rattle.applicators.specs.Combining.{Named, Combines, tells_each, counts_answers, decided_by}
use Rattle.applicators.specs.Combined.{name_of, combining_of, asks_of, named_of, Follows, is_every, IsEvery, decided, Decides}
use Rattle.applicators.specs.Shapes.{shape_of, dependency_at, dependencies_in}
use Rattle.std.specs.List.{flat_map}
use Rattle.schema_meaning.specs.Questions.{at, if_member}
use Rattle.assertions.specs.Texts.{texts_in, entries_of}
use Rattle.applicators.specs.Applied.{Applicator}
use Rattle.applicators.specs.declared.combining.Combining.{Combining}
use Rattle.applicators.specs.declared.combining.Combining.TheVariants as combining
use Rattle.applicators.specs.Forms.{noted, kind_in, value_in, stands, named_in}
use Rattle.applicators.specs.Bare.{bare}
use Rattle.applicators.specs.Asks.{form_by, may_note, noted_by, kind_asked, value_asked}
use Rattle.applicators.specs.Lent.{Asks}
use Rattle.applicators.specs.declared.asks.AsksOf.TheVariants as asking
use Rattle.applicators.proofs.FormLemmas.{IsKeyword, a_keyword, built}

-- ---- what `dependencies` notes

none_missing : (d : Data) → missing [] d ≡ []
none_missing null = refl
none_missing (boolean b) = refl
none_missing (number n) = refl
none_missing (string s) = refl
none_missing (array ds) = refl
none_missing (object ms) = refl

needed-here : (site : List Part → Data → Site) (k n : List ℕ) (d c : Data) → needed d (dependency_at site k n c) ≡ missing (texts_in c) d
needed-here site k n d null = sym (none_missing d)
needed-here site k n d (boolean b) = sym (none_missing d)
needed-here site k n d (number m) = sym (none_missing d)
needed-here site k n d (string s) = sym (none_missing d)
needed-here site k n d (array ds) = refl
needed-here site k n d (object ms) = sym (none_missing d)

notes-here : (site : List Part → Data → Site) (k : List ℕ) (d : Data) (ms : Members) → flat_map (λ p. if_member (get p.0 d) (λ e. needed d p.1)) (dependencies_in site k ms) ≡ missing_beside (entries_of ms) d
notes-here site k d no_members = refl
notes-here site k d (member n c ms) = ap₂ (λ (xs ys : List Note). if_member (get n d) (λ e. xs) ++ ys) (needed-here site k n d c) (notes-here site k d ms)

-- ---- the rule of each applicator

noted_so : (site : List Part → Data → Site) (k : List ℕ) (f : Asks) (d : Data) → noted (form_by site k f) d ≡ noted_by f d
noted_so site k (asking.Dependencies entries) d = notes-here site k d (members_view entries.now.entries)
noted_so site k f d = refl

kind_so : (site : List Part → Data → Site) (matches : List ℕ → List ℕ → Bool) (k : List ℕ) (f : Asks) (d : Data) → kind_in matches (form_by site k f) d ≡ kind_asked matches f d
kind_so site matches k (asking.Value schema) d = refl
kind_so site matches k f d = refl

value_so : (site : List Part → Data → Site) (k : List ℕ) (f : Asks) (d : Data) → value_in (form_by site k f) d ≡ value_asked f d
value_so site k (asking.Members schema) d = refl
value_so site k f d = refl

module _ (site : List Part → Data → Site) where
  -- wherever its subschemas stand
  stands_so : (k : List ℕ) (c : Combining) (f : Asks) → stands k c (form_by site k f) ≡ stands k c (bare f)
  stands_so k combining.Every (asking.ItemsFrom start schema) = refl
  stands_so k combining.Together (asking.ItemsFrom start schema) = refl
  stands_so k combining.EachNamed (asking.ItemsFrom start schema) = refl
  stands_so k combining.SomeBranch (asking.ItemsFrom start schema) = refl
  stands_so k combining.OneBranch (asking.ItemsFrom start schema) = refl
  stands_so k combining.Refusal (asking.ItemsFrom start schema) = refl
  stands_so k (combining.Counted least most) (asking.ItemsFrom start schema) = refl
  stands_so k combining.Conditional (asking.ItemsFrom start schema) = refl
  stands_so k c f = refl

  -- each is a keyword of its name
  pub is_keyword : (a : Applicator) → IsKeyword (name_of a) (combining_of a) (form_by site (name_of a) (asks_of a))
  is_keyword a = a_keyword (name_of a) (combining_of a) (form_by site (name_of a) (asks_of a)) (stands_so (name_of a) (combining_of a) (asks_of a) ∙ a.stands)

module _ (site : List Part → Data → Site) (matches : List ℕ → List ℕ → Bool) where
  named_so : (a : Applicator) (d : Data) → named_in matches (name_of a) (form_by site (name_of a) (asks_of a)) d ≡ named_of matches a d
  named_so a d =
      let k = name_of a in
      let f = asks_of a in
      ap (λ notes. record { name = k; notes = notes; note = record { kind = kind_in matches (form_by site k f) d; value = value_in (form_by site k f) d } }) (noted_so site k f d)
      ∙ ap (λ kind. record { name = k; notes = noted_by f d; note = record { kind = kind; value = value_in (form_by site k f) d } }) (kind_so site matches k f d)
      ∙ ap (λ value. record { name = k; notes = noted_by f d; note = record { kind = kind_asked matches f d; value = value } }) (value_so site k f d)

  pub follows : (d : Data) (a : Applicator) → Follows a site matches d
  follows d a =
      let is = built matches d (name_of a) (combining_of a) (form_by site (name_of a) (asks_of a)) (is_keyword site a) in
      record { combined = subst (λ w. Combines w d (combining_of a) (rule matches d (shape_of site a))) (named_so a d) is.combined; asked = is.asked }

every_by : {S : Type 0} (w : Named) (d : Data) (c : Combining) (r : Rule S) → Combines w d c r → tells_each c ≡ true → r ≡ every (at w.name) w.notes (asks r)
every_by w d combining.Every (every p notes qs) h e = ap₂ (λ p notes. every p notes qs) h.0 h.1
every_by w d combining.Every r h e = elim h [ ]
every_by w d c r h e = cc

pub every_rule : (a : Applicator) → is_every a ≡ true → IsEvery a
every_rule a h site matches d = every_by (named_of matches a d) d (combining_of a) (rule matches d (shape_of site a)) (follows site matches d a).combined h

-- ---- verdicts by numbers

not_more : (bs : List Bool) → count_true bs ≤ length bs
not_more [] = omega arith
not_more (true ∷ bs) = let more = not_more bs in omega arith
not_more (false ∷ bs) = let more = not_more bs in omega arith

all_or_fewer : (bs : List Bool) → all_true bs ≡ (count_true bs == length bs)
all_or_fewer [] = refl
all_or_fewer (true ∷ bs) = let rest = all_or_fewer bs in grind (arith, nat_tests)
all_or_fewer (false ∷ bs) = let more = not_more bs in grind (arith, nat_tests)

some_or_none : (bs : List Bool) → some_true bs ≡ nat_lt 0 (count_true bs)
some_or_none [] = refl
some_or_none (true ∷ bs) = grind (arith, nat_tests)
some_or_none (false ∷ bs) = some_or_none bs

module _ (n m : ℕ) (bs : List Bool) (is_n : length bs ≡ n) (is_m : count_true bs ≡ m) where
  by_all : all_true bs ≡ (m == n)
  by_all = all_or_fewer bs ∙ ap (λ k. k == length bs) is_m ∙ ap (λ k. m == k) is_n

  by_some : some_true bs ≡ nat_lt 0 m
  by_some = some_or_none bs ∙ ap (λ k. nat_lt 0 k) is_m

  by_one : (count_true bs == 1) ≡ (m == 1)
  by_one = ap (λ k. k == 1) is_m

  by_not : not (all_true bs) ≡ not (m == n)
  by_not = ap not by_all

  by_bounds : (least most : Option ℕ) → (is_enough least (count_true bs) && is_few most (count_true bs)) ≡ (is_enough least m && is_few most m)
  by_bounds least most = ap (λ k. is_enough least k && is_few most k) is_m

-- without a note, so many answers in all, so many of them yes
module _ {S : Type 0} (w : Named) (d : Data) (n m : ℕ) (bs : List Bool) (is_n : length bs ≡ n) (is_m : count_true bs ≡ m) where
  decided_of : (c : Combining) (r : Rule S) → Combines w d c r → (tells_each c ≡ true → w.notes ≡ []) → counts_answers c ≡ true → accepts r bs ≡ decided_by c d n m
  decided_of combining.Every (every p notes qs) h plain e = ap (λ (ns : List Note). is_empty ns && all_true bs) (h.1 ∙ plain refl) ∙ by_all n m bs is_n is_m
  decided_of combining.Together (together p note qs) h plain e = by_all n m bs is_n is_m
  decided_of combining.EachNamed (each_named p s names) h plain e = by_all n m bs is_n is_m
  decided_of combining.SomeBranch (some_branch p qs) h plain e = by_some n m bs is_n is_m
  decided_of combining.OneBranch (one_branch p qs) h plain e = by_one n m bs is_n is_m
  decided_of combining.Refusal (refusal p schema q) h plain e = by_not n m bs is_n is_m
  decided_of (combining.Counted least most) (counted l k qs) h plain e =
      ap₂ (λ (x y : Option ℕ). is_enough x (count_true bs) && is_few y (count_true bs)) h.0 h.1 ∙ by_bounds n m bs is_n is_m least most
      ∙ ap (λ b. if b then (is_enough least m && is_few most m) else (m == n)) (sym h.3)
  decided_of (combining.Counted least most) (every p notes qs) h plain e =
      ap (λ (ns : List Note). is_empty ns && all_true bs) h.0 ∙ by_all n m bs is_n is_m ∙ ap (λ b. if b then (is_enough least m && is_few most m) else (m == n)) (sym h.2)
  decided_of combining.Conditional r h plain e = cc
  decided_of c r h plain e = elim h [ ]

plain_by : (b : Bool) (f : Asks) (d : Data) → (b && may_note f) ≡ false → b ≡ true → noted_by f d ≡ []
plain_by false f d h e = cc
plain_by true (asking.Dependencies entries) d h e = cc
plain_by true f d h e = refl

pub decides : (a : Applicator) (d : Data) (n m : ℕ) (b : Bool) → b ≡ decided a d n m → Decides a d n m b
decides a d n m b is = record {
  is = λ counts plain site matches bs is_n is_m.
      decided_of (named_of matches a d) d n m bs is_n is_m (combining_of a) (rule matches d (shape_of site a)) (follows site matches d a).combined (plain_by (is_every a) (asks_of a) d plain) counts ∙ sym is;
}
