-- One application of `required` tells each name that is missing once.
use Rattle.std.proofs.Common.{◌≡◌, ◌∙◌, ℕ, List, [], ◌∷◌, map, Bool, true, false, not, ◌&&◌, ◌||◌, cond, codes, bytes_eq, Option, Some, None, option_map, option_and_then, refl, sym, ap, subst}
use Rattle.std.specs.Prelude.{if◌then◌else◌}
use Rattle.std.specs.List.{filter}
use Rattle.std.proofs.lemmas.Slice.Eq.{bytes_eq-Decides}
use Rattle.serde_json.specs.Data.{Data, null, boolean, number, string, array, object, Members, member}
use Rattle.serde_json.specs.Find.{get, as_array}
use Rattle.json_values.specs.Parts.{Part, name}
use Rattle.schema_meaning.specs.Members.{In, first, later, is_listed, known_too, all_known}
use Rattle.schema_meaning.specs.Places.{Spot, whole}
use Rattle.schema_meaning.specs.Faults.{fault, Faults, none, also, joined, join, is_none, Required}
use Rattle.schema_meaning.specs.Keywords.{Shape, asserts, required, missing, if_object, none_there, rule}
use Rattle.schema_meaning.specs.Questions.{Question, at, asked_at}
use Rattle.schema_meaning.specs.Rules.{Rule, every, conditional, consequents, chosen, if_same, own_faults, faults, asks}
use Rattle.schema_meaning.specs.Readings.{Reading, rules, bags, verdicts, tell_one, told, IsTold}
use Rattle.meaning_laws.proofs.Known.{option_map-some, all_known-in}
use Rattle.meaning_laws.proofs.Verdicts.{told_agrees}
use Rattle.meaning_laws.proofs.Refuses.{told_once}
use Rattle.meaning_laws.proofs.Stays.{told-asks}
use Rattle.meaning_laws.proofs.Obliged.{in_map}
use Rattle.schema_definitions.specs.Bearers.{Documents}
use Rattle.schema_definitions.specs.Rows.{Row, Context, nothing_read, read_among, readers, row_at, rows_of, rows_in, rows_at, asserted, unless_empty}
use Rattle.schema_definitions.specs.Sites.{Site}
use Rattle.schema_definitions.specs.Plain.{keywords_at, plain}
use Rattle.schema_definitions.specs.Values.{names_in, none_twice, if_none_twice}
use Rattle.schema_registries.specs.Roots.{Root, Patterns, site_of_root}
use Rattle.schema_definitions.specs.Lookup.{Target}
use Rattle.linked_meanings.specs.Moved.{moved}
use Rattle.reading_laws.specs.Spelled.{spelled}
use Rattle.schema_validators.specs.Answered.{AreFaults}
use Rattle.document_laws.proofs.Inside.{HoldsMember, here, behind, held_found}
use Rattle.document_laws.proofs.Listed.{in_flat_map}
use Rattle.schema_validators.specs.Missing.{Requires, lacks, IsToldAt, itself, below, beside, AreAmong, nothing, taken, passed, missing_faults, TellsMissing, TellsEachMissing}

-- ---- names

-- those of some names that pass a test
module _ (f : List ℕ → Bool) where
  listed_at : (k a : List ℕ) (names : List (List ℕ)) (b c : Bool) → bytes_eq k a ≡ b → f a ≡ c → is_listed k (filter f names) ≡ (is_listed k names && f k)
      → is_listed k (cond c (a ∷ filter f names) (filter f names)) ≡ ((b || is_listed k names) && f k)
  listed_at k a names true true e h again = ap (λ x. x || is_listed k (filter f names)) e ∙ sym (ap f ((bytes_eq-Decides k a).0 e) ∙ h)
  listed_at k a names true false e h again =
      let no : f k ≡ false = ap f ((bytes_eq-Decides k a).0 e) ∙ h in
      again ∙ ap (λ x. is_listed k names && x) no ∙ nowhere (is_listed k names) ∙ sym no
    where
      nowhere : (x : Bool) → (x && false) ≡ false
      nowhere true = refl
      nowhere false = refl
  listed_at k a names false true e h again = ap (λ x. x || is_listed k (filter f names)) e ∙ again
  listed_at k a names false false e h again = again

  pub listed-filter : (k : List ℕ) (names : List (List ℕ)) → is_listed k (filter f names) ≡ (is_listed k names && f k)
  listed-filter k [] = refl
  listed-filter k (a ∷ names) = listed_at k a names (bytes_eq k a) (f a) refl refl (listed-filter k names)

  once_at : (a : List ℕ) (names : List (List ℕ)) (b c : Bool) → is_listed a names ≡ b → (not b && none_twice names) ≡ true
      → (none_twice names ≡ true → none_twice (filter f names) ≡ true) → none_twice (cond c (a ∷ filter f names) (filter f names)) ≡ true
  once_at a names true c e h again = cc
  once_at a names false true e h again =
      let no : is_listed a (filter f names) ≡ false = listed-filter a names ∙ ap (λ x. x && f a) e in
      ap (λ x. not x && none_twice (filter f names)) no ∙ again h
  once_at a names false false e h again = again h

  pub once-filter : (names : List (List ℕ)) → none_twice names ≡ true → none_twice (filter f names) ≡ true
  once-filter [] h = refl
  once-filter (a ∷ names) h = once_at a names (is_listed a names) (f a) refl h (once-filter names)

-- ---- what one application tells

module _ (w : Spot) (above : List Part) where
  own_named : (ks : List (List ℕ)) → own_faults w above (at (codes "required")) (map (λ k. record { kind = Required k; value = w.value }) ks) ≡ missing_faults w above ks
  own_named [] = refl
  own_named (k ∷ ks) = ap (also (fault (Required k) w.value w.path (name (codes "required") ∷ above) (name (codes "required") ∷ w.road))) (own_named ks)

-- the names that a value lacks
lacking : List (List ℕ) → Data → List (List ℕ)
lacking names d = if_object d (filter (λ k. none_there (get k d)) names)

missing_named : (names : List (List ℕ)) (d : Data) → missing names d ≡ map (λ k. record { kind = Required k; value = d }) (lacking names d)
unfolding lacking
missing_named names null = refl
missing_named names (boolean b) = refl
missing_named names (number n) = refl
missing_named names (string s) = refl
missing_named names (array ds) = refl
missing_named names (object ms) = refl

none_lacks : (b : Bool) → false ≡ (b && false)
none_lacks true = refl
none_lacks false = refl

lacking_listed : (names : List (List ℕ)) (d : Data) (k : List ℕ) → is_listed k (lacking names d) ≡ (is_listed k names && lacks d k)
unfolding lacking
lacking_listed names null k = none_lacks (is_listed k names)
lacking_listed names (boolean b) k = none_lacks (is_listed k names)
lacking_listed names (number n) k = none_lacks (is_listed k names)
lacking_listed names (string s) k = none_lacks (is_listed k names)
lacking_listed names (array ds) k = none_lacks (is_listed k names)
lacking_listed names (object ms) k = listed-filter (λ a. none_there (get a (object ms))) k names

lacking_once : (names : List (List ℕ)) (d : Data) → none_twice names ≡ true → none_twice (lacking names d) ≡ true
unfolding lacking
lacking_once names null h = refl
lacking_once names (boolean b) h = refl
lacking_once names (number n) h = refl
lacking_once names (string s) h = refl
lacking_once names (array ds) h = refl
lacking_once names (object ms) h = once-filter (λ a. none_there (get a (object ms))) names h

-- ---- faults among others

among_itself : (fs : Faults) → AreAmong fs fs
among_itself none = nothing
among_itself (also f fs) = taken (among_itself fs)

among_by : {fs gs hs : Faults} → AreAmong fs gs → AreAmong gs hs → AreAmong fs hs
among_by x (passed y) = passed (among_by x y)
among_by nothing nothing = nothing
among_by nothing (taken y) = nothing
among_by (taken x) (taken y) = taken (among_by x y)
among_by (passed x) (taken y) = passed (among_by x y)

among_first : (fs gs : Faults) → AreAmong fs (joined fs gs)
among_first none gs = nothing
among_first (also f fs) gs = taken (among_first fs gs)

among_last : (fs gs : Faults) → AreAmong gs (joined fs gs)
among_last none gs = among_itself gs
among_last (also f fs) gs = passed (among_last fs gs)

among_each : (answers : List Faults) (fs : Faults) → In fs answers → AreAmong fs (join answers)
among_each [] fs i = elim i [ ]
among_each (gs ∷ rest) fs first = among_first gs (join rest)
among_each (gs ∷ rest) fs (later i) = among_by (among_each rest fs i) (among_last gs (join rest))

-- ---- what stands beside an answer

known_too-some : {A : Type 0} (o : Option A) (os : Option (List A)) (zs : List A) → known_too o os ≡ Some zs
    → (x : A) × (xs : List A) × (o ≡ Some x) × (os ≡ Some xs) × (zs ≡ x ∷ xs)
known_too-some None os zs e = cc
known_too-some (Some x) None zs e = cc
known_too-some (Some x) (Some xs) zs e = (x, xs, refl, refl, cc)

if_same_first : {A : Type 0} (b : Bool) (x : A) (xs : List A) → In x (if_same b b x xs)
if_same_first true x xs = first
if_same_first false x xs = first

if_same_later : {A : Type 0} (b c : Bool) (y x : A) (xs : List A) → In y xs → In y (if_same b c x xs)
if_same_later true true y x xs i = later i
if_same_later true false y x xs i = i
if_same_later false true y x xs i = i
if_same_later false false y x xs i = later i

chosen_known : {S A : Type 0} (ask : Question S → Option A) (b : Bool) (cs : List (Bool × Question S)) (ys : List A) → all_known (map ask (consequents cs)) ≡ Some ys
    → (c : Question S) → In (b, c) cs → (y : A) × (ask c ≡ Some y) × In y (chosen b cs ys)
chosen_known ask b [] ys e c i = elim i [ ]
chosen_known ask b (_ ∷ cs) ys e c first =
    let k = known_too-some (ask c) (all_known (map ask (consequents cs))) ys e in
    (k.0, k.2, subst (λ zs. In k.0 (chosen b ((b, c) ∷ cs) zs)) (sym k.4) (if_same_first b k.0 (chosen b cs k.1)))
chosen_known ask b (d ∷ cs) ys e c (later i) =
    let k = known_too-some (ask d.1) (all_known (map ask (consequents cs))) ys e in
    let rest = chosen_known ask b cs k.1 k.3 c i in
    (rest.0, rest.1, subst (λ zs. In rest.0 (chosen b (d ∷ cs) zs)) (sym k.4) (if_same_later b d.0 rest.0 k.0 (chosen b cs k.1) rest.2))

-- ---- where faults are told as they are

module _ {S : Type 0} (r : Reading S) (n : ℕ) where
  -- what a keyword tells is among what its schema does
  keyword_told : (s : S) (w : Spot) (fs : Faults) → told bags r n s w ≡ Some fs → (k : Rule S) → In k (rules r s w.value)
      → (answers : List Faults) × (all_known (map (λ q. told bags r n q.site (asked_at w q)) (asks k)) ≡ Some answers) × AreAmong (faults k w (r.schema_path s) answers) fs
  keyword_told s w fs e k i =
      let ask : Question S → Option Faults = λ q. told bags r n q.site (asked_at w q) in
      let all = option_map-some join (all_known (map (tell_one bags w (r.schema_path s) ask) (rules r s w.value))) fs (told-asks bags r n s w fs e) in
      let one = all_known-in (tell_one bags w (r.schema_path s) ask) (rules r s w.value) all.0 all.1 k i in
      let of = option_map-some (faults k w (r.schema_path s)) (all_known (map ask (asks k))) one.0 one.1 in
      (of.0, of.1, subst (λ x. AreAmong x fs) (sym of.2) (subst (AreAmong one.0) all.2 (among_each all.0 one.0 one.2)))

  told_there : (from : S) (start : Spot) (fs : Faults) → told bags r n from start ≡ Some fs → (s : S) (w : Spot) → IsToldAt r from start s w
      → (gs : Faults) × (told bags r n s w ≡ Some gs) × AreAmong gs fs
  told_there from start fs e s w itself = (fs, e, among_itself fs)
  told_there from start fs e s w (below {s = x} {w = v} t p notes qs i q j) =
      let a = told_there from start fs e x v t in
      let ask : Question S → Option Faults = λ q. told bags r n q.site (asked_at v q) in
      let of = keyword_told x v a.0 a.1 (every p notes qs) i in
      let known = all_known-in ask qs of.0 of.1 q j in
      (known.0, known.1, among_by (among_each of.0 known.0 known.2) (among_by (among_last (own_faults v (r.schema_path x) p notes) (join of.0)) (among_by of.2 a.2)))
  told_there from start fs e s w (beside {s = x} {w = v} t q cs i b decided c j) =
      let a = told_there from start fs e x v t in
      let ask : Question S → Option Faults = λ q. told bags r n q.site (asked_at v q) in
      let of = keyword_told x v a.0 a.1 (conditional q cs) i in
      let k = known_too-some (ask q) (all_known (map ask (consequents cs))) of.0 of.1 in
      let verdict : told verdicts r n q.site (asked_at v q) ≡ Some (is_none k.0) = sym (told_agrees r n q.site (asked_at v q)) ∙ ap (option_map is_none) k.2 in
      let same : is_none k.0 ≡ b = told_once verdicts r n decided.unfoldings q.site (asked_at v q) (is_none k.0) b verdict decided.is in
      let one = chosen_known ask b cs k.1 k.3 c j in
      let among : AreAmong (join (chosen (is_none k.0) cs k.1)) a.0 =
      subst (λ answers. AreAmong (faults (conditional q cs) v (r.schema_path x) answers) a.0) k.4 of.2 in
      (one.0, one.1, among_by (among_each (chosen b cs k.1) one.0 one.2) (among_by (subst (λ o. AreAmong (join (chosen o cs k.1)) a.0) same among) a.2))

  pub missing_told : (from : S) (start : Spot) (fs : Faults) → told bags r n from start ≡ Some fs → (s : S) (w : Spot) → IsToldAt r from start s w
      → (names : List (List ℕ)) → none_twice names ≡ true → In (asserts (required names)) (r.keywords s) → TellsMissing names w (r.schema_path s) fs
  missing_told from start fs e s w t names distinct i =
      let a = told_there from start fs e s w t in
      let of = keyword_told s w a.0 a.1 (every (at (codes "required")) (missing names w.value) []) (in_map (rule r.matches w.value) (asserts (required names)) (r.keywords s) i) in
      let own = own_faults w (r.schema_path s) (at (codes "required")) (missing names w.value) in
      let is : own ≡ missing_faults w (r.schema_path s) (lacking names w.value) =
      ap (own_faults w (r.schema_path s) (at (codes "required"))) (missing_named names w.value) ∙ own_named w (r.schema_path s) (lacking names w.value) in
      record {
        missing = lacking names w.value;
        once = lacking_once names w.value distinct;
        exactly = lacking_listed names w.value;
        told = subst (λ x. AreAmong x fs) is (among_by (among_first own (join of.0)) (among_by of.2 a.2));
      }

-- a list without names is no keyword, and misses none
nothing_missing : (w : Spot) (above : List Part) (fs : Faults) → TellsMissing [] w above fs
nothing_missing w above fs = record { missing = []; once = refl; exactly = λ k. refl; told = nothing }

-- ---- the keyword at a schema

row_among : (c : Context) (k : List ℕ) (d : Data) (ms : Members) → HoldsMember k d ms → In (row_at c k d) (rows_of c ms)
row_among c _ _ _ here = first
row_among c k d (member l e ms) (behind h) = later (row_among c k d ms h)

-- no name that is listed stands twice
listed_once : (o : Option (List (List ℕ))) (names : List (List ℕ)) → option_and_then if_none_twice o ≡ Some names → none_twice names ≡ true
listed_once None names e = cc
listed_once (Some ks) names e = by (none_twice ks) refl e
  where
    by : (b : Bool) → none_twice ks ≡ b → (if b then Some ks else None) ≡ Some names → none_twice names ≡ true
    by true h f = (let same : ks ≡ names = cc f in ap none_twice (sym same) ∙ h)
    by false h f = cc

module _ (docs : Documents) (makes : List ℕ → Bool) (s : Site) (names : List (List ℕ)) (h : Requires docs makes s names) where
  pub required_once : none_twice names ≡ true
  required_once = listed_once (option_and_then names_in (as_array h.value)) names h.lists

  context : Context
  context = record { documents = docs; makes = makes; site = s; members = h.members }

  required_row : row_at context (codes "required") h.value ≡ record { causes = []; leads = []; shapes = unless_empty names }
  unfolding context
  required_row =
      ap (λ (b : Bool). if b then read_among readers context (codes "required") h.value else nothing_read) h.counts
      ∙ ap (asserted context (codes "required") (codes "unique names") unless_empty) h.lists

  row_there : In (row_at context (codes "required") h.value) (rows_at docs makes s)
  unfolding rows_at context
  row_there =
      subst (λ d. In (row_at context (codes "required") h.value) (rows_in s (λ ms. record { documents = docs; makes = makes; site = s; members = ms }) d)) (sym h.schema)
      (row_among context (codes "required") h.value h.members (held_found (codes "required") h.value h.members h.stands))

  pub required_stands : (k : Shape Site) → In k (unless_empty names) → In k (keywords_at docs makes s)
  required_stands k i = in_flat_map (λ r. r.shapes) (row_at context (codes "required") h.value) (rows_at docs makes s) k row_there (subst (λ (r : Row). In k r.shapes) (sym required_row) i)

-- ---- schema paths as pointers spell them

among_moved : (φ : List Part → List Part) {fs gs : Faults} → AreAmong fs gs → AreAmong (moved φ fs) (moved φ gs)
among_moved φ nothing = nothing
among_moved φ (taken h) = taken (among_moved φ h)
among_moved φ (passed h) = passed (among_moved φ h)

missing_moved : (w : Spot) (above : List Part) (ks : List (List ℕ)) → moved spelled (missing_faults w above ks) ≡ missing_faults w (spelled above) ks
missing_moved w above [] = refl
missing_moved w above (k ∷ ks) =
    ap (also (fault (Required k) w.value w.path (name (codes "required") ∷ spelled above) (name (codes "required") ∷ w.road))) (missing_moved w above ks)

missing_spelled : (names : List (List ℕ)) (w : Spot) (above : List Part) (fs : Faults) → TellsMissing names w above fs → TellsMissing names w (spelled above) (moved spelled fs)
missing_spelled names w above fs h = record {
  missing = h.missing;
  once = h.once;
  exactly = h.exactly;
  told = subst (λ gs. AreAmong gs (moved spelled fs)) (missing_moved w above h.missing) (among_moved spelled h.told);
}

-- ---- what is answered from a root on

missing_there : (p : Patterns) (r : Root) (d : Data) (matches : List ℕ → List ℕ → Bool) (target : Target) (fs : Faults)
    → IsTold bags (plain r.documents p.makes matches) (site_of_root r target) (whole d) fs
    → (s : Site) (w : Spot) → IsToldAt (plain r.documents p.makes matches) (site_of_root r target) (whole d) s w
    → (names : List (List ℕ)) → Requires r.documents p.makes s names → TellsMissing names w s.schema_path fs
missing_there p r d matches target fs is s w t [] h = nothing_missing w s.schema_path fs
missing_there p r d matches target fs is s w t (k ∷ ks) h =
    missing_told (plain r.documents p.makes matches) is.unfoldings (site_of_root r target) (whole d) fs is.is s w t (k ∷ ks) (required_once r.documents p.makes s (k ∷ ks) h)
    (required_stands r.documents p.makes s (k ∷ ks) h (asserts (required (k ∷ ks))) first)

pub each_missing : (p : Patterns) (r : Root) (d : Data) (fs : Faults) → AreFaults p r d fs → TellsEachMissing p r d fs
each_missing p r d fs answer matches target found finish straight s w t names h =
    let is = answer matches target found finish straight in
    record {
      ordered = moved spelled is.faults;
      same = is.same;
      tells = missing_spelled names w s.schema_path is.faults (missing_there p r d matches target is.faults is.told s w t names h);
    }
