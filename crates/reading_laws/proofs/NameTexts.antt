-- A name is read as its text.
use Rattle.std.proofs.Common.{◌≡◌, ◌∙◌, ℕ, zero, suc, List, [], ◌∷◌, ◌++◌, Bool, true, false, ◌&&◌, ◌||◌, map, Option, Some, None, bytes_eq, refl, sym, ap, ap₂}
use Rattle.std.proofs.lemmas.Slice.Eq.{bytes_eq-Decides}
use Rattle.serde_json.specs.Data.{string}
use Rattle.json_values.specs.Parts.{Part}
use Rattle.schema_meaning.specs.Members.{first, later}
use Rattle.schema_meaning.specs.Places.{Spot, stay, after, Key}
use Rattle.schema_meaning.specs.Faults.{Faults, none, join}
use Rattle.schema_meaning.specs.Questions.{Question, asked_at}
use Rattle.schema_meaning.specs.Rules.{Rule, every, together, each_named, some_branch, one_branch, refusal, counted, conditional, asks, faults}
use Rattle.schema_meaning.specs.Keywords.{Shape, rule}
use Rattle.schema_meaning.specs.Readings.{Reading, bags}
use Rattle.schema_meaning.specs.Cut.{same_name, same_path, same_key, is_in_progress, cut_one, cut_unless, cut_by_kind, cut_asked, cut_within}
use Rattle.meaning_laws.proofs.Known.{map_in}
use Rattle.reading_laws.specs.NameLaws.{AreUncalled, ReadAsText}
use Rattle.reading_laws.proofs.NameRooms.{called_is_new}
use Rattle.reading_laws.proofs.NamesStay.{asked_stay}

-- the text at a path, as a member's name or as a value
abbrev text_at : List ℕ → List Part → Option (List ℕ) → List Part → Spot
text_at k path called road = record { value = string k; path = path; called = called; road = road }

-- the key of a name where the other is that of its text
abbrev named_key : List ℕ → Key → Key
named_key k key = record { target = key.target; path = key.path; called = Some k }

-- a keyword does not tell whether it is asked of a name
faults_same : {S : Type 0} (x : Rule S) (k : List ℕ) (path : List Part) (a b : Option (List ℕ)) (road above : List Part) (answers : List Faults)
    → faults x (text_at k path a road) above answers ≡ faults x (text_at k path b road) above answers
faults_same (every p notes qs) k path a b road above answers = refl
faults_same (together p note qs) k path a b road above answers = refl
faults_same (each_named p s names) k path a b road above answers = refl
faults_same (some_branch p qs) k path a b road above answers = refl
faults_same (one_branch p qs) k path a b road above answers = refl
faults_same (refusal p schema q) k path a b road above answers = refl
faults_same (counted least most qs) k path a b road above answers = refl
faults_same (conditional q cs) k path a b road above answers = refl

asked_there : {S : Type 0} (k : List ℕ) (path : List Part) (called : Option (List ℕ)) (road : List Part) (q : Question S) → q.step ≡ stay
    → asked_at (text_at k path called road) q ≡ text_at k path called (q.added ++ road)
asked_there k path called road q e = ap (λ step. after (text_at k path called road) step q.added) e

-- ---- what is in progress of the name and of the text

same_keys : (k : List ℕ) (x y : Key) → x.called ≡ None → y.called ≡ None → same_key (named_key k x) (named_key k y) ≡ same_key x y
same_keys k x y e f =
    let same : same_name (Some k) (Some k) ≡ same_name x.called y.called = (bytes_eq-Decides k k).1 refl ∙ sym (ap₂ same_name e f) in
    ap (λ b. bytes_eq x.target.document y.target.document && same_path x.target.path y.target.path && same_path x.path y.path && b) same

same_progress : (k : List ℕ) (outer : List Key) → AreUncalled outer → (x : Key) → x.called ≡ None → (keys : List Key) → AreUncalled keys
    → is_in_progress (named_key k x) (map (named_key k) keys ++ outer) ≡ is_in_progress x keys
same_progress k outer free x e [] h = called_is_new (named_key k x) k outer refl free
same_progress k outer free x e (y ∷ keys) h =
    ap₂ (λ b c. b || c) (same_keys k x y e (h y first)) (same_progress k outer free x e keys (λ key i. h key (later i)))

more_uncalled : (x : Key) (keys : List Key) → x.called ≡ None → AreUncalled keys → AreUncalled (x ∷ keys)
more_uncalled x keys e h _ first = e
more_uncalled x keys e h key (later i) = h key i

module _ {S : Type 0} (r : Reading S) (k : List ℕ) (path : List Part) (outer : List Key) (free : AreUncalled outer) where
  rules_same : (road above : List Part) (f g : Question S → Faults) → ((q : Question S) → q.step ≡ stay → f q ≡ g q) → (xs : List (Shape S))
      → map (cut_one bags (text_at k path (Some k) road) above f) (map (rule r.matches (string k)) xs)
      ≡ map (cut_one bags (text_at k path None road) above g) (map (rule r.matches (string k)) xs)
  rules_same road above f g h [] = refl
  rules_same road above f g h (x ∷ xs) =
      let asked = map_in f g (asks (rule r.matches (string k) x)) (λ q i. h q (asked_stay r.matches k x q i)) in
      ap₂ (λ fs rest. fs ∷ rest)
      (ap (faults (rule r.matches (string k) x) (text_at k path (Some k) road) above) asked
      ∙ faults_same (rule r.matches (string k) x) k path (Some k) None road above (map g (asks (rule r.matches (string k) x))))
      (rules_same road above f g h xs)

  abbrev Same : ℕ → Type 0
  Same n = (road : List Part) (keys : List Key) (s : S) → AreUncalled keys
      → cut_within bags r n (map (named_key k) keys ++ outer) s (text_at k path (Some k) road) ≡ cut_within bags r n keys s (text_at k path None road)

  -- where a reference is followed to
  abbrev key_of : Question S → Spot → Key
  key_of q w = record { target = r.place q.site; path = w.path; called = w.called }

  abbrev followed : (n : ℕ) → List Key → Question S → Spot → Faults
  followed n keys q w = cut_unless (is_in_progress (key_of q w) keys) none (cut_within bags r n (key_of q w ∷ keys) q.site w)

  kind_same : (n : ℕ) → Same n → (b : Bool) (q : Question S) → q.step ≡ stay → (road : List Part) (keys : List Key) → AreUncalled keys
      → cut_by_kind b bags r (cut_within bags r n) (map (named_key k) keys ++ outer) (text_at k path (Some k) road) q
      ≡ cut_by_kind b bags r (cut_within bags r n) keys (text_at k path None road) q
  kind_same n again true q e road keys h =
      let key : Key = key_of q (text_at k path None road) in
      ap (followed n (map (named_key k) keys ++ outer) q) (asked_there k path (Some k) road q e)
      ∙ ap₂ (λ b fs. cut_unless b none fs) (same_progress k outer free key refl keys h) (again (q.added ++ road) (key ∷ keys) q.site (more_uncalled key keys refl h))
      ∙ sym (ap (followed n keys q) (asked_there k path None road q e))
  kind_same n again false q e road keys h =
      ap (cut_within bags r n (map (named_key k) keys ++ outer) q.site) (asked_there k path (Some k) road q e)
      ∙ again (q.added ++ road) keys q.site h
      ∙ sym (ap (cut_within bags r n keys q.site) (asked_there k path None road q e))

  within_same : (n : ℕ) → Same n
  unfolding cut_within
  within_same zero road keys s h = refl
  within_same (suc n) road keys s h =
      ap join (rules_same road (r.schema_path s) (cut_asked bags r (cut_within bags r n) (map (named_key k) keys ++ outer) (text_at k path (Some k) road))
      (cut_asked bags r (cut_within bags r n) keys (text_at k path None road)) (λ q e. kind_same n (within_same n) q.follows q e road keys h) (r.keywords s))

nothing_uncalled : AreUncalled []
nothing_uncalled key i = elim i [ ]

pub read_as_text : {S : Type 0} → ReadAsText S
read_as_text r n k path road outer s free = within_same r k path outer free n road [] s nothing_uncalled
