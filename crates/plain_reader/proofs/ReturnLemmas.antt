-- Chains of references that come back.
use Rattle.std.proofs.Common.{◌≡◌, ◌∙◌, ◌++◌, ℕ, List, [], ◌∷◌, Bool, true, false, map, Option, Some, None, refl, sym, ap, subst, append_assoc, append-nil}
use Rattle.serde_json.specs.Data.{Data, string}
use Rattle.schema_meaning.specs.Members.{In}
use Rattle.schema_meaning.specs.Places.{Spot, Key, Step, stay, after, value_after}
use Rattle.schema_meaning.specs.Questions.{Question, asked_at}
use Rattle.schema_meaning.specs.Rules.{Rule, asks}
use Rattle.schema_meaning.specs.Keywords.{rule}
use Rattle.schema_meaning.specs.Readings.{Reading, Asks}
use Rattle.schema_meaning.specs.Circular.{key_at, Leads, starts, inside, follows, IsCircular}
use Rattle.schema_meaning.specs.Cut.{is_in_progress}
use Rattle.schema_definitions.specs.Sites.{Site}
use Rattle.schema_definitions.specs.BuildCauses.{Reached}
use Rattle.meaning_laws.proofs.Keys.{in_progress-in}
use Rattle.meaning_laws.proofs.Obliged.{in_map}
use Rattle.meaning_laws.proofs.Traced.{in_mapped}
use Rattle.reading_laws.proofs.Elements.{in_front}
use Rattle.reading_laws.proofs.NamesStay.{asked_stay}
use Rattle.reading_laws.proofs.Reached.{led_is_reached}
use Rattle.plain_reader.specs.Settings.{Setting, reading_in}
use Rattle.plain_reader.specs.Verdicts.{AreRead}
use Rattle.plain_reader.specs.Returns.{ComesBack, Stops}
use Rattle.plain_reader.specs.declared.stop.Stop.{Stop}
use Rattle.plain_reader.specs.declared.stop.Stop.TheVariants.{Memory, Circular}
use Rattle.plain_reader.proofs.Reading.{reached_on}
use Rattle.plain_reader.proofs.VerdictLemmas.{led_to, key_of}

-- ---- a chain behind a question

module _ {S : Type 0} (r : Reading S) (s : S) (w : Spot) (q : Question S) (a : Asks r s w q) where
  pub behind_inside : q.follows ≡ false → (keys : List Key) (t : S) (v : Spot) → Leads r q.site (asked_at w q) keys t v → Leads r s w keys t v
  behind_inside e _ _ _ starts = inside starts q a e
  behind_inside e _ _ _ (inside {keys = keys} {s = t} {w = v} chain p b f) = inside (behind_inside e keys t v chain) p b f
  behind_inside e _ _ _ (follows {keys = keys} {s = t} {w = v} chain p b f) = follows (behind_inside e keys t v chain) p b f

  pub behind_reference : q.follows ≡ true → (keys : List Key) (t : S) (v : Spot) → Leads r q.site (asked_at w q) keys t v → Leads r s w (keys ++ (key_at r w q ∷ [])) t v
  behind_reference e _ _ _ starts = follows starts q a e
  behind_reference e _ _ _ (inside {keys = keys} {s = t} {w = v} chain p b f) = inside (behind_reference e keys t v chain) p b f
  behind_reference e _ _ _ (follows {keys = keys} {s = t} {w = v} chain p b f) = follows (behind_reference e keys t v chain) p b f

-- ---- below a question

pub back_inside : (x : Setting) (q : Question Site) → Asks (reading_in x) x.site x.spot q → q.follows ≡ false → ComesBack (led_to x q x.keys) → ComesBack x
back_inside x q a e back = record {
  key = back.key;
  keys = back.keys;
  site = back.site;
  spot = back.spot;
  chain = behind_inside (reading_in x) x.site x.spot q a e (back.key ∷ back.keys) back.site back.spot back.chain;
  again = back.again;
}

pub back_followed : (x : Setting) (q : Question Site) → Asks (reading_in x) x.site x.spot q → q.follows ≡ true → ComesBack (led_to x q (key_of x q ∷ x.keys)) → ComesBack x
back_followed x q a e back = record {
  key = back.key;
  keys = back.keys ++ (key_of x q ∷ []);
  site = back.site;
  spot = back.spot;
  chain = behind_reference (reading_in x) x.site x.spot q a e (back.key ∷ back.keys) back.site back.spot back.chain;
  again = subst (λ (ks : List Key). In back.key ks) (sym (append_assoc back.keys (key_of x q ∷ []) x.keys)) back.again;
}

-- a reference that is in progress
pub back_here : (x : Setting) (q : Question Site) → Asks (reading_in x) x.site x.spot q → q.follows ≡ true → is_in_progress (key_of x q) x.keys ≡ true → ComesBack x
back_here x q a e is = record {
  key = key_of x q;
  keys = [];
  site = q.site;
  spot = asked_at x.spot q;
  chain = follows starts q a e;
  again = in_progress-in (key_of x q) x.keys is;
}

-- what is asked is read
pub asked_read : (x : Setting) (q : Question Site) → Asks (reading_in x) x.site x.spot q → AreRead x.documents x.makes x.site → AreRead x.documents x.makes q.site
asked_read x q a read = record {
  right = λ t reached. read.right t (reached_on x.documents x.makes x.site q.site t (one q.follows refl) reached);
}
  where
    one : (b : Bool) → q.follows ≡ b → Reached x.documents x.makes x.site q.site
    one true e = led_is_reached x.documents x.makes x.matches x.site x.spot (key_of x q ∷ []) q.site (asked_at x.spot q) (follows starts q a e)
    one false e = led_is_reached x.documents x.makes x.matches x.site x.spot [] q.site (asked_at x.spot q) (inside starts q a e)

-- ---- why a reading stops

pub stops_by : (P Q : Type 0) → (P → Q) → (stop : Stop) → Stops P stop → Stops Q stop
stops_by P Q f Memory h = tt
stops_by P Q f Circular h = f h

-- ---- a name, as a text

abbrev named_spot : List ℕ → Spot → Spot
named_spot k w = record { value = w.value; path = w.path; called = Some k; road = w.road }

abbrev named_key : List ℕ → Key → Key
named_key k key = record { target = key.target; path = key.path; called = Some k }

record OfText {S : Type 0} (r : Reading S) (k : List ℕ) (s : S) (w : Spot) (keys : List Key) (t : S) (v : Spot) : Type 0 where
  text : v.value ≡ string k
  chain : Leads r s (named_spot k w) (map (named_key k) keys) t (named_spot k v)

asked_named : {S : Type 0} (k : List ℕ) (v : Spot) (q : Question S) → q.step ≡ stay → asked_at (named_spot k v) q ≡ named_spot k (asked_at v q)
asked_named k v q e = ap (λ (step : Step). after (named_spot k v) step q.added) e ∙ ap (λ (step : Step). named_spot k (after v step q.added)) (sym e)

module _ {S : Type 0} (r : Reading S) (k : List ℕ) where
  stays : (s : S) (w : Spot) (q : Question S) → w.value ≡ string k → Asks r s w q → q.step ≡ stay
  stays s w q is a =
      let m = in_mapped (rule r.matches w.value) (r.keywords s) a.keyword a.stands in
      asked_stay r.matches k m.0 q (subst (λ (d : Data). In q (asks (rule r.matches d m.0))) is (subst (λ (u : Rule S). In q (asks u)) (sym m.2) a.asked))

  asks_named : (s : S) (v : Spot) (q : Question S) → Asks r s v q → Asks r s (named_spot k v) q
  asks_named s v q a = record { keyword = a.keyword; stands = a.stands; asked = a.asked }

  text_on : (s : S) (v : Spot) (q : Question S) → v.value ≡ string k → Asks r s v q → (asked_at v q).value ≡ string k
  text_on s v q is a = ap (λ (step : Step). value_after v.value step) (stays s v q is a) ∙ is

  of_text : (s : S) (w : Spot) → w.value ≡ string k → (keys : List Key) (t : S) (v : Spot) → Leads r s w keys t v → OfText r k s w keys t v
  of_text s w is _ _ _ starts = record { text = is; chain = starts }
  of_text s w is _ _ _ (inside {keys = keys} {s = t} {w = v} chain q a e) =
      let before = of_text s w is keys t v chain in record {
        text = text_on t v q before.text a;
        chain = subst (λ (y : Spot). Leads r s (named_spot k w) (map (named_key k) keys) q.site y) (asked_named k v q (stays t v q before.text a)) (inside before.chain q (asks_named t v q a) e);
      }
  of_text s w is _ _ _ (follows {keys = keys} {s = t} {w = v} chain q a e) =
      let before = of_text s w is keys t v chain in
      let on : asked_at (named_spot k v) q ≡ named_spot k (asked_at v q) = asked_named k v q (stays t v q before.text a) in
      let key : key_at r (named_spot k v) q ≡ named_key k (key_at r v q) = ap (λ (y : Spot). record { target = r.place q.site; path = y.path; called = y.called }) on in record {
        text = text_on t v q before.text a;
        chain = subst (λ (y : Spot). Leads r s (named_spot k w) (named_key k (key_at r v q) ∷ map (named_key k) keys) q.site y) on
            (subst (λ (key : Key). Leads r s (named_spot k w) (key ∷ map (named_key k) keys) q.site (asked_at (named_spot k v) q)) key (follows before.chain q (asks_named t v q a) e));
      }

-- the text alone, with nothing in progress
abbrev pub alone : Setting → Setting
alone x = record {
  documents = x.documents;
  makes = x.makes;
  matches = x.matches;
  depth = x.depth;
  keys = [];
  site = x.site;
  spot = record { value = x.spot.value; path = x.spot.path; called = None; road = x.spot.road };
}

pub back_at_name : (x : Setting) (k : List ℕ) → x.spot.value ≡ string k → x.spot.called ≡ Some k → ComesBack (alone x) → ComesBack x
back_at_name x k is called back =
    let y = alone x in
    let there = of_text (reading_in x) k x.site y.spot is (back.key ∷ back.keys) back.site back.spot back.chain in
    let same : named_spot k y.spot ≡ x.spot = ap (λ (o : Option (List ℕ)). record { value = x.spot.value; path = x.spot.path; called = o; road = x.spot.road }) (sym called) in
    record {
      key = named_key k back.key;
      keys = map (named_key k) back.keys;
      site = back.site;
      spot = named_spot k back.spot;
      chain = subst (λ (w : Spot). Leads (reading_in x) x.site w (map (named_key k) (back.key ∷ back.keys)) back.site (named_spot k back.spot)) same there.chain;
      again = in_front (named_key k back.key) (map (named_key k) back.keys) x.keys
          (in_map (named_key k) back.key back.keys (subst (λ (ks : List Key). In back.key ks) (append-nil back.keys) back.again));
    }

-- ---- a whole value

pub back_circular : (x : Setting) → x.keys ≡ [] → ComesBack x → IsCircular (reading_in x) x.site x.spot
back_circular x none back = record {
  key = back.key;
  keys = back.keys;
  site = back.site;
  spot = back.spot;
  chain = back.chain;
  again = subst (λ (ks : List Key). In back.key ks) (ap (λ (ks : List Key). back.keys ++ ks) none ∙ append-nil back.keys) back.again;
}
