-- Where a value is circular below a question, it is circular at the schema that asks it.
use Rattle.std.proofs.Common.{◌≡◌, ◌∙◌, ◌++◌, ℕ, List, [], ◌∷◌, true, false, Bool, map, Option, Some, None, refl, sym, ap, subst, append_assoc}
use Rattle.serde_json.specs.Data.{Data}
use Rattle.json_values.specs.Parts.{Part}
use Rattle.schema_meaning.specs.Members.{In, first, later}
use Rattle.schema_meaning.specs.Places.{Spot, Key, whole, Step, stay, to_item, to_member, to_name, value_after, path_after, called_after}
use Rattle.schema_meaning.specs.Questions.{Question, asked_at}
use Rattle.schema_meaning.specs.Readings.{Reading, Asks}
use Rattle.schema_meaning.specs.Circular.{key_at, Leads, starts, inside, follows, IsCircular}
use Rattle.meaning_laws.proofs.Obliged.{in_map}

in_front : {A : Type 0} {x : A} (xs ys : List A) → In x xs → In x (xs ++ ys)
in_front [] ys i = elim i [ ]
in_front (y ∷ xs) ys first = first
in_front (y ∷ xs) ys (later i) = later (in_front xs ys i)

-- where a spot further down is called: the value itself as the one that is asked, all below as before
called_further : Option (List ℕ) → List Part → Option (List ℕ) → Option (List ℕ)
called_further call [] None = call
called_further call (x ∷ p) None = None
called_further call p (Some k) = Some k

-- a spot further down, and the key there
moved_spot : Option (List ℕ) → List Part → List Part → Spot → Spot
moved_spot call base above w = record { value = w.value; path = w.path ++ base; called = called_further call w.path w.called; road = w.road ++ above }

moved_key : Option (List ℕ) → List Part → Key → Key
moved_key call base k = record { target = k.target; path = k.path ++ base; called = called_further call k.path k.called }

path_further : (p base : List Part) (step : Step) → path_after p step ++ base ≡ path_after (p ++ base) step
path_further p base stay = refl
path_further p base (to_item i e) = refl
path_further p base (to_member k e) = refl
path_further p base (to_name k) = refl

called_on : (call : Option (List ℕ)) (p : List Part) (c : Option (List ℕ)) (step : Step)
    → called_further call (path_after p step) (called_after c step) ≡ called_after (called_further call p c) step
unfolding called_further
called_on call p c stay = refl
called_on call p c (to_item i e) = refl
called_on call p c (to_member k e) = refl
called_on call p c (to_name k) = named p
  where
    named : (p : List Part) → called_further call p (Some k) ≡ Some k
    named [] = refl
    named (x ∷ p) = refl

module _ {S : Type 0} (r : Reading S) (call : Option (List ℕ)) (base above : List Part) where
  asked_further : (w : Spot) (q : Question S) → moved_spot call base above (asked_at w q) ≡ asked_at (moved_spot call base above w) q
  unfolding moved_spot
  asked_further w q =
      ap (λ p. record { value = value_after w.value q.step; path = p; called = called_further call (path_after w.path q.step) (called_after w.called q.step); road = (q.added ++ w.road) ++ above }) (path_further w.path base q.step)
      ∙ ap (λ c. record { value = value_after w.value q.step; path = path_after (w.path ++ base) q.step; called = c; road = (q.added ++ w.road) ++ above }) (called_on call w.path w.called q.step)
      ∙ ap (λ x. record { value = value_after w.value q.step; path = path_after (w.path ++ base) q.step; called = called_after (called_further call w.path w.called) q.step; road = x }) (append_assoc q.added w.road above)

  key_further : (w : Spot) (q : Question S) → moved_key call base (key_at r w q) ≡ key_at r (moved_spot call base above w) q
  unfolding moved_spot moved_key
  key_further w q =
      ap (λ p. record { target = r.place q.site; path = p; called = called_further call (path_after w.path q.step) (called_after w.called q.step) }) (path_further w.path base q.step)
      ∙ ap (λ c. record { target = r.place q.site; path = path_after (w.path ++ base) q.step; called = c }) (called_on call w.path w.called q.step)

  asks_further : (s : S) (w : Spot) (q : Question S) → Asks r s w q → Asks r s (moved_spot call base above w) q
  unfolding moved_spot
  asks_further s w q a = record { keyword = a.keyword; stands = a.stands; asked = a.asked }

  leads_further : (s : S) (w : Spot) (t : S) (v : Spot) (keys : List Key) → Leads r s w keys t v
      → Leads r s (moved_spot call base above w) (map (moved_key call base) keys) t (moved_spot call base above v)
  leads_further s w _ _ _ starts = starts
  leads_further s w _ _ _ (inside {keys = keys} {s = u} {w = x} chain q a e) =
      subst (λ y. Leads r s (moved_spot call base above w) (map (moved_key call base) keys) q.site y) (sym (asked_further x q))
      (inside (leads_further s w u x keys chain) q (asks_further u x q a) e)
  leads_further s w _ _ _ (follows {keys = keys} {s = u} {w = x} chain q a e) =
      subst (λ y. Leads r s (moved_spot call base above w) (moved_key call base (key_at r x q) ∷ map (moved_key call base) keys) q.site y) (sym (asked_further x q))
      (subst (λ k. Leads r s (moved_spot call base above w) (k ∷ map (moved_key call base) keys) q.site (asked_at (moved_spot call base above x) q)) (sym (key_further x q))
      (follows (leads_further s w u x keys chain) q (asks_further u x q a) e))

module _ {S : Type 0} (r : Reading S) where
  -- one chain behind another
  leads_on : (s t : S) (w v : Spot) (before : List Key) (u : S) (x : Spot) (keys : List Key) → Leads r s w before t v → Leads r t v keys u x → Leads r s w (keys ++ before) u x
  leads_on s t w v before _ _ _ h starts = h
  leads_on s t w v before _ _ _ h (inside {keys = keys} {s = u} {w = x} chain q a e) = inside (leads_on s t w v before u x keys h chain) q a e
  leads_on s t w v before _ _ _ h (follows {keys = keys} {s = u} {w = x} chain q a e) = follows (leads_on s t w v before u x keys h chain) q a e

  -- a chain of one question
  asked_chain : (s : S) (w : Spot) (q : Question S) → Asks r s w q → (b : Bool) → q.follows ≡ b → (keys : List Key) × Leads r s w keys q.site (asked_at w q)
  asked_chain s w q a true e = (key_at r w q ∷ [], follows starts q a e)
  asked_chain s w q a false e = ([], inside starts q a e)

  asked_whole : (d : Data) (q : Question S)
      → asked_at (whole d) q ≡ moved_spot (called_after None q.step) (path_after [] q.step) (q.added ++ []) (whole (value_after d q.step))
  unfolding moved_spot called_further
  asked_whole d q = refl

  pub circular_above : (s : S) (d : Data) (q : Question S) → Asks r s (whole d) q → IsCircular r q.site (whole (value_after d q.step)) → IsCircular r s (whole d)
  circular_above s d q a c =
      let call : Option (List ℕ) = called_after None q.step in
      let base : List Part = path_after [] q.step in
      let above : List Part = q.added ++ [] in
      let moved : Spot → Spot = moved_spot call base above in
      let begun = asked_chain s (whole d) q a q.follows refl in
      let chain = leads_further r call base above q.site (whole (value_after d q.step)) c.site c.spot (c.key ∷ c.keys) c.chain in
      let there : Leads r s (whole d) begun.0 q.site (moved (whole (value_after d q.step))) =
      subst (λ y. Leads r s (whole d) begun.0 q.site y) (asked_whole d q) begun.1 in
      record {
        key = moved_key call base c.key;
        keys = map (moved_key call base) c.keys ++ begun.0;
        site = c.site;
        spot = moved c.spot;
        chain = leads_on s q.site (whole d) (moved (whole (value_after d q.step))) begun.0 c.site (moved c.spot) (map (moved_key call base) (c.key ∷ c.keys)) there chain;
        again = in_front (map (moved_key call base) c.keys) begun.0 (in_map (moved_key call base) c.key c.keys c.again);
      }
