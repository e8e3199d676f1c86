-- Maps of validators, by what was checked of their places.
use Rattle.std.proofs.Common.{◌≡◌, ◌∙◌, ℕ, zero, suc, List, [], ◌∷◌, ◌++◌, Bool, true, false, Option, Some, None, String, Global, bytes_eq, string_bytes, is_some, IfSome, map, take, slice_get, append-nil, length, inl, inr, refl, sym, ap, subst, arith}
use Rattle.std.specs.Bool.{Decides}
use Rattle.std.specs.List.{All, AllByRecursion, AllZip, IsDistinct}
use Rattle.std.specs.Map.{lookup}
use Rattle.std.specs.Prelude.{if◌then◌else◌}
use Rattle.std.proofs.lemmas.Bool.{false≢true, false_from_ne_true}
use Rattle.std.proofs.lemmas.Slice.Eq.{bytes_eq-Decides}
use Rattle.schema_meaning.specs.Members.{In, first, later}
use Rattle.schema_definitions.specs.Words.{or_else}
use Rattle.schema_definitions.specs.Bearers.{Document}
use Rattle.schema_registries.specs.Pointers.{pointers_of, reference_to, document_at, IsDocumentAt}
use Rattle.reached_sites.specs.Passed.{AreWithin}
use Rattle.reached_sites.specs.declared.cause.BuildCause.{BuildCause}
use Rattle.compiled_graphs.specs.Causes.{RefusesEach}
use Rattle.compiled_graphs.specs.Starts.{sites_from}
use Rattle.schema_patterns.specs.declared.table.PatternTable.{PatternTable}
use Rattle.schema_patterns.specs.declared.matcher.PatternMatcher.{Ghosts}
use Rattle.schema_registries.specs.Roots.{Patterns, IsSound}
use Rattle.schema_engine.specs.declared.node.Node.{Node}
use Rattle.compiled_keywords.specs.declared.keyword.Keyword.{Keyword}
use Rattle.compiled_graphs.specs.Several.{AreDecided, StartsAtNode, AreBuilt}
use Rattle.compiled_graphs.specs.declared.schemas.SchemaGraph.{SchemaGraph}
use Rattle.schema_validators.specs.Maps as maps
use Rattle.schema_validators.specs.Maps.{keys_of, entries_in, entry_at, place_root, SortsOut, ReadsPlace, IsMapOf, StandsAtPlace, PutsPlace, Enters, ArePlacesExceeded}
use Rattle.schema_validators.specs.Meant.{Means, IsOfSome}
use Rattle.schema_validators.specs.Refused.{IsOfPlaces}
use Rattle.schema_validators.specs.declared.error.BuildError.{BuildError}
use Rattle.schema_validators.specs.declared.validator.Validator.{Validator}
use Rattle.schema_validators.specs.declared.validator_map.ValidatorMap.{ValidatorMap}
use Rattle.schema_validators.proofs.Making.{made_over}

-- ---- entries by their texts

module _ {X : Type 0} where
  abbrev pub found : List (List ℕ × X) → List ℕ → Option X
  found [] k = None
  found (e ∷ es) k = if bytes_eq k e.0 then Some e.1 else found es k

  abbrev entry : String Global × X → List ℕ × X
  entry e = (string_bytes e.0, e.1)

  pub same-found : (es : List (String Global × X)) (k : List ℕ) → lookup (λ s. bytes_eq k (string_bytes s)) es ≡ found (map entry es) k
  same-found [] k = refl
  same-found (e ∷ es) k = ap (λ (o : Option X). if bytes_eq k (string_bytes e.0) then Some e.1 else o) (same-found es k)

  abbrev names_of : List (List ℕ × X) → List (List ℕ)
  names_of es = map (λ e. e.0) es

  pub same-names : (es : List (String Global × X)) → map (λ e. string_bytes e.0) es ≡ names_of (map entry es)
  same-names [] = refl
  same-names (e ∷ es) = ap (λ (ks : List (List ℕ)). string_bytes e.0 ∷ ks) (same-names es)

  found-by : (e : List ℕ × X) (es : List (List ℕ × X)) (k : List ℕ) (x : X) (b : Bool) → bytes_eq k e.0 ≡ b → (if b then Some e.1 else found es k) ≡ Some x → (found es k ≡ Some x → In (k, x) es)
      → In (k, x) (e ∷ es)
  found-by e es k x true t is rest =
      let value : e.1 ≡ x = cc in
      let name : k ≡ e.0 = (bytes_eq-Decides k e.0).0 t in
      subst (λ (y : List ℕ × X). In y (e ∷ es)) (rw (name, sym value) refl) first
  found-by e es k x false t is rest = later (rest is)

  pub found-in : (es : List (List ℕ × X)) (k : List ℕ) (x : X) → found es k ≡ Some x → In (k, x) es
  found-in [] k x e = absurd (cc (e))
  found-in (e ∷ es) k x is = found-by e es k x (bytes_eq k e.0) refl is (found-in es k x)

  some-by : (b : Bool) (x : X) (o : Option X) → is_some o ≡ true → is_some (if b then Some x else o) ≡ true
  some-by true x o e = refl
  some-by false x o e = e

  pub in-found : (es : List (List ℕ × X)) (k : List ℕ) (x : X) → In (k, x) es → is_some (found es k) ≡ true
  in-found [] k x i = elim i [ ]
  in-found (_ ∷ es) k x first = ap (λ (b : Bool). is_some (if b then Some x else found es k)) ((bytes_eq-Decides k k).1 refl)
  in-found (e ∷ es) k x (later i) = some-by (bytes_eq k e.0) e.1 (found es k) (in-found es k x i)

  pub absent : (es : List (List ℕ × X)) (k : List ℕ) → ((n : List ℕ) → In n (names_of es) → bytes_eq n k ≡ false) → found es k ≡ None
  absent [] k h = refl
  absent (e ∷ es) k h = ap (λ (b : Bool). if b then Some e.1 else found es k) (apart k e.0 (h e.0 first)) ∙ absent es k (λ n i. h n (later i))
    where
      apart : (a b : List ℕ) → bytes_eq b a ≡ false → bytes_eq a b ≡ false
      apart a b f = false_from_ne_true (bytes_eq a b) (λ t. false≢true (sym f ∙ (bytes_eq-Decides b a).1 (sym ((bytes_eq-Decides a b).0 t))))

-- ---- names that differ

of-all : (P : List ℕ → Type 0) (x : List ℕ) (xs : List (List ℕ)) → AllByRecursion P xs → In x xs → P x
of-all P x [] h i = elim i [ ]
of-all P x (_ ∷ xs) h first = h.0
of-all P x (y ∷ xs) h (later i) = of-all P x xs h.1 i

place-in : (xs : List (List ℕ)) (i : ℕ) (x : List ℕ) → slice_get xs i ≡ Some x → In x xs
place-in [] i x e = absurd (cc (e))
place-in (y ∷ xs) zero x e = (let same : y ≡ x = cc in subst (λ z. In z (y ∷ xs)) same first)
place-in (y ∷ xs) (suc i) x e = later (place-in xs i x e)

pub differ-before : (xs : List (List ℕ)) (i : ℕ) (x : List ℕ) → IsDistinct bytes_eq xs → slice_get xs i ≡ Some x → (y : List ℕ) → In y (take i xs) → bytes_eq y x ≡ false
unfolding IsDistinct
differ-before [] i x d e y j = absurd (cc (e))
differ-before (z ∷ xs) zero x d e y j = elim j [ ]
differ-before (z ∷ xs) (suc i) x d e _ first = of-all (λ w. bytes_eq z w ≡ false) x xs d.0 (place-in xs i x e)
differ-before (z ∷ xs) (suc i) x d e y (later j) = differ-before xs i x d.1 e y j

-- ---- validators that are put behind others

module _ {M : Type 0} {G : Ghosts M} (own : List Document) (document : List ℕ) (schemas : SchemaGraph M G) where
  abbrev Entered : List (List ℕ) → List (Option ℕ) → List (List ℕ × Validator M G) → Type 0
  Entered ks os es = Enters own document schemas ks os es

  behind : (ks : List (List ℕ)) (os : List (Option ℕ)) (es added : List (List ℕ × Validator M G)) (k : List ℕ) (o : Option ℕ) → Entered ks os es → Entered (k ∷ []) (o ∷ []) added
      → Entered (ks ++ k ∷ []) (os ++ o ∷ []) (es ++ added)
  behind _ _ _ added k o maps.none r = r
  behind _ _ _ added k o (maps.taken {pointers = ks} {starts = os} {entries = es} n i v s rest) r = maps.taken n i v s (behind ks os es added k o rest r)
  behind _ _ es added k o (maps.left {pointers = ks} {starts = os} n rest) r = maps.left n (behind ks os es added k o rest r)

  pub entered-more : (ks : List (List ℕ)) (os : List (Option ℕ)) (old new : List (List ℕ × Validator M G)) (k : List ℕ) (o : Option ℕ) → Entered ks os old → PutsPlace own document schemas k o old new
      → Entered (ks ++ k ∷ []) (os ++ o ∷ []) new
  entered-more ks os old new k (Some i) h p =
      subst (λ es. Entered (ks ++ k ∷ []) (os ++ Some i ∷ []) es) (sym p.2) (behind ks os old ((k, p.0) ∷ []) k (Some i) h (maps.taken k i p.0 p.1 maps.none))
  entered-more ks os old new k None h e =
      subst (λ es. Entered (ks ++ k ∷ []) (os ++ None ∷ []) es) (sym (e ∙ sym (append-nil old))) (behind ks os old [] k None h (maps.left k maps.none))

  -- the names of what was put down are among the pointers
  pub entered-names : (ks : List (List ℕ)) (os : List (Option ℕ)) (es : List (List ℕ × Validator M G)) → Entered ks os es → (n : List ℕ) → In n (map (λ e. e.0) es) → In n ks
  entered-names _ _ _ maps.none n i = elim i [ ]
  entered-names _ _ _ (maps.taken k j v s rest) _ first = first
  entered-names _ _ _ (maps.taken {pointers = ks} {starts = os} {entries = es} k j v s rest) n (later i) = later (entered-names ks os es rest n i)
  entered-names _ _ es (maps.left {pointers = ks} {starts = os} k rest) n i = later (entered-names ks os es rest n i)

  -- ---- by what was decided of each

  module _ (p : Patterns) where
    abbrev Sound : List ℕ → Type 0
    Sound k = IsSound p (place_root own document k)

    abbrev MeansAt : List ℕ → ℕ → Type 0
    MeansAt k i = Means p (place_root own document k) schemas.graph.nodes.items i

    -- a start stands just where the place may be read, at a node that means it
    abbrev IsStart : List ℕ → Option ℕ → Type 0
    IsStart k o = Decides (is_some o) (Sound k) × IfSome o (MeansAt k)

    abbrev AreStarts : List (List ℕ) → List (Option ℕ) → Type 0
    AreStarts ks os = AllZip IsStart ks os

    pub record IsEntry (ks : List (List ℕ)) (k : List ℕ) (v : Validator M G) : Type 0 where
      pub start : ℕ
      pub stands : StandsAtPlace own document schemas k start v
      pub means : MeansAt k start
      pub listed : In k ks
      pub sound : Sound k

    entry-later : (n : List ℕ) (ks : List (List ℕ)) (k : List ℕ) (v : Validator M G) → IsEntry ks k v → IsEntry (n ∷ ks) k v
    entry-later n ks k v h = record { start = h.start; stands = h.stands; means = h.means; listed = later h.listed; sound = h.sound }

    pub each-entry : (ks : List (List ℕ)) (os : List (Option ℕ)) (es : List (List ℕ × Validator M G)) → Entered ks os es → AreStarts ks os → (k : List ℕ) (v : Validator M G) → In (k, v) es → IsEntry ks k v
    each-entry _ _ _ maps.none d k v i = elim i [ ]
    each-entry _ _ _ (maps.taken n j w s rest) d _ _ first = record { start = j; stands = s; means = d.0.1; listed = first; sound = d.0.0.0 refl }
    each-entry _ _ _ (maps.taken {pointers = ks} {starts = os} {entries = es} n j w s rest) d k v (later i) = entry-later n ks k v (each-entry ks os es rest d.1 k v i)
    each-entry _ _ es (maps.left {pointers = ks} {starts = os} n rest) d k v i = entry-later n ks k v (each-entry ks os es rest d.1 k v i)

    abbrev HasEntry : List (List ℕ × Validator M G) → List ℕ → Type 0
    HasEntry es k = (v : Validator M G) × In (k, v) es

    more-entries : (e : List ℕ × Validator M G) (es : List (List ℕ × Validator M G)) (k : List ℕ) → HasEntry es k → HasEntry (e ∷ es) k
    more-entries e es k h = (h.0, later h.1)

    pub each-sound : (ks : List (List ℕ)) (os : List (Option ℕ)) (es : List (List ℕ × Validator M G)) → Entered ks os es → AreStarts ks os → (k : List ℕ) → In k ks → Sound k → HasEntry es k
    each-sound _ _ _ maps.none d k i sound = elim i [ ]
    each-sound _ _ _ (maps.taken n j v s rest) d _ first sound = (v, first)
    each-sound _ _ _ (maps.taken {pointers = ks} {starts = os} {entries = es} n j v s rest) d k (later i) sound = more-entries (n, v) es k (each-sound ks os es rest d.1 k i sound)
    each-sound _ _ es (maps.left {pointers = ks} {starts = os} n rest) d _ first sound = absurd (false≢true (d.0.0.1 sound))
    each-sound _ _ es (maps.left {pointers = ks} {starts = os} n rest) d k (later i) sound = each-sound ks os es rest d.1 k i sound

    pub sorted : (ks : List (List ℕ)) (os : List (Option ℕ)) (es : List (List ℕ × Validator M G)) → Entered ks os es → AreStarts ks os → SortsOut p own document ks (map (λ e. e.0) es)
    sorted _ _ _ maps.none d = maps.none
    sorted _ _ _ (maps.taken {pointers = ks} {starts = os} {entries = es} n j v s rest) d = maps.taken n (d.0.0.0 refl) (sorted ks os es rest d.1)
    sorted _ _ es (maps.left {pointers = ks} {starts = os} n rest) d = maps.left n (λ sound. false≢true (d.0.0.1 sound)) (sorted ks os es rest d.1)

    -- each start that stands is of some root
    of-some : (k : List ℕ) (o : Option ℕ) → IsStart k o → IsOfSome schemas.graph.nodes.items o
    of-some k None h = tt
    of-some k (Some i) h = λ none. none p (place_root own document k) (h.0.0 refl) h.1

    pub starts-of-some : (ks : List (List ℕ)) (os : List (Option ℕ)) → AreStarts ks os → All (IsOfSome schemas.graph.nodes.items) os
    starts-of-some [] [] h i d within = absurd (omega (within, arith))
    starts-of-some [] (o ∷ os) h i d within = absurd h
    starts-of-some (k ∷ ks) [] h i d within = absurd h
    starts-of-some (k ∷ ks) (o ∷ os) h zero d within = of-some k o h.0
    starts-of-some (k ∷ ks) (o ∷ os) h (suc i) d within = starts-of-some ks os h.1 i d (omega (within, arith))

-- ---- what was built of the references is known of the pointers

pub starts-of : {M : Type 0} {G : Ghosts M} (p : Patterns) (own : List Document) (document : List ℕ) (schemas : SchemaGraph M G) (ks : List (List ℕ)) (os : List (Option ℕ)) → AreDecided p own document (map reference_to ks) os
    → AllZip (StartsAtNode p.makes own document schemas.graph.nodes.items) (map reference_to ks) os → AreStarts own document schemas p ks os
starts-of p own document schemas [] [] d h = tt
starts-of p own document schemas [] (o ∷ os) d h = absurd h
starts-of p own document schemas (k ∷ ks) [] d h = absurd h
starts-of p own document schemas (k ∷ ks) (o ∷ os) d h = ((d.0, h.0), starts-of p own document schemas ks os d.1 h.1)

reference-in : (ks : List (List ℕ)) (k : List ℕ) → In k ks → In (reference_to k) (map reference_to ks)
reference-in [] k i = elim i [ ]
reference-in (_ ∷ ks) k first = first
reference-in (n ∷ ks) k (later i) = later (reference-in ks k i)

module _ {M : Type 0} {G : Ghosts M} (p : Patterns) (own : List Document) (document : List ℕ) (ks : List (List ℕ)) (limit : ℕ) (schemas : SchemaGraph M G) (starts : List (Option ℕ)) (m : ValidatorMap M G)
    (checked : AreBuilt G.finds p own document (map reference_to ks) limit schemas.graph.nodes.items schemas.table starts)
    (entered : Enters own document schemas ks starts (entries_in m)) where
  are-starts : AreStarts own document schemas p ks starts
  are-starts = starts-of p own document schemas ks starts checked.decided checked.compiled

  there : (k : List ℕ) → entry_at m k ≡ found (entries_in m) k
  there k = same-found m.validators.entries k

  entry-of : (k : List ℕ) (v : Validator M G) → entry_at m k ≡ Some v → IsEntry own document schemas p ks k v
  entry-of k v e = each-entry own document schemas p ks starts (entries_in m) entered are-starts k v (found-in (entries_in m) k v (sym (there k) ∙ e))

  reads-place : (k : List ℕ) (v : Validator M G) → IsEntry own document schemas p ks k v → ReadsPlace p own document k v
  reads-place k v h = record {
    made = made_over p (place_root own document k) v schemas h.start h.stands.schemas_are h.stands.start_is (record {
      sound = h.sound;
      means = h.means;
      patterns = checked.patterns (reference_to k) (reference-in ks k h.listed) h.sound;
      made = checked.made;
    });
    draft = h.stands.draft;
  }

  has-validator : (o : Option (Validator M G)) (k : List ℕ) → entry_at m k ≡ o → is_some o ≡ true → In k ks × IsSound p (place_root own document k)
  has-validator None k e t = absurd (false≢true t)
  has-validator (Some v) k e t = (let h = entry-of k v e in (h.listed, h.sound))

  has-entry : (k : List ℕ) → In k ks × IsSound p (place_root own document k) → is_some (entry_at m k) ≡ true
  has-entry k h =
      let x = each-sound own document schemas p ks starts (entries_in m) entered are-starts k h.0 h.1 in
      ap is_some (there k) ∙ in-found (entries_in m) k x.0 x.1

  keys-sorted : SortsOut p own document ks (keys_of m)
  keys-sorted =
      subst (λ (x : List (List ℕ)). SortsOut p own document ks x) (sym (same-names m.validators.entries)) (sorted own document schemas p ks starts (entries_in m) entered are-starts)

  abbrev Readable : Document → List ℕ → Type 0
  Readable d k = In k (pointers_of own d) × IsSound p (place_root own d.uri k)

  exactly-there : (d : Document) → d.uri ≡ document → ks ≡ pointers_of own d → (k : List ℕ) → is_some (entry_at m k) ≡ true → Readable d k
  exactly-there d named are k t =
      let h = has-validator (entry_at m k) k refl t in
      (subst (λ (x : List (List ℕ)). In k x) are h.0, subst (λ (u : List ℕ). IsSound p (place_root own u k)) (sym named) h.1)

  exactly-back : (d : Document) → d.uri ≡ document → ks ≡ pointers_of own d → (k : List ℕ) → Readable d k → is_some (entry_at m k) ≡ true
  exactly-back d named are k h = has-entry k (subst (λ (x : List (List ℕ)). In k x) (sym are) h.0, subst (λ (u : List ℕ). IsSound p (place_root own u k)) named h.1)

  pub is-map : (d : Document) → d.uri ≡ document → ks ≡ pointers_of own d → IsMapOf p own d limit m
  is-map d named are = record {
    keys = subst (λ (u : List ℕ). SortsOut p own u (pointers_of own d) (keys_of m)) (sym named) (subst (λ (x : List (List ℕ)). SortsOut p own document x (keys_of m)) are keys-sorted);
    exactly = λ k. (exactly-there d named are k, exactly-back d named are k);
    reads = λ k v e. subst (λ (u : List ℕ). ReadsPlace p own u k v) (sym named) (reads-place k v (entry-of k v e));
    within = subst (λ (u : List ℕ). AreWithin own p.makes (sites_from own u (map reference_to (pointers_of own d))) limit) (sym named)
        (subst (λ (x : List (List ℕ)). AreWithin own p.makes (sites_from own document (map reference_to x)) limit) are checked.within);
  }

-- ---- the document of a URI

uri-by : (b : Bool) (x d : Document) (o : Option Document) (uri : List ℕ) → bytes_eq x.uri uri ≡ b → or_else o (if b then Some x else None) ≡ Some d → (o ≡ Some d → d.uri ≡ uri) → d.uri ≡ uri
uri-by b x d (Some y) uri t e rest = rest e
uri-by true x d None uri t e rest = (let same : x ≡ d = cc in ap (λ (y : Document). y.uri) (sym same) ∙ (bytes_eq-Decides x.uri uri).0 t)
uri-by false x d None uri t e rest = absurd (cc (e))

pub uri-of : (own : List Document) (uri : List ℕ) (d : Document) → IsDocumentAt own uri d → d.uri ≡ uri
uri-of [] uri d e = absurd (cc (e))
uri-of (x ∷ own) uri d e = uri-by (bytes_eq x.uri uri) x d (document_at own uri) uri refl e (uri-of own uri d)

-- ---- lists side by side

module _ {A B : Type 0} (R : A → B → Type 0) where
  pub zip-length : (xs : List A) (ys : List B) → AllZip R xs ys → length xs ≡ length ys
  zip-length [] [] h = refl
  zip-length [] (y ∷ ys) h = absurd h
  zip-length (x ∷ xs) [] h = absurd h
  zip-length (x ∷ xs) (y ∷ ys) h = ap suc (zip-length xs ys h.1)

  pub zip-at : (xs : List A) (ys : List B) (i : ℕ) (x : A) (y : B) → AllZip R xs ys → slice_get xs i ≡ Some x → slice_get ys i ≡ Some y → R x y
  zip-at [] ys i x y h e f = absurd (cc (e))
  zip-at (a ∷ xs) [] i x y h e f = absurd h
  zip-at (a ∷ xs) (b ∷ ys) zero x y h e f = (let same : a ≡ x = cc in let also : b ≡ y = cc in subst (λ z. R z y) same (subst (λ z. R a z) also h.0))
  zip-at (a ∷ xs) (b ∷ ys) (suc i) x y h e f = zip-at xs ys i x y h.1 e f

module _ {A B : Type 0} (f : A → B) where
  pub slice-map : (xs : List A) (i : ℕ) (x : A) → slice_get xs i ≡ Some x → slice_get (map f xs) i ≡ Some (f x)
  slice-map [] i x e = absurd (cc (e))
  slice-map (y ∷ xs) zero x e = (let same : y ≡ x = cc in ap (λ z. Some (f z)) same)
  slice-map (y ∷ xs) (suc i) x e = slice-map xs i x e

  pub map-take : (i : ℕ) (xs : List A) → map f (take i xs) ≡ take i (map f xs)
  map-take zero xs = refl
  map-take (suc i) [] = refl
  map-take (suc i) (x ∷ xs) = ap (λ ys. f x ∷ ys) (map-take i xs)

pub key-texts : {X : Type 0} (es : List (String Global × X)) → map string_bytes (map (λ e. e.0) es) ≡ map (λ e. string_bytes e.0) es
key-texts [] = refl
key-texts (e ∷ es) = ap (λ (ks : List (List ℕ)). string_bytes e.0 ∷ ks) (key-texts es)

-- ---- the same among equal documents and texts

pub pointers-there : (own other : List Document) (uri : List ℕ) (ks : List (List ℕ)) → other ≡ own → ((d : Document) → IsDocumentAt other uri d → ks ≡ pointers_of other d) → (d : Document) → IsDocumentAt own uri d
    → ks ≡ pointers_of own d
pointers-there own other uri ks same h = subst (λ (ds : List Document). (d : Document) → IsDocumentAt ds uri d → ks ≡ pointers_of ds d) same h

pub built-there : {M : Type 0} (finds : M → List ℕ → Option Bool) (p : Patterns) (own other : List Document) (uri : List ℕ) (refs ks : List (List ℕ)) (limit : ℕ) (nodes : List (Node Keyword)) (table : PatternTable M) (starts : List (Option ℕ)) → other ≡ own → refs ≡ map reference_to ks
    → AreBuilt finds p other uri refs limit nodes table starts → AreBuilt finds p own uri (map reference_to ks) limit nodes table starts
built-there finds p own other uri refs ks limit nodes table starts same texts h =
    subst (λ (x : List (List ℕ)). AreBuilt finds p own uri x limit nodes table starts) texts (subst (λ (ds : List Document). AreBuilt finds p ds uri refs limit nodes table starts) same h)

pub entered-there : {M : Type 0} {G : Ghosts M} (own : List Document) (uri : List ℕ) (schemas : SchemaGraph M G) (ps qs : List (String Global)) (os us : List (Option ℕ)) (m : ValidatorMap M G) → qs ≡ ps → us ≡ os
    → Enters own uri schemas (map string_bytes qs) us (entries_in m) → Enters own uri schemas (map string_bytes ps) os (entries_in m)
entered-there own uri schemas ps qs os us m e f h =
    subst (λ (x : List (Option ℕ)). Enters own uri schemas (map string_bytes ps) x (entries_in m)) f (subst (λ (x : List (String Global)). Enters own uri schemas (map string_bytes x) us (entries_in m)) e h)

places-refused : (p : Patterns) (own : List Document) (d : Document) (limit : ℕ) (e : BuildCause) (b : BuildError) → IsOfPlaces e b
    → RefusesEach own p.makes (sites_from own d.uri (map reference_to (pointers_of own d))) limit e → ArePlacesExceeded p own d limit b
places-refused p own d limit e b (inl m) r = subst (λ (x : BuildError). ArePlacesExceeded p own d limit x) (sym m.1) tt
places-refused p own d limit e b (inr n) (inl x) = subst (λ (y : BuildError). ArePlacesExceeded p own d limit y) (sym n.1) x
places-refused p own d limit e b (inr n) (inr m) = absurd (n.0 m)

pub refused-there : (p : Patterns) (own other : List Document) (uri : List ℕ) (refs ks : List (List ℕ)) (limit : ℕ) (d : Document) (e : BuildCause) (b : BuildError) → other ≡ own → refs ≡ map reference_to ks
    → ks ≡ pointers_of own d → d.uri ≡ uri → IsOfPlaces e b → RefusesEach other p.makes (sites_from other uri refs) limit e → ArePlacesExceeded p own d limit b
refused-there p own other uri refs ks limit d e b same texts are named of r =
    places-refused p own d limit e b of
    (subst (λ (u : List ℕ). RefusesEach own p.makes (sites_from own u (map reference_to (pointers_of own d))) limit e) (sym named)
    (subst (λ (x : List (List ℕ)). RefusesEach own p.makes (sites_from own uri (map reference_to x)) limit e) are
    (subst (λ (x : List (List ℕ)). RefusesEach own p.makes (sites_from own uri x) limit e) texts
    (subst (λ (ds : List Document). RefusesEach ds p.makes (sites_from ds uri refs) limit e) same r))))
