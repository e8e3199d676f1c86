-- Tables of patterns that grow.
use Rattle.std.proofs.Common.{if◌then◌else◌, ◌≡◌, ◌∙◌, ◌⊎◌, ℕ, zero, suc, List, [], ◌∷◌, ◌++◌, map, Bool, true, false, true≢false, ◌||◌, is_some, Option, Some, None, option_map, slice_get, IsSome, String, Global, string_bytes, bytes_eq, refl, sym, ap, subst, inl, inr, append-nil, append_assoc}
use Rattle.std.specs.Map.{lookup}
use Rattle.std.proofs.lemmas.List.{map-append}
use Rattle.std.proofs.lemmas.Slice.Eq.{bytes_eq-Decides}
use Rattle.json_values.specs.Patterns.{Literal, literal_of, literal_or, means, known}
use Rattle.schema_meaning.specs.Members.{In, first, later, is_listed}
use Rattle.applicators.specs.Made.{AreMade, is_made_by}
use Rattle.schema_patterns.specs.Compiled.{found_by}
use Rattle.schema_patterns.specs.Tables.{entries_of, texts_of_table, pattern_for, AreMadeBy, GrowsBy}
use Rattle.schema_patterns.specs.declared.compiled.CompiledPattern.{CompiledPattern}
use Rattle.schema_patterns.specs.declared.table.PatternTable.{PatternTable}
use Rattle.certificate_laws.proofs.Named.{listed_in}
use Rattle.reached_sites.specs.Patterns.{Holds, IsFilled, IsFront}
use Rattle.reached_sites.proofs.Listing.{in-before, in-either, in-one, none-in}

-- ---- names of a list

listed-first : (b : Bool) → (true || b) ≡ true
listed-first b = refl

listed-later : (b c : Bool) → c ≡ true → (b || c) ≡ true
listed-later true c e = refl
listed-later false c e = e

pub in-listed : (p : List ℕ) (ns : List (List ℕ)) → In p ns → is_listed p ns ≡ true
in-listed p [] i = none-in i
in-listed p (_ ∷ ns) first = ap (λ (b : Bool). b || is_listed p ns) ((bytes_eq-Decides p p).1 refl)
in-listed p (n ∷ ns) (later i) = listed-later (bytes_eq p n) (is_listed p ns) (in-listed p ns i)

pub not-made : (makes : List ℕ → Bool) (p : List ℕ) → literal_of p ≡ None → makes p ≡ false → is_made_by makes p ≡ false
not-made makes p plain e = ap (λ (o : Option Literal). is_some o || makes p) plain ∙ e

none-some : {A P : Type 0} (x : A) → None ≡ Some x → P
none-some x e = absurd (cc (e))

-- another answer for one pattern
abbrev told : List ℕ → Option Bool → (List ℕ → List ℕ → Option Bool) → List ℕ → List ℕ → Option Bool
told p o finished q t = if bytes_eq p q then o else finished q t

-- ---- fronts of lists

pub same-front : {A : Type 0} (xs ys : List A) → ys ≡ xs → IsFront xs ys
same-front xs ys e = record { behind = []; is = e ∙ sym (append-nil xs) }

pub further-front : {A : Type 0} {xs ys zs : List A} → IsFront xs ys → IsFront ys zs → IsFront xs zs
further-front {xs = xs} f g = record { behind = f.behind ++ g.behind; is = g.is ∙ ap (λ l. l ++ g.behind) f.is ∙ append_assoc xs f.behind g.behind }

module _ {M : Type 0} where
  -- ---- patterns by their texts

  abbrev found : List (List ℕ × CompiledPattern M) → List ℕ → Option (CompiledPattern M)
  found [] p = None
  found (e ∷ es) p = if bytes_eq p e.0 then Some e.1 else found es p

  abbrev entry : String Global × CompiledPattern M → List ℕ × CompiledPattern M
  entry e = (string_bytes e.0, e.1)

  same-found : (es : List (String Global × CompiledPattern M)) (p : List ℕ) → lookup (λ k. bytes_eq p (string_bytes k)) es ≡ found (map entry es) p
  same-found [] p = refl
  same-found (e ∷ es) p = ap (λ (o : Option (CompiledPattern M)). if bytes_eq p (string_bytes e.0) then Some e.1 else o) (same-found es p)

  found-end : (es : List (List ℕ × CompiledPattern M)) (p : List ℕ) (c : CompiledPattern M) → found es p ≡ None → found (es ++ (p, c) ∷ []) p ≡ Some c
  found-end [] p c e = ap (λ (b : Bool). if b then Some c else None) ((bytes_eq-Decides p p).1 refl)
  found-end (e ∷ es) p c none = by (bytes_eq p e.0) none (λ n. found-end es p c n)
    where
      by : (b : Bool) → (if b then Some e.1 else found es p) ≡ None → (found es p ≡ None → found (es ++ (p, c) ∷ []) p ≡ Some c)
          → (if b then Some e.1 else found (es ++ (p, c) ∷ []) p) ≡ Some c
      by true n h = none-some e.1 (sym n)
      by false n h = h n

  pub found-grown : (old new : PatternTable M) (p : List ℕ) (g : GrowsBy p (entries_of old) (entries_of new)) → pattern_for old p ≡ None → pattern_for new p ≡ Some g.0
  found-grown old new p g none =
      same-found new.patterns.entries p ∙ ap (λ (es : List (List ℕ × CompiledPattern M)). found es p) g.1
      ∙ found-end (entries_of old) p g.0 (sym (same-found old.patterns.entries p) ∙ none)

  numbered-in : (es : List (List ℕ × CompiledPattern M)) (n : ℕ) (p : List ℕ) → option_map (λ e. e.0) (slice_get es n) ≡ Some p → In p (map (λ e. e.0) es)
  numbered-in [] n p e = none-some p e
  numbered-in (x ∷ es) zero p e = let same : x.0 ≡ p = cc (e) in subst (λ (t : List ℕ). In t (map (λ e. e.0) (x ∷ es))) same first
  numbered-in (x ∷ es) (suc n) p e = later (numbered-in es n p e)

  pub numbered-listed : (table : PatternTable M) (n : ℕ) (p : List ℕ) → option_map (λ e. e.0) (slice_get (entries_of table) n) ≡ Some p → is_listed p (texts_of_table table) ≡ true
  numbered-listed table n p e = in-listed p (texts_of_table table) (numbered-in (entries_of table) n p e)

  -- ---- a text that is added is made: were it not, what is found of it could be said to be anything

  module _ (finds : M → List ℕ → Option Bool) (finished : List ℕ → List ℕ → Option Bool) (old new : PatternTable M) (p : List ℕ) where
    others-told : (o : Option Bool) → pattern_for old p ≡ None → AreMadeBy finds finished old → AreMadeBy finds (told p o finished) old
    others-told o none m = record { each = λ q c is t. by q c is t (bytes_eq p q) refl }
      where
        by : (q : List ℕ) (c : CompiledPattern M) → pattern_for old q ≡ Some c → (t : List ℕ) (b : Bool) → bytes_eq p q ≡ b → found_by finds c t ≡ known (told p o finished) q t
        by q c is t true e = none-some c (sym none ∙ ap (pattern_for old) ((bytes_eq-Decides p q).0 e) ∙ is)
        by q c is t false e =
            m.each q c is t ∙ ap (λ (b : Bool). literal_or (λ (l : Literal). Some (means l t)) (if b then o else finished q t) (literal_of q)) (sym e)

    its-own : (o : Option Bool) (c : CompiledPattern M) → literal_of p ≡ None → pattern_for new p ≡ Some c → AreMadeBy finds (told p o finished) new → (t : List ℕ) → found_by finds c t ≡ o
    its-own o c plain is m t =
        m.each p c is t ∙ ap (literal_or (λ (l : Literal). Some (means l t)) (told p o finished p t)) plain
        ∙ ap (λ (b : Bool). if b then o else finished p t) ((bytes_eq-Decides p p).1 refl)

    never-unmade : {P : Type 0} (c : CompiledPattern M) → literal_of p ≡ None → pattern_for old p ≡ None → pattern_for new p ≡ Some c → AreMadeBy finds finished old
        → ((fin : List ℕ → List ℕ → Option Bool) (o : Option Bool) → fin ≡ told p o finished → AreMadeBy finds fin old → AreMadeBy finds fin new) → P
    never-unmade c plain none is m goes =
        let one = its-own None c plain is (goes (told p None finished) None refl (others-told None none m)) [] in
        let other = its-own (Some true) c plain is (goes (told p (Some true) finished) (Some true) refl (others-told (Some true) none m)) [] in
        none-some true (sym one ∙ other)

    pub added-made : (Post : M → Type 0) (makes : List ℕ → Bool) (g : GrowsBy p (entries_of old) (entries_of new)) → pattern_for old p ≡ None → AreMadeBy finds finished old
        → ((fin : List ℕ → List ℕ → Option Bool) → ((m : M) → Post m → (t : List ℕ) → finds m t ≡ fin p t) → AreMadeBy finds fin old → AreMadeBy finds fin new)
        → ((m : M) → Post m → makes p ≡ true) → is_made_by makes p ≡ true
    added-made Post makes g none m goes made = by (literal_of p) refl (makes p) refl
      where
        by : (o : Option Literal) → literal_of p ≡ o → (b : Bool) → makes p ≡ b → is_made_by makes p ≡ true
        by (Some l) plain b e = ap (λ (o : Option Literal). is_some o || makes p) plain
        by None plain true e = ap (λ (o : Option Literal). is_some o || makes p) plain ∙ e
        by None plain false e =
            never-unmade g.0 plain none (found-grown old new p g none) m
            (λ fin o is. goes fin (λ matcher k t. absurd (true≢false (sym (made matcher k) ∙ e))))

  -- ---- behind an addition

  module _ (old new : PatternTable M) (p : List ℕ) (kept : IsSome (pattern_for old p) → entries_of new ≡ entries_of old) (grown : pattern_for old p ≡ None → GrowsBy p (entries_of old) (entries_of new)) where
    texts-grown : GrowsBy p (entries_of old) (entries_of new) → texts_of_table new ≡ texts_of_table old ++ p ∷ []
    texts-grown g = ap (map (λ e. e.0)) g.1 ∙ map-append (λ e. e.0) (entries_of old) ((p, g.0) ∷ [])

    texts-kept : (c : CompiledPattern M) → pattern_for old p ≡ Some c → texts_of_table new ≡ texts_of_table old
    texts-kept c is = ap (map (λ e. e.0)) (kept (subst (λ (o : Option (CompiledPattern M)). IsSome o) (sym is) refl))

    pub addition-holds : Holds new (texts_of_table old)
    addition-holds q i = in-listed q (texts_of_table new) (by (pattern_for old p) refl)
      where
        by : (o : Option (CompiledPattern M)) → pattern_for old p ≡ o → In q (texts_of_table new)
        by None is = subst (λ (ts : List (List ℕ)). In q ts) (sym (texts-grown (grown is))) (in-before (texts_of_table old) (p ∷ []) i)
        by (Some c) is = subst (λ (ts : List (List ℕ)). In q ts) (sym (texts-kept c is)) i

    pub addition-front : IsFront (texts_of_table old) (texts_of_table new)
    addition-front = by (pattern_for old p) refl
      where
        by : (o : Option (CompiledPattern M)) → pattern_for old p ≡ o → IsFront (texts_of_table old) (texts_of_table new)
        by None is = record { behind = p ∷ []; is = texts-grown (grown is) }
        by (Some c) is = same-front (texts_of_table old) (texts_of_table new) (texts-kept c is)

    pub addition-filled : (finds : M → List ℕ → Option Bool) (finished : List ℕ → List ℕ → Option Bool) (makes : List ℕ → Bool)
        → (AreMadeBy finds finished old → AreMadeBy finds finished new) → (pattern_for old p ≡ None → AreMadeBy finds finished old → is_made_by makes p ≡ true)
        → IsFilled finds finished makes old → IsFilled finds finished makes new
    addition-filled finds finished makes goes fresh f = record { made = goes f.made; each = by (pattern_for old p) refl }
      where
        one-of : (q : List ℕ) → pattern_for old p ≡ None → In q (texts_of_table old) ⊎ In q (p ∷ []) → is_made_by makes q ≡ true
        one-of q none (inl i) = f.each.each q i
        one-of q none (inr i) = subst (λ (t : List ℕ). is_made_by makes t ≡ true) (sym (in-one i)) (fresh none f.made)

        by : (o : Option (CompiledPattern M)) → pattern_for old p ≡ o → AreMade makes (texts_of_table new)
        by None is = record {
          each = λ q i. one-of q is (in-either (texts_of_table old) (p ∷ []) (subst (λ (ts : List (List ℕ)). In q ts) (texts-grown (grown is)) i));
        }
        by (Some c) is = subst (λ (ts : List (List ℕ)). AreMade makes ts) (sym (texts-kept c is)) f.each

  -- ---- tables that hold more

  pub holds-too : (one other : PatternTable M) (ps : List (List ℕ)) → Holds one ps → Holds other (texts_of_table one) → Holds other ps
  holds-too one other ps h g p i = g p (listed_in p (texts_of_table one) (h p i))

  pub holds-itself : (table : PatternTable M) → Holds table (texts_of_table table)
  holds-itself table p i = in-listed p (texts_of_table table) i

  pub holds-none : (table : PatternTable M) → Holds table []
  holds-none table p i = none-in i

  pub holds-both : (table : PatternTable M) (ps qs : List (List ℕ)) → Holds table ps → Holds table qs → Holds table (ps ++ qs)
  holds-both table ps qs h g p i = by (in-either ps qs i)
    where
      by : In p ps ⊎ In p qs → is_listed p (texts_of_table table) ≡ true
      by (inl j) = h p j
      by (inr j) = g p j

  pub holds-one : (table : PatternTable M) (p : List ℕ) → is_listed p (texts_of_table table) ≡ true → Holds table (p ∷ [])
  holds-one table p e q i = subst (λ (t : List ℕ). is_listed t (texts_of_table table) ≡ true) (sym (in-one i)) e

  -- the patterns that a table holds are made
  pub held-made : (finds : M → List ℕ → Option Bool) (finished : List ℕ → List ℕ → Option Bool) (makes : List ℕ → Bool) (table : PatternTable M) (ps : List (List ℕ))
      → IsFilled finds finished makes table → Holds table ps → AreMade makes ps
  held-made finds finished makes table ps f h = record { each = λ p i. f.each.each p (listed_in p (texts_of_table table) (h p i)) }

  pub empty-filled : (finds : M → List ℕ → Option Bool) (finished : List ℕ → List ℕ → Option Bool) (makes : List ℕ → Bool) (table : PatternTable M) → entries_of table ≡ []
      → IsFilled finds finished makes table
  empty-filled finds finished makes table e = record {
    made = record { each = λ p c is. none-some c (sym (same-found table.patterns.entries p ∙ ap (λ (es : List (List ℕ × CompiledPattern M)). found es p) e) ∙ is) };
    each = record { each = λ p i. none-in (subst (λ (es : List (List ℕ × CompiledPattern M)). In p (map (λ e. e.0) es)) e i) };
  }

-- ---- behind an addition that was refused

module _ {M : Type 0} (old new : PatternTable M) (same : entries_of new ≡ entries_of old) where
  same-texts : texts_of_table new ≡ texts_of_table old
  same-texts = ap (map (λ e. e.0)) same

  pub refused-holds : Holds new (texts_of_table old)
  refused-holds p i = subst (λ (ts : List (List ℕ)). is_listed p ts ≡ true) (sym same-texts) (holds-itself old p i)

  pub refused-front : IsFront (texts_of_table old) (texts_of_table new)
  refused-front = same-front (texts_of_table old) (texts_of_table new) same-texts

  pub refused-filled : (finds : M → List ℕ → Option Bool) (finished : List ℕ → List ℕ → Option Bool) (makes : List ℕ → Bool) → (AreMadeBy finds finished old → AreMadeBy finds finished new)
      → IsFilled finds finished makes old → IsFilled finds finished makes new
  refused-filled finds finished makes goes f = record { made = goes f.made; each = subst (λ ts. AreMade makes ts) (sym same-texts) f.each }
