-- Patterns by their numbers in a table.
use Rattle.std.proofs.Common.{arith, ◌≡◌, ◌∙◌, ◌+◌, ◌++◌, ◌||◌, ℕ, zero, suc, List, [], ◌∷◌, map, Bool, true, false, not, cond, bytes_eq, Option, None, Some, IfSome, slice_get, refl, sym, ap, ap₂}
use Rattle.std.proofs.lemmas.Slice.Eq.{bytes_eq-Decides}
use Rattle.schema_definitions.specs.Words.{or}
use Rattle.schema_meaning.specs.Members.{In, first, later, is_listed}
use Rattle.compiled_keywords.specs.Applied.{asks_of}
use Rattle.compiled_keywords.specs.Owned.{text_of, by_pattern, IsNumbered, AreNumbered, AllNumbered}
use Rattle.compiled_keywords.specs.Shapes.{Knows, KnowsAsked}
use Rattle.compiled_keywords.specs.declared.asks.Asks.{Asks}
use Rattle.compiled_keywords.specs.declared.asks.Asks.TheVariants as code
use Rattle.compiled_keywords.specs.declared.keyword.Keyword.{Keyword}
use Rattle.compiled_keywords.specs.declared.keyword.Keyword.TheVariants as keyword
use Rattle.compiled_keywords.specs.declared.subschemas.Pattern.{Pattern}
use Rattle.compiled_keywords.specs.declared.subschemas.PatternNode.{PatternNode}
use Rattle.keyword_compilers.specs.Numbers.{first_in, rest_in, beside}
use Rattle.keyword_compilers.specs.Patterns.{patterns_among, patterns_of, patterns_in, number_in, numbered, seen, seen_node, table_texts, AreHeld, AreEntries}

-- ---- the patterns of nodes

pub texts_seen : (texts : List (List ℕ)) (ps : List Pattern) (ks : List (List ℕ)) → map seen ps ≡ map (numbered texts) ks → map text_of ps ≡ ks
texts_seen texts [] [] e = refl
texts_seen texts [] (k ∷ ks) e = absurd (cc)
texts_seen texts (p ∷ ps) [] e = absurd (cc)
texts_seen texts (p ∷ ps) (k ∷ ks) e =
    let head : seen p ≡ numbered texts k = cc in
    let rest : map seen ps ≡ map (numbered texts) ks = cc in
    ap₂ (λ (t : List ℕ) (ts : List (List ℕ)). t ∷ ts) (ap (λ (r : List ℕ × ℕ). r.0) head) (texts_seen texts ps ks rest)

pub nodes_of_texts : (texts : List (List ℕ)) (ns : List PatternNode) (ks : List (List ℕ)) (ms : List ℕ) → map seen_node ns ≡ beside (map (numbered texts) ks) ms → map by_pattern ns ≡ beside ks ms
nodes_of_texts texts [] [] ms e = refl
nodes_of_texts texts [] (k ∷ ks) ms e = absurd (cc)
nodes_of_texts texts (n ∷ ns) [] ms e = absurd (cc)
nodes_of_texts texts (n ∷ ns) (k ∷ ks) ms e =
    let head : seen_node n ≡ (numbered texts k, first_in ms) = cc in
    let rest : map seen_node ns ≡ beside (map (numbered texts) ks) (rest_in ms) = cc in
    ap₂ (λ (p : List ℕ × ℕ) (ps : List (List ℕ × ℕ)). p ∷ ps) (ap (λ (r : (List ℕ × ℕ) × ℕ). (r.0.0, r.1)) head) (nodes_of_texts texts ns ks (rest_in ms) rest)

pub patterns_of_nodes : (texts : List (List ℕ)) (ns : List PatternNode) (ks : List (List ℕ)) (ms : List ℕ) → map seen_node ns ≡ beside (map (numbered texts) ks) ms
    → map seen (map (λ n. n.pattern) ns) ≡ map (numbered texts) ks
patterns_of_nodes texts [] [] ms e = refl
patterns_of_nodes texts [] (k ∷ ks) ms e = absurd (cc)
patterns_of_nodes texts (n ∷ ns) [] ms e = absurd (cc)
patterns_of_nodes texts (n ∷ ns) (k ∷ ks) ms e =
    let head : seen_node n ≡ (numbered texts k, first_in ms) = cc in
    let rest : map seen_node ns ≡ beside (map (numbered texts) ks) (rest_in ms) = cc in
    ap₂ (λ (p : List ℕ × ℕ) (ps : List (List ℕ × ℕ)). p ∷ ps) (ap (λ (r : (List ℕ × ℕ) × ℕ). r.0) head) (patterns_of_nodes texts ns ks (rest_in ms) rest)

-- ---- a text that is held stands at its number

number_found : (texts : List (List ℕ)) (p : List ℕ) → is_listed p texts ≡ true → slice_get texts (number_in texts p) ≡ Some p
number_found [] p h = absurd (cc)
number_found (t ∷ ts) p h = by (bytes_eq p t) refl h (number_found ts p)
  where
    by : (b : Bool) → bytes_eq p t ≡ b → (b || is_listed p ts) ≡ true → (is_listed p ts ≡ true → slice_get ts (number_in ts p) ≡ Some p)
        → slice_get (t ∷ ts) (cond (not b) (1 + number_in ts p) 0) ≡ Some p
    by true e i more = ap Some (sym ((bytes_eq-Decides p t).0 e))
    by false e i more =
        let next : 1 + number_in ts p ≡ suc (number_in ts p) = omega arith in
        ap (slice_get (t ∷ ts)) next ∙ more i

entry_of : (texts : List (List ℕ)) (ps : List Pattern) (ks : List (List ℕ)) → map seen ps ≡ map (numbered texts) ks → ((k : List ℕ) → In k ks → is_listed k texts ≡ true)
    → (p : Pattern) → In p ps → slice_get texts p.number ≡ Some (text_of p)
entry_of texts [] ks e held p i = absurd (elim i [ ])
entry_of texts (q ∷ ps) [] e held p i = absurd (cc)
entry_of texts (q ∷ ps) (k ∷ ks) e held _ first =
    let is : seen q ≡ numbered texts k = cc in
    ap (λ (r : List ℕ × ℕ). slice_get texts r.1) is ∙ number_found texts k (held k first) ∙ ap (λ (r : List ℕ × ℕ). Some r.0) (sym is)
entry_of texts (q ∷ ps) (k ∷ ks) e held p (later i) =
    let rest : map seen ps ≡ map (numbered texts) ks = cc in
    entry_of texts ps ks rest (λ l j. held l (later j)) p i

pub entries_so : (texts : List (List ℕ)) (ps : List Pattern) (ks : List (List ℕ)) → map seen ps ≡ map (numbered texts) ks → AreHeld texts ks → AreEntries texts ps
entries_so texts ps ks e held = record { each = entry_of texts ps ks e held.each }

-- and stays there where more come behind
still_there : {A : Type 0} (xs ys : List A) (n : ℕ) (x : A) → slice_get xs n ≡ Some x → slice_get (xs ++ ys) n ≡ Some x
still_there [] ys n x e = absurd (cc)
still_there (y ∷ xs) ys zero x e = e
still_there (y ∷ xs) ys (suc n) x e = still_there xs ys n x e

pub entries_stay : (texts more : List (List ℕ)) (ps : List Pattern) → AreEntries texts ps → AreEntries (texts ++ more) ps
entries_stay texts more ps h = record { each = λ p i. still_there texts more p.number (text_of p) (h.each p i) }

-- ---- what a keyword knows

module _ (texts : List (List ℕ)) where
  numbered_so : (p : Pattern) → slice_get texts p.number ≡ Some (text_of p) → IsNumbered (table_texts texts) p
  numbered_so p e = ap (or []) e

  all_numbered : (ps : List Pattern) → ((p : Pattern) → In p ps → slice_get texts p.number ≡ Some (text_of p)) → AllNumbered (table_texts texts) ps
  all_numbered [] h = tt
  all_numbered (p ∷ ps) h = (numbered_so p (h p first), all_numbered ps (λ q i. h q (later i)))

  are_numbered : (ns : List PatternNode) → ((p : Pattern) → In p (map (λ n. n.pattern) ns) → slice_get texts p.number ≡ Some (text_of p)) → AreNumbered (table_texts texts) ns
  are_numbered [] h = tt
  are_numbered (n ∷ ns) h = (numbered_so n.pattern (h n.pattern first), are_numbered ns (λ q i. h q (later i)))

  knows_asked : (f : Asks) → AreEntries texts (patterns_among f) → KnowsAsked f (table_texts texts)
  knows_asked (code.MatchingMembers nodes) h = are_numbered nodes.items h.each
  knows_asked (code.OtherMembers declared node) h = all_numbered declared.patterns.items h.each
  knows_asked f h = tt

  -- a keyword whose patterns stand among the texts knows them
  pub knows_entries : (c : Keyword) → AreEntries texts (patterns_of c) → Knows c (table_texts texts)
  knows_entries keyword.Never h = tt
  knows_entries (keyword.Assertion alloc a) h = tt
  knows_entries (keyword.Pattern p) h = numbered_so p (h.each p first)
  knows_entries (keyword.Applicator a) h = knows_asked (asks_of a) h
  knows_entries (keyword.Reference r node) h = tt

  pub knows_in : (o : Option Keyword) → AreEntries texts (patterns_in o) → IfSome o (λ c. Knows c (table_texts texts))
  knows_in None h = tt
  knows_in (Some c) h = knows_entries c h
