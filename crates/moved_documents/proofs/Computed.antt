-- The premises hold of a pair of documents.
use Rattle.std.proofs.Common.{◌≡◌, ◌∙◌, ◌||◌, ◌&&◌, ℕ, List, [], ◌∷◌, Bool, true, false, bytes_eq, codes, Option, refl, sym}
use Rattle.std.proofs.lemmas.Slice.Eq.{bytes_eq-Decides}
use Rattle.std.specs.Str.{is_utf8, chars}
use Rattle.std.specs.Fmt.{digits}
use Rattle.serde_json.proofs.OnLiterals.{serde_json_on_literals}
use Rattle.uri_grammar.specs.Parts.{split}
use Rattle.uri_grammar.specs.Grammar.{is_reference}
use Rattle.uri_references.specs.Resolution.{resolve}
use Rattle.uri_references.specs.NormalForm.{normal}
use Rattle.uri_references.specs.Dots.{remove_dots}
use Rattle.schema_drafts.specs.declared.draft.Draft.TheVariants.{Draft4, Draft6, Draft7, Draft201909, Draft202012, Unknown}
use Rattle.schema_meaning.specs.Members.{In, first, later}
use Rattle.schema_definitions.specs.Identifiers.{resolved, anchors}
use Rattle.schema_definitions.specs.Places.{Dialect, places}
use Rattle.schema_definitions.specs.Bearers.{standings, bears, bears_anchor, meta}
use Rattle.moved_documents.specs.Forms.{inside}
use Rattle.moved_documents.specs.Premises.{IsFresh, IsNormal, BornOnce}
use Rattle.moved_documents.specs.Example.{texts, whole, TextsCanMove}

pub leaf_fresh : IsFresh (codes "leaf")
leaf_fresh Draft4 = refl
leaf_fresh Draft6 = refl
leaf_fresh Draft7 = refl
leaf_fresh Draft201909 = refl
leaf_fresh Draft202012 = refl
leaf_fresh Unknown = refl

pub leaf_normal : IsNormal (codes "http://a.test/leaf.json")
unfolding split is_reference resolve normal remove_dots resolved
leaf_normal base = refl

-- ---- three places, of which each bears its own

module _ {A : Type 0} (test : A → Bool) where
  one_of_three : (x y z : A) → (test x ≡ true → test y ≡ true → ⊥) → (test z ≡ true → ⊥)
      → (s t : A) → In s (x ∷ y ∷ z ∷ []) → In t (x ∷ y ∷ z ∷ []) → test s ≡ true → test t ≡ true → s ≡ t
  one_of_three x y z apart none _ _ first first e f = refl
  one_of_three x y z apart none _ _ first (later first) e f = absurd (apart e f)
  one_of_three x y z apart none _ _ first (later (later first)) e f = absurd (none f)
  one_of_three x y z apart none _ t first (later (later (later j))) e f = elim j [ ]
  one_of_three x y z apart none _ _ (later first) first e f = absurd (apart f e)
  one_of_three x y z apart none _ _ (later first) (later first) e f = refl
  one_of_three x y z apart none _ _ (later first) (later (later first)) e f = absurd (none f)
  one_of_three x y z apart none _ t (later first) (later (later (later j))) e f = elim j [ ]
  one_of_three x y z apart none _ t (later (later first)) j e f = absurd (none e)
  one_of_three x y z apart none s t (later (later (later i))) j e f = elim i [ ]

  none_of_three : (x y z : A) → (test x ≡ true → ⊥) → (test y ≡ true → ⊥) → (test z ≡ true → ⊥)
      → (s t : A) → In s (x ∷ y ∷ z ∷ []) → In t (x ∷ y ∷ z ∷ []) → test s ≡ true → test t ≡ true → s ≡ t
  none_of_three x y z here there none s t i j e f = one_of_three x y z (λ a b. here a) none s t i j e f

either_true : (b : Bool) → (b || b) ≡ true → b ≡ true
either_true true e = refl
either_true false e = e

never : (b : Bool) → (b && false) ≡ true → ⊥
never true e = (let no : false ≡ true = e in absurd (cc))
never false e = (let no : false ≡ true = e in absurd (cc))

two_uris : (a b uri : List ℕ) → bytes_eq a b ≡ false → (bytes_eq a uri || bytes_eq a uri) ≡ true → bytes_eq b uri ≡ true → ⊥
two_uris a b uri apart e f =
    let one : a ≡ uri = (bytes_eq-Decides a uri).0 (either_true (bytes_eq a uri) e) in
    let other : b ≡ uri = (bytes_eq-Decides b uri).0 f in
    let no : true ≡ false = sym ((bytes_eq-Decides a b).1 (one ∙ sym other)) ∙ apart in
    absurd (cc)

texts_born_once : (told : List ℕ → Option Dialect) → BornOnce told (inside texts whole)
unfolding digits serde_json_on_literals lib.Utf8.encode is_utf8 chars split is_reference resolve normal remove_dots resolved places standings
texts_born_once told = record {
  uris = λ uri s t i j e f.
      one_of_three (bears uri) _ _ _ (two_uris (codes "http://a.test/root.json") (codes "http://a.test/leaf.json") uri refl) (λ no. absurd (cc)) s t i j e f;
  names = λ base k s t i j e f.
      none_of_three (bears_anchor anchors base k) _ _ _ (never (bytes_eq (codes "http://a.test/root.json") base)) (never (bytes_eq (codes "http://a.test/leaf.json") base))
      (never (bytes_eq (codes "http://a.test/root.json") base)) s t i j e f;
}

pub texts_can_move : TextsCanMove
unfolding digits serde_json_on_literals lib.Utf8.encode is_utf8 chars split is_reference resolve normal remove_dots resolved places standings
texts_can_move = record {
  joined = refl;
  fresh = leaf_fresh;
  embeds = refl;
  root = refl;
  moved = refl;
  normal = leaf_normal;
  identified = refl;
  rises = refl;
  once = texts_born_once (meta (inside texts whole));
}
