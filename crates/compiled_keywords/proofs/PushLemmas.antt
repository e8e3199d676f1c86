-- Questions of compiled keywords, pushed one after another.
use Rattle.std.proofs.Common.{◌≡◌, ◌∙◌, ◌++◌, ℕ, zero, suc, List, [], ◌∷◌, map, drop, length, Bool, true, false, refl, sym, ap, subst, append_assoc}
use Rattle.std.proofs.lemmas.List.{take-append-drop, map-append}
use Rattle.std.specs.List.{flat_map}
use Rattle.serde_json.specs.Data.{Data, no_items}
use Rattle.serde_json.specs.View.{items_view}
use Rattle.serde_json.specs.declared.value.Value.{Value}
use Rattle.json_values.specs.Parts.{Part}
use Rattle.json_values.specs.Patterns.{matched}
use Rattle.schema_meaning.specs.Places.{to_member}
use Rattle.schema_meaning.specs.Questions.{question, at, at_name, items_from, item_by_item, each_member, Declared, is_declared}
use Rattle.schema_engine.specs.Questions.{PushesAs}
use Rattle.schema_engine.specs.declared.place.Question.{Question}
use Rattle.schema_engine.proofs.Pushing.{LeavesAs, seen_nothing, seen_start, seen_next, seen_done}
use Rattle.compiled_keywords.specs.Forms.{Asked, alone, form_of, added_in, asked_beside}
use Rattle.compiled_keywords.specs.declared.asks.Asks.{Asks}
use Rattle.compiled_keywords.specs.Members.{matching_of, others_among}
use Rattle.compiled_keywords.specs.Seen.{seen_by, Puts}

-- several at once
pub seen_more : {A : Type 0} (seen : Question → A) (old mid new : List Question) (xs left more all : List A) → left ≡ xs ++ more → LeavesAs seen old mid left all → PushesAs seen mid new xs
    → LeavesAs seen old new more all
seen_more seen old mid new xs left more all is so puts =
    let last = drop (length mid) new in
    record {
      pushed = so.pushed ++ last;
      behind = sym (take-append-drop (length mid) new) ∙ ap (λ qs. qs ++ last) (puts.kept ∙ so.behind) ∙ append_assoc old so.pushed last;
      rest = ap (λ ys. ys ++ more) (map-append seen so.pushed last ∙ ap (λ ys. map seen so.pushed ++ ys) puts.pushed) ∙ append_assoc (map seen so.pushed) xs more
          ∙ ap (λ ys. map seen so.pushed ++ ys) (sym is) ∙ so.rest;
    }

module _ (added : ℕ → List Part) where
  pub put_nothing : (old : List Question) (all : List Asked) → all ≡ [] → Puts added old old all
  put_nothing old all none = subst (λ xs. Puts added old old xs) (sym none) (seen_nothing (seen_by added) old)

  pub put_same : (old new : List Question) (left more all : List Asked) → left ≡ more → LeavesAs (seen_by added) old new left all → LeavesAs (seen_by added) old new more all
  put_same old new left more all is so = subst (λ xs. LeavesAs (seen_by added) old new xs all) is so

  pub put_start : (old : List Question) (left all : List Asked) → all ≡ left → LeavesAs (seen_by added) old old left all
  put_start old left all is = put_same old old all left all is (seen_start (seen_by added) old all)

  pub put_next : (old mid new : List Question) (q : Question) (left more all : List Asked) → left ≡ seen_by added q ∷ more → LeavesAs (seen_by added) old mid left all → new ≡ mid ++ q ∷ []
      → LeavesAs (seen_by added) old new more all
  put_next old mid new q left more all is so e = seen_next (seen_by added) old mid new q more all (put_same old mid left (seen_by added q ∷ more) all is so) e

  pub put_done : (old new : List Question) (left all : List Asked) → left ≡ [] → LeavesAs (seen_by added) old new left all → Puts added old new all
  put_done old new left all none so = seen_done (seen_by added) old new all (put_same old new left [] all none so)

  pub put_more : (old mid new : List Question) (xs left more all : List Asked) → left ≡ xs ++ more → LeavesAs (seen_by added) old mid left all → Puts added mid new xs
      → LeavesAs (seen_by added) old new more all
  put_more old mid new xs left more all is so puts = seen_more (seen_by added) old mid new xs left more all is so puts

pub drop_items : (start : ℕ) (vs : List Value) → items_from start (items_view vs) ≡ items_view (drop start vs)
drop_items zero [] = refl
drop_items zero (v ∷ vs) = refl
drop_items (suc start) [] = refl
drop_items (suc start) (v ∷ vs) = drop_items start vs

pub no_items_left : (k : List ℕ) (ns : List ℕ) (i : ℕ) → item_by_item k ns i no_items ≡ []
no_items_left k [] i = refl
no_items_left k (n ∷ ns) i = refl

module _ (reads : List ℕ → List ℕ → Bool) (k : List ℕ) where
  pub matched_next : (p : List ℕ × ℕ) (n : List ℕ) (e : Data) (ms more : List (List ℕ × Data)) → ms ≡ (n, e) ∷ more → matched reads p.0 n ≡ true
      → map alone (matching_of reads k p ms) ≡ alone (question p.1 (to_member n e) (at_name k p.0)) ∷ map alone (matching_of reads k p more)
  matched_next p n e ms more is yes_it_is = ap (λ xs. map alone (matching_of reads k p xs)) is ∙ rw yes_it_is refl

  pub unmatched_next : (p : List ℕ × ℕ) (n : List ℕ) (e : Data) (ms more : List (List ℕ × Data)) → ms ≡ (n, e) ∷ more → matched reads p.0 n ≡ false
      → map alone (matching_of reads k p ms) ≡ map alone (matching_of reads k p more)
  unmatched_next p n e ms more is not_so = ap (λ xs. map alone (matching_of reads k p xs)) is ∙ rw not_so refl

  pub none_matched : (ps : List (List ℕ × ℕ)) → flat_map (λ p. matching_of reads k p []) ps ≡ []
  none_matched [] = refl
  none_matched (p ∷ ps) = none_matched ps

  pub other_next : (w : Declared) (s : ℕ) (n : List ℕ) (e : Data) (ms more : List (List ℕ × Data)) → ms ≡ (n, e) ∷ more → is_declared reads w n ≡ false
      → map alone (each_member k s (others_among reads w ms)) ≡ alone (question s (to_member n e) (at k)) ∷ map alone (each_member k s (others_among reads w more))
  other_next w s n e ms more is other = ap (λ xs. map alone (each_member k s (others_among reads w xs))) is ∙ rw other refl

  pub declared_next : (w : Declared) (s : ℕ) (n : List ℕ) (e : Data) (ms more : List (List ℕ × Data)) → ms ≡ (n, e) ∷ more → is_declared reads w n ≡ true
      → map alone (each_member k s (others_among reads w ms))
      ≡ map alone (each_member k s (others_among reads w more))
  declared_next w s n e ms more is declared =
      ap (λ xs. map alone (each_member k s (others_among reads w xs))) is ∙ rw declared refl

-- by the form that a keyword's asking has
pub as_asked : (reads : List ℕ → List ℕ → Bool) (k : List ℕ) (d : Data) (old new : List Question) (f g : Asks) → f ≡ g → Puts (added_in k (form_of g)) old new (asked_beside reads k d (form_of g))
    → Puts (added_in k (form_of f)) old new (asked_beside reads k d (form_of f))
as_asked reads k d old new f g is puts = subst (λ a. Puts (added_in k (form_of a)) old new (asked_beside reads k d (form_of a))) (sym is) puts
