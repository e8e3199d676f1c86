-- Questions pushed one after another, for keywords to cite.
use Rattle.std.proofs.Common.{◌≡◌, ℕ, List, [], ◌∷◌, ◌++◌, map, drop, length, refl, sym, ap, ap₂, ◌∙◌, append_assoc}
use Rattle.std.proofs.lemmas.List.{take-append-drop, map-append}
use Rattle.std.proofs.Math.Seq.{take-append_seam, drop-append_seam}
use Rattle.json_values.specs.Parts.{Part}
use Rattle.schema_meaning.specs.Questions as told
use Rattle.schema_engine.specs.declared.place.Question.{Question}
use Rattle.schema_engine.specs.Questions.{Call, call_of, question_by, Pushes, PushesAs, PushesAsked}

nothing_more : {A : Type 0} (xs : List A) → xs ++ [] ≡ xs
nothing_more [] = refl
nothing_more (x ∷ xs) = ap (λ ys. x ∷ ys) (nothing_more xs)

-- ---- whatever is seen of a question

module _ {A : Type 0} (seen : Question → A) where
  -- these stand behind what was there, and of all, these are left to push
  pub record LeavesAs (old new : List Question) (left all : List A) : Type 0 where
    pub pushed : List Question
    pub behind : new ≡ old ++ pushed
    pub rest : map seen pushed ++ left ≡ all

  pushes_behind : (old new pushed : List Question) (as_seen : List A) → new ≡ old ++ pushed → map seen pushed ≡ as_seen → PushesAs seen old new as_seen
  pushes_behind old new pushed as_seen behind is = rw behind (record {
    kept = take-append_seam old pushed;
    pushed = ap (map seen) (drop-append_seam old pushed) ∙ is;
  })

  behind_of : (old new : List Question) (as_seen : List A) → PushesAs seen old new as_seen → new ≡ old ++ drop (length old) new
  behind_of old new as_seen pushes = sym (take-append-drop (length old) new) ∙ ap (λ xs. xs ++ drop (length old) new) pushes.kept

  pub seen_nothing : (old : List Question) → PushesAs seen old old []
  seen_nothing old = pushes_behind old old [] [] (sym (nothing_more old)) refl

  pub seen_one : (old new : List Question) (q : Question) → new ≡ old ++ q ∷ [] → PushesAs seen old new (seen q ∷ [])
  seen_one old new q e = pushes_behind old new (q ∷ []) (seen q ∷ []) e refl

  pub seen_both : (old mid new : List Question) (xs ys : List A) → PushesAs seen old mid xs → PushesAs seen mid new ys → PushesAs seen old new (xs ++ ys)
  seen_both old mid new xs ys front rest =
      pushes_behind old new (drop (length old) mid ++ drop (length mid) new) (xs ++ ys)
      (behind_of mid new ys rest ∙ ap (λ qs. qs ++ drop (length mid) new) (behind_of old mid xs front) ∙ append_assoc old (drop (length old) mid) (drop (length mid) new))
      (map-append seen (drop (length old) mid) (drop (length mid) new) ∙ ap₂ (λ us vs. us ++ vs) front.pushed rest.pushed)

  pub seen_start : (old : List Question) (all : List A) → LeavesAs old old all all
  seen_start old all = record { pushed = []; behind = sym (nothing_more old); rest = refl }

  pub seen_next : (old mid new : List Question) (q : Question) (left all : List A) → LeavesAs old mid (seen q ∷ left) all → new ≡ mid ++ q ∷ [] → LeavesAs old new left all
  seen_next old mid new q left all so e = record {
    pushed = so.pushed ++ q ∷ [];
    behind = e ∙ ap (λ xs. xs ++ q ∷ []) so.behind ∙ append_assoc old so.pushed (q ∷ []);
    rest = ap (λ xs. xs ++ left) (map-append seen so.pushed (q ∷ [])) ∙ append_assoc (map seen so.pushed) (seen q ∷ []) left ∙ so.rest;
  }

  pub seen_done : (old new : List Question) (all : List A) → LeavesAs old new [] all → PushesAs seen old new all
  seen_done old new all so = pushes_behind old new so.pushed all so.behind (sym (nothing_more (map seen so.pushed)) ∙ so.rest)

-- ---- as calls

abbrev pub LeavesToPush : List Question → List Question → List Call → List Call → Type 0
LeavesToPush old new left all = LeavesAs call_of old new left all

pub pushes_nothing : (old : List Question) → Pushes old old []
pushes_nothing old = seen_nothing call_of old

pub pushes_one : (old new : List Question) (q : Question) → new ≡ old ++ q ∷ [] → Pushes old new (call_of q ∷ [])
pushes_one old new q e = seen_one call_of old new q e

pub pushes_both : (old mid new : List Question) (cs ds : List Call) → Pushes old mid cs → Pushes mid new ds → Pushes old new (cs ++ ds)
pushes_both old mid new cs ds front rest = seen_both call_of old mid new cs ds front rest

pub push_start : (old : List Question) (all : List Call) → LeavesToPush old old all all
push_start old all = seen_start call_of old all

pub push_next : (old mid new : List Question) (q : Question) (left all : List Call) → LeavesToPush old mid (call_of q ∷ left) all → new ≡ mid ++ q ∷ [] → LeavesToPush old new left all
push_next old mid new q left all so e = seen_next call_of old mid new q left all so e

pub push_done : (old new : List Question) (all : List Call) → LeavesToPush old new [] all → Pushes old new all
push_done old new all so = seen_done call_of old new all so

-- ---- as questions of a rule, by the parts of a keyword's entries

module _ (added : ℕ → List Part) where
  abbrev pub LeavesToAsk : List Question → List Question → List (told.Question ℕ) → List (told.Question ℕ) → Type 0
  LeavesToAsk old new left all = LeavesAs (question_by added) old new left all

  pub asks_nothing : (old : List Question) → PushesAsked added old old []
  asks_nothing old = seen_nothing (question_by added) old

  pub asks_one : (old new : List Question) (q : Question) → new ≡ old ++ q ∷ [] → PushesAsked added old new (question_by added q ∷ [])
  asks_one old new q e = seen_one (question_by added) old new q e

  pub asks_both : (old mid new : List Question) (ps qs : List (told.Question ℕ)) → PushesAsked added old mid ps → PushesAsked added mid new qs → PushesAsked added old new (ps ++ qs)
  asks_both old mid new ps qs front rest = seen_both (question_by added) old mid new ps qs front rest

  pub ask_start : (old : List Question) (all : List (told.Question ℕ)) → LeavesToAsk old old all all
  ask_start old all = seen_start (question_by added) old all

  pub ask_next : (old mid new : List Question) (q : Question) (left all : List (told.Question ℕ)) → LeavesToAsk old mid (question_by added q ∷ left) all → new ≡ mid ++ q ∷ [] → LeavesToAsk old new left all
  ask_next old mid new q left all so e = seen_next (question_by added) old mid new q left all so e

  pub ask_done : (old new : List Question) (all : List (told.Question ℕ)) → LeavesToAsk old new [] all → PushesAsked added old new all
  ask_done old new all so = seen_done (question_by added) old new all so
