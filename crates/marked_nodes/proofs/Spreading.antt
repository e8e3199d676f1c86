-- How far marks have spread.
use Rattle.std.proofs.Common.{◌≡◌, ◌∙◌, ℕ, ◌<◌, Bool, true, false, List, [], ◌∷◌, ◌++◌, Some, ◌⊎◌, inl, inr, ⊎_elim, sym, ap, subst, length, replicate, arith}
use Rattle.std.proofs.lemmas.Bool.{false≢true}
use Rattle.std.proofs.lemmas.List.{length-replicate, get_or-replicate, nil_from_length}
use Rattle.std.proofs.lemmas.Option.{same_Some, slice_get_within, get_or_from_slice_get}
use Rattle.std.specs.Bool.{Decides}
use Rattle.std.specs.List.{slice_get}
use Rattle.schema_meaning.specs.Members.{In}
use Rattle.marked_nodes.specs.Leading.{LeadsTo, here, along}
use Rattle.marked_nodes.specs.Marking.{IsMarked, Marks}
use Rattle.marked_nodes.specs.Sources.{sources_of}
use Rattle.marked_nodes.specs.declared.graph.Edge.{Edge}
use Rattle.marked_nodes.proofs.MarkLemmas.{in_front, in_back, in_last, in_cases, in_one}
use Rattle.marked_nodes.proofs.SourceLemmas.{edge_source, source_edge}

-- what is marked leads to a marked node, and what has an edge to it is marked too, unless it waits
pub record Spread (edges : List Edge) (marked : List ℕ) (count : ℕ) (marks : List Bool) (waiting : List ℕ) : Type 0 where
  pub as_many : length marks ≡ count
  pub sound : (i : ℕ) → IsMarked marks i → LeadsTo edges marked i
  pub begun : (i : ℕ) → In i marked → IsMarked marks i
  pub waits : (i : ℕ) → In i waiting → IsMarked marks i
  pub closed : (e : Edge) → In e edges → IsMarked marks e.to → In e.to waiting ⊎ IsMarked marks e.from

none_marked : (count i : ℕ) → IsMarked (replicate count false) i → ⊥
none_marked count i h =
    let within : i < count = omega (arith, slice_get_within (replicate count false) i true h, length-replicate count false) in
    false≢true (sym (get_or-replicate count i false false within) ∙ get_or_from_slice_get (replicate count false) i true false h)

pub spread_begins : (edges : List Edge) {marked : List ℕ} (count : ℕ) {old marks : List Bool} {none waiting : List ℕ} → old ≡ replicate count false → none ≡ [] → Marks marked old marks none waiting
    → Spread edges marked count marks waiting
spread_begins edges {marked} count {old} {marks} {none} {waiting} unmarked empty m =
    let added = λ (i : ℕ) (h : IsMarked marks i). ⊎_elim (λ o. absurd (none_marked count i (subst (λ l. IsMarked l i) unmarked o))) (λ a. a) (m.only i h) in
    let behind : waiting ≡ m.added = m.behind ∙ ap (λ w. w ++ m.added) empty in
    record {
      as_many = m.as_many ∙ ap length unmarked ∙ length-replicate count false;
      sound = λ i h. here (m.among i (added i h));
      begun = m.marked;
      waits = λ i h. m.marked i (m.among i (subst (In i) behind h));
      closed = λ e h k. inl (subst (In e.to) (sym behind) (added e.to k));
    }

module _ {edges : List Edge} {marked : List ℕ} {count : ℕ} {marks : List Bool} where
  -- a node is popped off those that wait
  module _ {waited : List ℕ} (rest : List ℕ) (node : ℕ) (s : Spread edges marked count marks waited) (popped : waited ≡ rest ++ node ∷ []) where
    waits_still : (i : ℕ) → In i (rest ++ node ∷ []) → In i waited
    waits_still i h = subst (In i) (sym popped) h

    pub popped_within : node < count
    popped_within = omega (arith, s.as_many, slice_get_within marks node true (s.waits node (waits_still node (in_last node rest))))

    -- and those before it are marked
    module _ {new : List Bool} {waiting : List ℕ} (m : Marks (sources_of edges node) marks new rest waiting) where
      before_leads : (i : ℕ) → In i m.added → LeadsTo edges marked i
      before_leads i h =
          let has = source_edge edges node i (m.among i h) in
          let leads = s.sound node (s.waits node (waits_still node (in_last node rest))) in
          subst (LeadsTo edges marked) has.from (along has.edge has.among (subst (LeadsTo edges marked) (sym has.to) leads))

      waits_or_marked : (e : Edge) → In e edges → In e.to waited → In e.to waiting ⊎ IsMarked new e.from
      waits_or_marked e h k =
          ⊎_elim (λ l. inl (subst (In e.to) (sym m.behind) (in_front rest m.added l)))
          (λ l. inr (m.marked e.from (subst (λ i. In e.from (sources_of edges i)) (in_one l) (edge_source e edges h)))) (in_cases rest (node ∷ []) (subst (In e.to) popped k))

      pub spread_on : Spread edges marked count new waiting
      spread_on = record {
        as_many = m.as_many ∙ s.as_many;
        sound = λ i h. ⊎_elim (s.sound i) (before_leads i) (m.only i h);
        begun = λ i h. m.kept i (s.begun i h);
        waits = λ i h. ⊎_elim (λ k. m.kept i (s.waits i (waits_still i (in_front rest (node ∷ []) k)))) (λ k. m.marked i (m.among i k)) (in_cases rest m.added (subst (In i) m.behind h));
        closed = λ e h k.
            ⊎_elim (λ o. ⊎_elim (waits_or_marked e h) (λ f. inr (m.kept e.from f)) (s.closed e h o)) (λ a. inl (subst (In e.to) (sym m.behind) (in_back rest m.added a))) (m.only e.to k);
      }

  module _ {waiting : List ℕ} (s : Spread edges marked count marks waiting) (empty : length waiting ≡ 0) where
    leading_marked : (i : ℕ) → LeadsTo edges marked i → IsMarked marks i
    leading_marked i (here h) = s.begun i h
    leading_marked _ (along e h l) =
        ⊎_elim (λ w. elim (subst (In e.to) (nil_from_length waiting empty) w) [ ]) (λ f. f) (s.closed e h (leading_marked e.to l))

    pub spread_ends : (i : ℕ) (b : Bool) → slice_get marks i ≡ Some b → Decides b (LeadsTo edges marked i)
    spread_ends i b at = (λ t. s.sound i (at ∙ ap Some t), λ l. same_Some b true (sym at ∙ leading_marked i l))
