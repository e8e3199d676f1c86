-- Visits that are put behind others one by one, with the edges to them.
use Rattle.std.proofs.Common.{◌≡◌, ◌⊎◌, ◌∙◌, ℕ, List, [], ◌∷◌, ◌++◌, sym, ap, subst, inl, inr, append-nil, append_assoc}
use Rattle.std.specs.List.{AllZip}
use Rattle.schema_meaning.specs.Members.{In, first, later}
use Rattle.marked_nodes.specs.declared.graph.Edge.{Edge}
use Rattle.reached_sites.specs.Growing.{AddsOne, StandsAt}
use Rattle.reached_sites.specs.declared.visit.Visit.{Visit}
use Rattle.reached_sites.proofs.Listing.{in-before, in-behind, in-either, in-one, none-in}
use Rattle.compiled_graphs.specs.Linked.{edge, Extends, IsLinked, LeadsOn, Links, StandsFor}
use Rattle.compiled_graphs.specs.Linked as put
use Rattle.compiled_graphs.proofs.Positions.{kept-place}

pub stands-still : (vs added : List Visit) (i : ℕ) (v : Visit) → StandsAt vs i v → StandsAt (vs ++ added) i v
stands-still vs added i v h = (h.0, kept-place vs added i h.0 h.1, h.2)

pub stands-later : (old new : List Visit) (leads : List Visit) (i : ℕ) (v : Visit) → Extends old new leads → StandsAt old i v → StandsAt new i v
stands-later old new leads i v g h = subst (λ vs. StandsAt vs i v) (sym g.grown) (stands-still old g.added i v h)

pub extends-none : (vs : List Visit) → Extends vs vs []
extends-none vs = record { added = []; grown = sym (append-nil vs); led_to = λ v i. none-in i }

pushed-led : (lead v : Visit) (added rest : List Visit) → ((w : Visit) → In w added → In w rest) → In v (lead ∷ added) → In v (lead ∷ rest)
pushed-led lead v added rest f first = first
pushed-led lead v added rest f (later i) = later (f v i)

pub extends-more : (old next fin : List Visit) (lead : Visit) (rest : List Visit) → AddsOne old next lead → Extends next fin rest → Extends old fin (lead ∷ rest)
extends-more old next fin lead rest (inl e) g = record {
  added = lead ∷ g.added;
  grown = g.grown ∙ ap (λ l. l ++ g.added) e ∙ append_assoc old (lead ∷ []) g.added;
  led_to = λ v i. pushed-led lead v g.added rest g.led_to i;
}
extends-more old next fin lead rest (inr known) g = record {
  added = g.added;
  grown = g.grown ∙ ap (λ l. l ++ g.added) known.0;
  led_to = λ v i. later (g.led_to v i);
}

module _ (i : ℕ) where
  pub links-none : (vs : List Visit) (edges : List Edge) → Links i vs vs [] edges edges
  links-none vs edges = record { extends = extends-none vs; puts = put.none; kept = λ e j. j; there = λ v j. none-in j; new_ones = λ e j. inl j }

  leads-later : (vs : List Visit) (lead : Visit) (rest : List Visit) (e : Edge) → LeadsOn i vs rest e → LeadsOn i vs (lead ∷ rest) e
  leads-later vs lead rest e h = record { from = h.from; visit = h.visit; listed = later h.listed; stands = h.stands }

  -- one more is put down, and an edge to it
  module _ (now next fin : List Visit) (lead : Visit) (rest : List Visit) (before after last : List Edge) (position : ℕ)
      (one : AddsOne now next lead) (stands : StandsAt next position lead) (pushed : after ≡ before ++ edge i position ∷ []) (l : Links i next fin rest after last) where
    at-end : StandsAt fin position lead
    at-end = stands-later next fin rest position lead l.extends stands

    edge-there : In (edge i position) last
    edge-there = l.kept (edge i position) (subst (λ (es : List Edge). In (edge i position) es) (sym pushed) (in-behind before (edge i position ∷ []) first))

    kept-too : (e : Edge) → In e before → In e last
    kept-too e j = l.kept e (subst (λ (es : List Edge). In e es) (sym pushed) (in-before before (edge i position ∷ []) j))

    its-edge : (e : Edge) → e ≡ edge i position → LeadsOn i fin (lead ∷ rest) e
    its-edge e same = record {
      from = ap (λ (x : Edge). x.from) same;
      visit = lead;
      listed = first;
      stands = subst (λ n. StandsAt fin n lead) (sym (ap (λ (x : Edge). x.to) same)) at-end;
    }

    old-edge : (e : Edge) → In e before ⊎ In e (edge i position ∷ []) → In e before ⊎ LeadsOn i fin (lead ∷ rest) e
    old-edge e (inl j) = inl j
    old-edge e (inr j) = inr (its-edge e (in-one j))

    any-edge : (e : Edge) → In e after ⊎ LeadsOn i fin rest e → In e before ⊎ LeadsOn i fin (lead ∷ rest) e
    any-edge e (inl j) = old-edge e (in-either before (edge i position ∷ []) (subst (λ (es : List Edge). In e es) pushed j))
    any-edge e (inr h) = inr (leads-later fin lead rest e h)

    linked-now : (v : Visit) → In v (lead ∷ rest) → IsLinked i fin last v
    linked-now _ first = record { position = position; stands = at-end; linked = edge-there }
    linked-now v (later j) = l.there v j

    pub links-more : Links i now fin (lead ∷ rest) before last
    links-more = record {
      extends = extends-more now next fin lead rest one l.extends;
      puts = put.one lead one l.puts;
      kept = kept-too;
      there = linked-now;
      new_ones = λ e j. any-edge e (l.new_ones e j);
    }

-- ---- a loop over the others

pub record Linking (i : ℕ) (old now all rest : List Visit) (first_edges edges : List Edge) (numbers : List ℕ) : Type 0 where
  pub links : (fin : List Visit) (last : List Edge) → Links i now fin rest edges last → Links i old fin all first_edges last
  pub stand : (fin : List Visit) (last : List Edge) (ns : List ℕ) → Links i now fin rest edges last → AllZip (StandsFor i fin last) rest ns → AllZip (StandsFor i fin last) all (numbers ++ ns)

pub linking-begins : (i : ℕ) (old all : List Visit) (edges : List Edge) (numbers : List ℕ) → numbers ≡ [] → Linking i old old all all edges edges numbers
linking-begins i old all edges numbers empty = record {
  links = λ fin last l. l;
  stand = λ fin last ns l z. subst (λ ms. AllZip (StandsFor i fin last) all (ms ++ ns)) (sym empty) z;
}

pub linking-goes : (i : ℕ) (old now next all rest left : List Visit) (lead : Visit) (es fs gs : List Edge) (position : ℕ) (numbers more : List ℕ)
    → Linking i old now all rest es fs numbers → rest ≡ lead ∷ left → AddsOne now next lead → StandsAt next position lead → gs ≡ fs ++ edge i position ∷ []
    → more ≡ numbers ++ position ∷ [] → Linking i old next all left es gs more
linking-goes i old now next all rest left lead es fs gs position numbers more h e one stands pushed numbered = record {
  links = λ fin hs l. h.links fin hs (whole fin hs l);
  stand = λ fin hs ns l z.
      subst (λ ms. AllZip (StandsFor i fin hs) all ms) (sym (ap (λ ms. ms ++ ns) numbered ∙ append_assoc numbers (position ∷ []) ns))
      (h.stand fin hs (position ∷ ns) (whole fin hs l)
      (subst (λ ls. AllZip (StandsFor i fin hs) ls (position ∷ ns)) (sym e) ((stands-later next fin left position lead l.extends stands, there hs (l.kept (edge i position))), z)));
}
  where
    there : (hs : List Edge) → (In (edge i position) gs → In (edge i position) hs) → In (edge i position) hs
    there hs on = on (subst (λ (xs : List Edge). In (edge i position) xs) (sym pushed) (in-behind fs (edge i position ∷ []) first))

    whole : (fin : List Visit) (hs : List Edge) → Links i next fin left gs hs → Links i now fin rest fs hs
    whole fin hs l = subst (λ ls. Links i now fin ls fs hs) (sym e) (links-more i now next fin lead left fs gs hs position one stands pushed l)

pub linking-ends : (i : ℕ) (old now all rest : List Visit) (es fs : List Edge) (numbers : List ℕ) → Linking i old now all rest es fs numbers → rest ≡ []
    → Links i old now all es fs × AllZip (StandsFor i now fs) all numbers
linking-ends i old now all rest es fs numbers h e =
    let end = subst (λ ls. Links i now now ls fs fs) (sym e) (links-none i now fs) in
    (h.links now fs end, subst (λ ns. AllZip (StandsFor i now fs) all ns) (append-nil numbers) (h.stand now fs [] end (subst (λ ls. AllZip (StandsFor i now fs) ls []) (sym e) tt)))
