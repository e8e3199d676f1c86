use Rattle.std.proofs.Common.{◌≡◌, ◌∙◌, ◌++◌, ◌∷◌, [], List, Bool, true, false, not, if◌then◌else◌, refl, sym, ap, subst, inr, slice_get}
use Rattle.std.specs.List.{list_any}
use Rattle.reached_sites.specs.Growing.{StandsAt}
use Rattle.reached_sites.specs.Keyed.{keys_equal}
use Rattle.reached_sites.specs.declared.compile_key.CompileKey.{CompileKey}
use Rattle.reached_sites.specs.declared.visit.Visit.{Visit}
use Rattle.reached_sites.proofs.Filing.{still-filed, filed-more, new-stands, known-stands, is-known}
use Rattle.reached_sites.proofs.seen.Visits.put.Goals as goal

turned : (b c : Bool) → c ≡ not b → (d : Bool) → c ≡ not d → b ≡ d
turned true c e true f = refl
turned true c e false f = sym f ∙ e
turned false c e true f = sym f ∙ e
turned false c e false f = refl

pub invariant_of-self-then-is_new : goal.invariant_of-self-then-is_new
invariant_of-self-then-is_new c =
    let old = c.args.self.now in
    let ks = old.keys.keys in
    let vs = old.list.items in
    let key = c.in_ok-key.key in
    let v = c.args.visit in
    let new : list_any (keys_equal key) ks ≡ false = turned (list_any (keys_equal key) ks) c.in-Ok.is_new c.in-Ok.ensures.added false c.if-is_new.true in
    record {
      filed = still-filed (ks ++ key ∷ []) c.insert_full.new.self.keys (vs ++ v ∷ []) c.push_reserved.new.self.items
          (c.in-Ok.ensures.keys ∙ ap (λ b. if b then ks else ks ++ key ∷ []) new) (c.push_reserved.ensures.items ∙ ap (λ ws. ws ++ v ∷ []) c.reserve.ensures.items)
          (filed-more key ks vs v old.filed c.in_ok-key.ensures);
      apart = c.in-Ok.ensures.unique;
    }

pub returns-then-is_new-clause-stands : goal.returns-then-is_new-clause-stands
returns-then-is_new-clause-stands c =
    let old = c.args.self.now in
    let ks = old.keys.keys in
    let vs = old.list.items in
    let key = c.in_ok-key.key in
    let v = c.args.visit in
    let new : list_any (keys_equal key) ks ≡ false = turned (list_any (keys_equal key) ks) c.in-Ok.is_new c.in-Ok.ensures.added false c.if-is_new.true in
    subst (λ (ws : List Visit). StandsAt ws c.in-Ok.position v) (sym (c.push_reserved.ensures.items ∙ ap (λ ws. ws ++ v ∷ []) c.reserve.ensures.items))
    (new-stands key ks vs v old.filed c.in_ok-key.ensures new c.in-Ok.position c.in-Ok.ensures.index)

pub returns-else-is_new-clause-grows : goal.returns-else-is_new-clause-grows
returns-else-is_new-clause-grows c =
    let old = c.args.self.now in
    let ks = old.keys.keys in
    let vs = old.list.items in
    let key = c.in_ok-key.key in
    let known : list_any (keys_equal key) ks ≡ true = turned (list_any (keys_equal key) ks) c.in-Ok.is_new c.in-Ok.ensures.added true c.if-is_new.false in
    let same : c.insert_full.new.self.keys ≡ ks = c.in-Ok.ensures.keys ∙ ap (λ b. if b then ks else ks ++ key ∷ []) known in
    let st = c.in-Ok.ensures.stored in
    inr (
      c.reserve.ensures.items,
      is-known key ks vs c.args.visit old.filed c.in_ok-key.ensures c.in-Ok.position st.0 (ap (λ (js : List CompileKey). slice_get js c.in-Ok.position) (sym same) ∙ st.1) st.2,
    )

pub returns-else-is_new-clause-stands : goal.returns-else-is_new-clause-stands
returns-else-is_new-clause-stands c =
    let old = c.args.self.now in
    let ks = old.keys.keys in
    let vs = old.list.items in
    let key = c.in_ok-key.key in
    let known : list_any (keys_equal key) ks ≡ true = turned (list_any (keys_equal key) ks) c.in-Ok.is_new c.in-Ok.ensures.added true c.if-is_new.false in
    let same : c.insert_full.new.self.keys ≡ ks = c.in-Ok.ensures.keys ∙ ap (λ b. if b then ks else ks ++ key ∷ []) known in
    let st = c.in-Ok.ensures.stored in
    subst (λ (ws : List Visit). StandsAt ws c.in-Ok.position c.args.visit) (sym c.reserve.ensures.items)
    (known-stands key ks vs c.args.visit old.filed c.in_ok-key.ensures c.in-Ok.position st.0 (ap (λ (js : List CompileKey). slice_get js c.in-Ok.position) (sym same) ∙ st.1) st.2)
