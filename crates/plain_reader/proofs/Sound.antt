-- Each question of a keyword whose verdict is by the number of answers that are yes.
use Rattle.std.proofs.Common.{◌≡◌, ℕ, suc, List, [], ◌∷◌, ◌++◌, map, Bool, true, false, Option, None, Some, Bor, refl, subst, sym}
use Rattle.std.specs.List.{AllByRecursion, filter}
use Rattle.std.specs.Prelude.{⊤}
use Rattle.serde_json.specs.Data.{Data, null, Items, no_items, item}
use Rattle.serde_json.specs.Find.{get}
use Rattle.serde_json.specs.declared.value.Value.{Value}
use Rattle.serde_json.specs.View.{view, items_view, members_view}
use Rattle.json_values.specs.Patterns.{matched}
use Rattle.json_values.specs.Parts.{Part}
use Rattle.schema_meaning.specs.Members.{In, first, later}
use Rattle.schema_meaning.specs.Places.{Step, stay, to_member, to_name, path_after, called_after}
use Rattle.schema_meaning.specs.Questions.{Question, question, at, at_name, each_branch, items_of, items_from, each_item, item_by_item, if_member, each_declared, each_matching, members_of, other_members, each_member, each_name, each_triggered}
use Rattle.schema_meaning.specs.Rules.{asks}
use Rattle.schema_meaning.specs.Keywords.{rule, Dependency, needs, applies, applied}
use Rattle.schema_definitions.specs.Sites.{Site}
use Rattle.schema_definitions.specs.Rows.{sites_named, sites_applied}
use Rattle.schema_definitions.specs.AllKeys.{spots_in}
use Rattle.reading_laws.proofs.Steps.{Keeps, first_spot}
use Rattle.reading_laws.proofs.Elements.{each_in, each_laid_flat, in_mapped}
use Rattle.reading_laws.proofs.Asked.{Holds, HoldsIn, Sound, all_sound, IsApplied}
use Rattle.applicators.specs.Shapes.{shape_of, leads_of, site_of, declared_by, sites_of_list, sites_of_map, dependencies_in}
use Rattle.applicators.specs.Questions.{each_dependency}
use Rattle.applicators.specs.Asks.{form_by, asked_by, leads_by}
use Rattle.applicators.specs.Combined.{name_of, combining_of, asks_of, is_by_answers}
use Rattle.applicators.specs.Applied.{Applicator}
use Rattle.applicators.specs.Combining.{counts_answers}
use Rattle.applicators.specs.Forms.{Form, each_from, by_index, by_name, by_pattern, of_others, of_members, of_names, of_triggered, of_dependencies, of_branches, of_value, of_condition, counts_each, shape_by}
use Rattle.applicators.specs.declared.combining.Combining.{Combining}
use Rattle.applicators.proofs.FormLemmas.{IsKeyword, by_every, by_together, by_names, by_some, by_one, by_refusal, counted_items, chosen_by, each_counts, all_count, some_count}
use Rattle.applicators.specs.Lent.{Asks}
use Rattle.applicators.specs.declared.asks.AsksOf.TheVariants as asking
use Rattle.applicators.proofs.CombinedLemmas.{is_keyword, follows}
use Rattle.plain_reader.specs.Sound.{QuestionsAreSound}

-- ---- where subschemas stand

each_among : {A B : Type 0} (f : A → B) (xs : List A) (P : B → Type 0) → ((x : A) → In x xs → P (f x)) → AllByRecursion (λ x. P (f x)) xs
each_among f [] P h = tt
each_among f (x ∷ xs) P h = (h x first, each_among f xs P (λ y i. h y (later i)))

module _ (P : Site → Type 0) where
  one_applied : (x : Dependency Site) (rest : List Site) → ((s : Site) → In s (elim x [ needs names ↦ [] | applies s ↦ s ∷ [] ] ++ rest) → P s) → IsApplied P x
  one_applied (needs names) rest h = tt
  one_applied (applies s) rest h = h s first

  rest_applied : (x : Dependency Site) (rest : List Site) → ((s : Site) → In s (elim x [ needs names ↦ [] | applies s ↦ s ∷ [] ] ++ rest) → P s) → (s : Site) → In s rest → P s
  rest_applied (needs names) rest h s i = h s i
  rest_applied (applies t) rest h s i = h s (later i)

  applied_among : (ps : List (List ℕ × Dependency Site)) → ((s : Site) → In s (sites_applied ps) → P s) → AllByRecursion (λ p. IsApplied P p.1) ps
  applied_among [] h = tt
  applied_among (p ∷ ps) h = (one_applied p.1 (sites_applied ps) h, applied_among ps (rest_applied p.1 (sites_applied ps) h))

-- the sites of what is asked: those of `then` and `else` are led to by these
leads_in : Form Site → List Site
leads_in (each_from start s) = s ∷ []
leads_in (by_index ss) = ss
leads_in (by_name ps) = sites_named ps
leads_in (by_pattern ps) = sites_named ps
leads_in (of_others declared s) = s ∷ []
leads_in (of_members s) = s ∷ []
leads_in (of_names s) = s ∷ []
leads_in (of_triggered ps) = sites_named ps
leads_in (of_dependencies ps) = sites_applied ps
leads_in (of_branches ss) = ss
leads_in (of_value schema s) = s ∷ []
leads_in (of_condition s t e) = s ∷ []

abbrev Led : List Site → Site → Type 0
Led ss s = In s ss

all_named : (ps : List (List ℕ × Site)) → AllByRecursion (λ p. Led (sites_named ps) p.1) ps
all_named ps = each_among (λ p. p.1) ps (Led (sites_named ps)) (λ p i. in_mapped (λ q. q.1) p ps i)

led_in : (f : Form Site) → counts_each f ≡ true → HoldsIn (Led (leads_in f)) f
unfolding leads_in
led_in (each_from start s) h = first
led_in (by_index ss) h = each_among (λ s. s) ss (Led ss) (λ s i. i)
led_in (by_name ps) h = all_named ps
led_in (by_pattern ps) h = all_named ps
led_in (of_others declared s) h = first
led_in (of_members s) h = first
led_in (of_names s) h = first
led_in (of_triggered ps) h = all_named ps
led_in (of_dependencies ps) h = applied_among (Led (sites_applied ps)) ps (λ s i. i)
led_in (of_branches ss) h = each_among (λ s. s) ss (Led ss) (λ s i. i)
led_in (of_value schema s) h = first
led_in (of_condition s t e) h = absurd (cc)

led_to : (k : List ℕ) (c : Combining) (f : Form Site) → IsKeyword k c f → counts_answers c ≡ true → Holds (Led (leads_in f)) (λ s. ⊤) (shape_by k c f)
unfolding leads_in
led_to _ _ _ (by_every k f g) h = led_in f (each_counts f g)
led_to _ _ _ (by_together k f g) h = led_in f (all_count f g)
led_to _ _ _ (by_names k s) h = first
led_to _ _ _ (by_some k f g) h = led_in f (some_count f g)
led_to _ _ _ (by_one k f g) h = led_in f (some_count f g)
led_to _ _ _ (by_refusal k schema s) h = first
led_to _ _ _ (counted_items least most s) h = first
led_to _ _ _ (chosen_by s t e) h = absurd (cc)

leads_are : (site : List Part → Data → Site) (k : List ℕ) (f : Asks) → leads_in (form_by site k f) ≡ leads_by site k f
unfolding leads_in
leads_are site k (asking.ItemsFrom start schema) = refl
leads_are site k f = refl

all_led : (site : List Part → Data → Site) (a : Applicator) → is_by_answers a ≡ true → Holds (Led (leads_of site a)) (λ s. ⊤) (shape_of site a)
all_led site a h =
    let k = name_of a in
    let c = combining_of a in
    let f = form_by site k (asks_of a) in
    subst (λ ss. Holds (Led ss) (λ s. ⊤) (shape_by k c f)) (leads_are site k (asks_of a)) (led_to k c f (is_keyword site a) h)

-- ---- no reference is followed

abbrev IsCalm : Question Site → Type 0
IsCalm q = q.follows ≡ false

calm_items : (keyword : List ℕ) (s : Site) (i : ℕ) (ds : Items) → AllByRecursion IsCalm (each_item keyword s i ds)
calm_items keyword s i no_items = tt
calm_items keyword s i (item d ds) = (refl, calm_items keyword s (suc i) ds)

calm_by_item : (keyword : List ℕ) (ss : List Site) (i : ℕ) (ds : Items) → AllByRecursion IsCalm (item_by_item keyword ss i ds)
calm_by_item keyword [] i ds = tt
calm_by_item keyword (s ∷ ss) i no_items = tt
calm_by_item keyword (s ∷ ss) i (item d ds) = (refl, calm_by_item keyword ss (suc i) ds)

calm_branches : (keyword : List ℕ) (i : ℕ) (ss : List Site) → AllByRecursion IsCalm (each_branch keyword i ss)
calm_branches keyword i [] = tt
calm_branches keyword i (s ∷ ss) = (refl, calm_branches keyword (suc i) ss)

any_pair : {A : Type 0} (ps : List A) → AllByRecursion (λ p. ⊤) ps
any_pair [] = tt
any_pair (p ∷ ps) = (tt, any_pair ps)

calm_member : (keyword k : List ℕ) (s : Site) (o : Option Data) → AllByRecursion IsCalm (if_member o (λ e. question s (to_member k e) (at_name keyword k) ∷ []))
calm_member keyword k s None = tt
calm_member keyword k s (Some e) = (refl, tt)

calm_declared : (keyword : List ℕ) (d : Data) (ps : List (List ℕ × Site)) → AllByRecursion IsCalm (each_declared keyword d ps)
calm_declared keyword d ps =
    each_laid_flat (λ p. ⊤) IsCalm (λ p. if_member (get p.0 d) (λ e. question p.1 (to_member p.0 e) (at_name keyword p.0) ∷ [])) (λ p u. calm_member keyword p.0 p.1 (get p.0 d)) ps (any_pair ps)

calm_trigger : (keyword k : List ℕ) (s : Site) (o : Option Data) → AllByRecursion IsCalm (if_member o (λ e. question s stay (at_name keyword k) ∷ []))
calm_trigger keyword k s None = tt
calm_trigger keyword k s (Some e) = (refl, tt)

calm_triggered : (keyword : List ℕ) (d : Data) (ps : List (List ℕ × Site)) → AllByRecursion IsCalm (each_triggered keyword d ps)
calm_triggered keyword d ps =
    each_laid_flat (λ p. ⊤) IsCalm (λ p. if_member (get p.0 d) (λ e. question p.1 stay (at_name keyword p.0) ∷ [])) (λ p u. calm_trigger keyword p.0 p.1 (get p.0 d)) ps (any_pair ps)

calm_members : (keyword : List ℕ) (s : Site) (ms : List (List ℕ × Data)) → AllByRecursion IsCalm (each_member keyword s ms)
calm_members keyword s [] = tt
calm_members keyword s (m ∷ ms) = (refl, calm_members keyword s ms)

calm_matched : (keyword p : List ℕ) (s : Site) (ms : List (List ℕ × Data)) → AllByRecursion IsCalm (map (λ m. question s (to_member m.0 m.1) (at_name keyword p)) ms)
calm_matched keyword p s [] = tt
calm_matched keyword p s (m ∷ ms) = (refl, calm_matched keyword p s ms)

calm_matching : (matches : List ℕ → List ℕ → Bool) (keyword : List ℕ) (d : Data) (ps : List (List ℕ × Site)) → AllByRecursion IsCalm (each_matching matches keyword d ps)
calm_matching matches keyword d ps =
    each_laid_flat (λ p. ⊤) IsCalm (λ p. map (λ m. question p.1 (to_member m.0 m.1) (at_name keyword p.0)) (filter (λ m. matched matches p.0 m.0) (members_of d)))
    (λ p u. calm_matched keyword p.0 p.1 (filter (λ m. matched matches p.0 m.0) (members_of d))) ps (any_pair ps)

calm_names : (added : List Part) (s : Site) (ms : List (List ℕ × Data)) → AllByRecursion IsCalm (each_name added s (map (λ m. m.0) ms))
calm_names added s [] = tt
calm_names added s (m ∷ ms) = (refl, calm_names added s ms)

calm_applied : (keyword k : List ℕ) (x : Dependency Site) → AllByRecursion IsCalm (applied keyword k x)
calm_applied keyword k (needs names) = tt
calm_applied keyword k (applies s) = (refl, tt)

calm_dependency : (keyword k : List ℕ) (x : Dependency Site) (o : Option Data) → AllByRecursion IsCalm (if_member o (λ e. applied keyword k x))
calm_dependency keyword k x None = tt
calm_dependency keyword k x (Some e) = calm_applied keyword k x

calm_dependencies : (keyword : List ℕ) (d : Data) (ps : List (List ℕ × Dependency Site)) → AllByRecursion IsCalm (each_dependency keyword d ps)
calm_dependencies keyword d ps =
    each_laid_flat (λ p. ⊤) IsCalm (λ p. if_member (get p.0 d) (λ e. applied keyword p.0 p.1)) (λ p u. calm_dependency keyword p.0 p.1 (get p.0 d)) ps (any_pair ps)

calm_condition : (site : List Part → Data → Site) (k : List ℕ) (condition : Bor Value) (t e : Option (Bor Value)) → AllByRecursion IsCalm (asked_by site (λ p s. false) k null (asking.Condition condition t e))
calm_condition site k condition None None = (refl, tt)
calm_condition site k condition None (Some e) = (refl, (refl, tt))
calm_condition site k condition (Some t) None = (refl, (refl, tt))
calm_condition site k condition (Some t) (Some e) = (refl, (refl, (refl, tt)))

all_calm : (site : List Part → Data → Site) (matches : List ℕ → List ℕ → Bool) (k : List ℕ) (d : Data) (f : Asks) → AllByRecursion IsCalm (asked_by site matches k d f)
all_calm site matches k d (asking.ItemsFrom start schema) = calm_items k (site_of site k (view schema.now)) start (items_from start (items_of d))
all_calm site matches k d (asking.ItemByItem schemas) = calm_by_item k (sites_of_list site k 0 (items_view schemas.now)) 0 (items_of d)
all_calm site matches k d (asking.DeclaredMembers schemas) = calm_declared k d (sites_of_map site k (members_view schemas.now.entries))
all_calm site matches k d (asking.MatchingMembers schemas) = calm_matching matches k d (sites_of_map site k (members_view schemas.now.entries))
all_calm site matches k d (asking.OtherMembers declared schema) = calm_members k (site_of site k (view schema.now)) (other_members matches (declared_by declared) d)
all_calm site matches k d (asking.Members schema) = calm_members k (site_of site k (view schema.now)) (members_of d)
all_calm site matches k d (asking.Names schema) = calm_names (at k) (site_of site k (view schema.now)) (members_of d)
all_calm site matches k d (asking.Triggered schemas) = calm_triggered k d (sites_of_map site k (members_view schemas.now.entries))
all_calm site matches k d (asking.Dependencies entries) = calm_dependencies k d (dependencies_in site k (members_view entries.now.entries))
all_calm site matches k d (asking.Branches schemas) = calm_branches k 0 (sites_of_list site k 0 (items_view schemas.now))
all_calm site matches k d (asking.Value schema) = (refl, tt)
all_calm site matches k d (asking.Condition condition t e) = calm_condition site k condition t e

-- a name of which it is asked is one of the value's
name_lies : (d : Data) (step : Step) → Keeps d step → (k : List ℕ) → step ≡ to_name k → (path : List Part) → In (path, Some k) (spots_in path d)
name_lies d step keeps k is path =
    subst (λ (t : Step). In (path_after path t, called_after None t) (spots_in path d)) is (keeps.here (spots_in path d) path None (λ x i. i) (first_spot path d))

pub questions_are_sound : QuestionsAreSound
questions_are_sound site matches d a counts q i =
    let known = each_in (Sound (Led (leads_of site a)) (λ s. ⊤) d) (asks (rule matches d (shape_of site a))) (all_sound (Led (leads_of site a)) (λ s. ⊤) matches d (shape_of site a) (all_led site a counts)) q i in
    let asked = (follows site matches d a).asked in
    let calm = each_in IsCalm (asks (rule matches d (shape_of site a))) (subst (λ qs. AllByRecursion IsCalm qs) (sym asked) (all_calm site matches (name_of a) d (asks_of a))) q i in
    record { led = known.within calm; within = calm; spots = λ path w h. known.step.inside path w h; named = λ k is path. name_lies d q.step known.step k is path }
