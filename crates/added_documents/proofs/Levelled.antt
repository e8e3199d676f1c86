-- A root builds where the sites below it are all found within some levels and nothing is wrong at any of them, and has what is wrong there as causes.
use Rattle.std.proofs.Common.{◌≡◌, ◌∙◌, inl, inr, ℕ, zero, suc, List, [], ◌∷◌, Result, Ok, sym, ap, subst}
use Rattle.std.specs.List.{flat_map}
use Rattle.schema_meaning.specs.Members.{In, first, later}
use Rattle.schema_definitions.specs.Words.{levels, result_map}
use Rattle.schema_definitions.specs.Bearers.{Documents}
use Rattle.schema_definitions.specs.Lookup.{LookupCause, Target, lookup}
use Rattle.schema_definitions.specs.Sites.{Site, root_site}
use Rattle.schema_definitions.specs.Rows.{BuildCause, Row, rows_at}
use Rattle.schema_definitions.specs.BuildCauses.{Reached, at_root, by_keyword, causes_at, IsCauseOf}
use Rattle.document_laws.proofs.Listed.{in_first, in_second, in_either, in_flat_map}
use Rattle.added_documents.specs.ReadingLaws.{Builds}
use Rattle.added_documents.specs.Needed.{root, all_made}

of_flat_map : {A B : Type 0} (f : A → List B) (xs : List A) (y : B) → In y (flat_map f xs) → (x : A) × In x xs × In y (f x)
of_flat_map f [] y i = elim i [ ]
of_flat_map f (x ∷ xs) y i =
    elim (in_either y (f x) (flat_map f xs) i) [
      | inl j ↦ (x, first, j)
      | inr j ↦ (let r = of_flat_map f xs y j in (r.0, later r.1, r.2))
    ]

-- the sites that a site leads to, and what is wrong there
abbrev pub sites_led : Documents → Site → List Site
sites_led docs s = flat_map (λ (r : Row). r.leads) (rows_at docs all_made s)

abbrev pub wrong_at : Documents → Site → List BuildCause
wrong_at docs s = causes_at docs all_made s

-- those so many levels below
abbrev pub far_below : Documents → ℕ → List Site → List Site
far_below docs zero ss = ss
far_below docs (suc n) ss = far_below docs n (flat_map (sites_led docs) ss)

-- of a root: what stands below all levels, and what is wrong in them
pub record Levelled (docs : Documents) (n : ℕ) (s : Site) : Type 0 where
  pub ended : far_below docs n (s ∷ []) ≡ []
  pub right : flat_map (wrong_at docs) (levels (sites_led docs) n (s ∷ [])) ≡ []

module _ (docs : Documents) where
  next_level : (n : ℕ) (ss : List Site) → far_below docs n ss ≡ [] → (t : Site) → In t ss → In t (levels (sites_led docs) n ss)
  next_level zero ss e t i = subst (λ (xs : List Site). In t xs) e i
  next_level (suc n) ss e t i = in_first t ss (levels (sites_led docs) n (flat_map (sites_led docs) ss)) i

  led_within : (n : ℕ) (ss : List Site) → far_below docs n ss ≡ [] → (s t : Site) → In s (levels (sites_led docs) n ss) → In t (sites_led docs s)
      → In t (levels (sites_led docs) n ss)
  led_within zero ss e s t i j = elim i [ ]
  led_within (suc n) ss e s t i j =
      let next = flat_map (sites_led docs) ss in
      let rest = levels (sites_led docs) n next in
      in_second t ss rest
      (elim (in_either s ss rest i) [
        | inl k ↦ next_level n next e t (in_flat_map (sites_led docs) s ss t k j)
        | inr k ↦ led_within n next e s t k j
      ])

  module _ (n : ℕ) (start : Site) (l : Levelled docs n start) where
    reached_within : (s : Site) → Reached docs all_made start s → In s (levels (sites_led docs) n (start ∷ []))
    reached_within _ at_root = next_level n (start ∷ []) l.ended start first
    reached_within _ (by_keyword {s = s} row t r i j) =
        led_within n (start ∷ []) l.ended s t (reached_within s r) (in_flat_map (λ (x : Row). x.leads) row (rows_at docs all_made s) t i j)

    pub none_wrong : (cause : BuildCause) → IsCauseOf docs all_made start cause → ⊥
    none_wrong cause w =
        let among = in_flat_map (wrong_at docs) w.site (levels (sites_led docs) n (start ∷ [])) cause (reached_within w.site w.reached) w.wrong in
        let gone : In cause [] = subst (λ (cs : List BuildCause). In cause cs) l.right among in
        elim gone [ ]

  -- what stands in some levels is reached, so what is wrong there is a cause
  module _ (start : Site) where
    led_reached : (ss : List Site) → ((s : Site) → In s ss → Reached docs all_made start s) → (t : Site) → In t (flat_map (sites_led docs) ss) → Reached docs all_made start t
    led_reached ss each t i =
        let from = of_flat_map (sites_led docs) ss t i in
        let by = of_flat_map (λ (x : Row). x.leads) (rows_at docs all_made from.0) t from.2 in
        by_keyword by.0 t (each from.0 from.1) by.1 by.2

    levels_reached : (n : ℕ) (ss : List Site) → ((s : Site) → In s ss → Reached docs all_made start s) → (t : Site) → In t (levels (sites_led docs) n ss)
        → Reached docs all_made start t
    levels_reached zero ss each t i = elim i [ ]
    levels_reached (suc n) ss each t i =
        let next = flat_map (sites_led docs) ss in
        elim (in_either t ss (levels (sites_led docs) n next) i) [
          | inl j ↦ each t j
          | inr j ↦ levels_reached n next (led_reached ss each) t j
        ]

    only_start : (s : Site) → In s (start ∷ []) → Reached docs all_made start s
    only_start _ first = at_root
    only_start s (later i) = elim i [ ]

    pub is_cause : (n : ℕ) (cause : BuildCause) → In cause (flat_map (wrong_at docs) (levels (sites_led docs) n (start ∷ []))) → IsCauseOf docs all_made start cause
    is_cause n cause i =
        let at = of_flat_map (wrong_at docs) (levels (sites_led docs) n (start ∷ [])) cause i in
        record { site = at.0; reached = levels_reached n (start ∷ []) only_start at.0 at.1; wrong = at.2 }

-- what a root leads to in so many levels, told at once
pub record Levels : Type 0 where
  pub below : List Site
  pub wrong : List BuildCause

abbrev pub levels_of : Documents → ℕ → Result Levels LookupCause
levels_of docs n =
    result_map (λ t. record { below = far_below docs n (root_site t ∷ []); wrong = flat_map (wrong_at docs) (levels (sites_led docs) n (root_site t ∷ [])) })
    (lookup docs root [])

-- those of a root that is found
levels_at : (docs : Documents) (n : ℕ) → Target → Levels
levels_at docs n t = record { below = far_below docs n (root_site t ∷ []); wrong = flat_map (wrong_at docs) (levels (sites_led docs) n (root_site t ∷ [])) }

levels_found : (docs : Documents) (n : ℕ) (ls : Levels) → levels_of docs n ≡ Ok ls → (t : Target) → lookup docs root [] ≡ Ok t → levels_at docs n t ≡ ls
unfolding levels_at
levels_found docs n ls e t found =
    let told : Result Levels LookupCause = Ok (levels_at docs n t) in
    let both : told ≡ Ok ls = sym (ap (result_map (levels_at docs n)) found) ∙ e in cc

pub built_by_levels : (docs : Documents) (n : ℕ) → levels_of docs n ≡ Ok (record { below = []; wrong = [] }) → (t : Target) → lookup docs root [] ≡ Ok t
    → Builds docs all_made root [] t
unfolding levels_at
built_by_levels docs n e t found =
    let same = levels_found docs n (record { below = []; wrong = [] }) e t found in
    let levelled : Levelled docs n (root_site t) = record { ended = ap (λ (l : Levels). l.below) same; right = ap (λ (l : Levels). l.wrong) same } in
    record { found = found; right = none_wrong docs n (root_site t) levelled }

pub wrong_by_levels : (docs : Documents) (n : ℕ) (cause : BuildCause) → levels_of docs n ≡ Ok (record { below = []; wrong = cause ∷ [] })
    → (t : Target) → lookup docs root [] ≡ Ok t → IsCauseOf docs all_made (root_site t) cause
unfolding levels_at
wrong_by_levels docs n cause e t found =
    let same = levels_found docs n (record { below = []; wrong = cause ∷ [] }) e t found in
    is_cause docs (root_site t) n cause (subst (λ (cs : List BuildCause). In cause cs) (sym (ap (λ (l : Levels). l.wrong) same)) first)
