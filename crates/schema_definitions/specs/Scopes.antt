-- The dynamic scope: the resources entered, the innermost first (Core 7.1, 8.2.3.2; 2019-09, Core 8.2.4.2).
use Rattle.std.specs.Prelude.{ℕ, List, [], ◌∷◌, Bool, false, ◌&&◌, codes, bytes_eq, if◌then◌else◌, option_and_then, is_some, Result, Ok}
use Rattle.serde_json.specs.Find.{get, as_bool}
use Rattle.uri_references.specs.Passed.{cut_at}
use Rattle.schema_definitions.specs.Words.{or, last_that, has_text, result_map, ok_or, and_then}
use Rattle.schema_definitions.specs.Identifiers.{is_name, dynamic_anchors}
use Rattle.schema_definitions.specs.Bearers.{Documents, bearer, dynamically_anchored}
use Rattle.schema_definitions.specs.Lookup.{LookupCause, unretrievable, no_such_anchor, Target, target_of, lookup}

-- the scope after a base was entered from another: one that does not change is not entered again
abbrev pub entered_scope : List ℕ → List ℕ → List (List ℕ) → List (List ℕ)
entered_scope new present scope = if bytes_eq new present then scope else new ∷ scope

-- `$dynamicRef`: where the place found bears the fragment as a dynamic anchor, the outermost resource of the scope that has one of that name,
-- the resource found innermost; else what the reference leads to
abbrev pub outermost : Documents → List ℕ → List (List ℕ) → Result Target LookupCause
outermost docs k resources =
    result_map target_of (ok_or (no_such_anchor k)
    (option_and_then (λ u. dynamically_anchored docs u k) (last_that (λ u. is_some (dynamically_anchored docs u k)) resources)))

abbrev pub dynamic_lookup : Documents → List ℕ → List (List ℕ) → List ℕ → Result Target LookupCause
dynamic_lookup docs base scope reference =
    let k = or [] (cut_at 35 reference).1 in
    and_then (lookup docs base reference) (λ t.
    if is_name k && has_text k (dynamic_anchors t.dialect t.contents) then outermost docs k (t.base ∷ scope) else Ok t)

-- whether a resource says `$recursiveAnchor: true`
abbrev pub recurs : Documents → List ℕ → Bool
recurs docs uri = or false (option_and_then (λ s. option_and_then as_bool (get (codes "$recursiveAnchor") s.place.contents)) (bearer docs uri))

-- the end of the run of resources that say so, from the innermost outward
abbrev pub end_of_run : Documents → List ℕ → List (List ℕ) → List ℕ
end_of_run docs last [] = last
end_of_run docs last (u ∷ us) = if recurs docs u then end_of_run docs u us else last

-- `$recursiveRef`: where the base says so, the end of the run; else the base
abbrev pub recursive_lookup : Documents → List ℕ → List (List ℕ) → Result Target LookupCause
recursive_lookup docs base scope =
    let u = if recurs docs base then end_of_run docs base scope else base in
    result_map target_of (ok_or (unretrievable u) (bearer docs u))
