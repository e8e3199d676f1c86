-- Chains of references: each step from the base and the scope that the step before left.
use Rattle.std.specs.Prelude.{ℕ, List, [], ◌∷◌, Bool, Option, Some, None, Result, Ok}
use Rattle.serde_json.specs.View.{view}
use Rattle.schema_definitions.specs.Words.{result_map, and_then}
use Rattle.schema_definitions.specs.Places.{standard}
use Rattle.schema_definitions.specs.Bearers.{Documents}
use Rattle.schema_definitions.specs.Lookup.{LookupCause, Target, lookup}
use Rattle.schema_definitions.specs.Scopes.{entered_scope, dynamic_lookup, recursive_lookup}
use Rattle.referencing.specs.Resolved.{scope_of, target_in, entered_by}
use Rattle.referencing.specs.declared.resolver.Resolved.{Resolved}
use Rattle.referencing.specs.declared.following.Step.{Step}
use Rattle.referencing.specs.declared.following.Step.TheVariants.{Lookup, Dynamic, Recursive, Enter}

-- what a reference led to, and the scope there
pub record Answer : Type 0 where
  pub target : Target
  pub scope : List (List ℕ)

-- where a chain stands, and what its last reference led to
pub record Stand : Type 0 where
  pub base : List ℕ
  pub scope : List (List ℕ)
  pub last : Option Answer

abbrev pub arrived : Stand → Target → Stand
arrived s t =
    let scope = entered_scope t.base s.base s.scope in
    record { base = t.base; scope = scope; last = Some (record { target = t; scope = scope }) }

-- a subschema entered leaves what the last reference led to; its identifier is read by its draft, and beside `$ref` where siblings are
abbrev pub one_step : Bool → Documents → Stand → Step → Result Stand LookupCause
one_step siblings docs s (Lookup reference) = result_map (arrived s) (lookup docs s.base reference.now)
one_step siblings docs s (Dynamic reference) = result_map (arrived s) (dynamic_lookup docs s.base s.scope reference.now)
one_step siblings docs s Recursive = result_map (arrived s) (recursive_lookup docs s.base s.scope)
one_step siblings docs s (Enter subschema) =
    result_map (λ e. record { base = e.0; scope = e.1; last = s.last }) (entered_by (standard siblings subschema.draft) (view subschema.contents.now) s.base s.scope)

abbrev pub followed : Bool → Documents → Stand → List Step → Result Stand LookupCause
followed siblings docs s [] = Ok s
followed siblings docs s (x ∷ xs) = and_then (one_step siblings docs s x) (λ t. followed siblings docs t xs)

abbrev pub begun : List ℕ → Stand
begun base = record { base = base; scope = base ∷ []; last = None }

-- what the last reference of a chain leads to, where there is one
abbrev pub last_of_chain : Bool → Documents → List ℕ → List Step → Result (Option Answer) LookupCause
last_of_chain siblings docs base steps = result_map (λ s. s.last) (followed siblings docs (begun base) steps)

-- what the code's answers stand for
abbrev pub answer_in : Resolved → Answer
answer_in r = record { target = target_in r; scope = scope_of r.resolver }
