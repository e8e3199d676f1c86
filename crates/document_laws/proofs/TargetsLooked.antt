-- What a reference leads to comes of one of the documents.
use Rattle.std.proofs.Common.{ℕ, List, Option, IfOk}
use Rattle.schema_definitions.specs.Places.{Dialect}
use Rattle.schema_definitions.specs.Bearers.{Documents, Standing, meta}
use Rattle.schema_definitions.specs.Lookup.{Target, Walk, ended, walk}
use Rattle.document_laws.specs.TargetLaws.{IsTarget, by_reference, by_scope, by_run, LookupsLie, DynamicLookupsLie, RecursiveLookupsLie}
use Rattle.document_laws.proofs.Results.{ok_each}
use Rattle.document_laws.proofs.Origins.{Origin, Stands, Comes, last_stands, comes_lies}
use Rattle.document_laws.proofs.TargetWalks.{WalkInside, walk_inside}
use Rattle.document_laws.proofs.Reaching.{start}
use Rattle.document_laws.proofs.LookedUp.{Holds, of_target}

module _ (docs : Documents) where
  ended_comes : (s : Standing) (o : Origin docs s.document s.place.path s.place.contents) (w : Walk) → WalkInside o.document.contents w → Comes docs (ended s w)
  ended_comes s o w i =
      record { origin = record { document = o.document; listed = o.listed; named = o.named; inside = i.is } }

  along_comes : (told : List ℕ → Option Dialect) (s : Standing) → Stands docs s → (written : List ℕ) (tokens : List (List ℕ))
      → IfOk (walk told written tokens (start s.place)) (λ w. Comes docs (ended s w))
  along_comes told s h written tokens =
      let o = h.origin in
      let whole = o.document.contents in
      ok_each (WalkInside whole) (λ w. Comes docs (ended s w)) (walk told written tokens (start s.place))
      (walk_inside whole told written tokens (start s.place) (record { is = o.inside })) (ended_comes s o)

  all_come : Holds docs (meta docs) (Stands docs) (Comes docs)
  all_come = record {
    last = λ test. last_stands docs test (meta docs);
    along = along_comes (meta docs);
    itself = λ s h. record { origin = h.origin };
  }

  pub target_comes_of : (t : Target) → IsTarget docs t → Comes docs t
  target_comes_of t i = of_target docs (Stands docs) (Comes docs) all_come t i

pub lookups_lie : LookupsLie
lookups_lie docs base reference t e = comes_lies docs t (target_comes_of docs t (by_reference base reference e))

pub dynamic_lookups_lie : DynamicLookupsLie
dynamic_lookups_lie docs base scope reference t e = comes_lies docs t (target_comes_of docs t (by_scope base scope reference e))

pub recursive_lookups_lie : RecursiveLookupsLie
recursive_lookups_lie docs base scope t e = comes_lies docs t (target_comes_of docs t (by_run base scope e))
