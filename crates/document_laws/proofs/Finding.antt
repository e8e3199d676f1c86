-- Each target is where a walk from the root of its document stands.
use Rattle.std.proofs.Common.{◌≡◌, ℕ, List, inl, Bool, true, Option, IfOk, sym, ap}
use Rattle.std.specs.List.{list_all}
use Rattle.std.specs.Prelude.{IfSome}
use Rattle.schema_meaning.specs.Members.{In}
use Rattle.schema_definitions.specs.Places.{Dialect}
use Rattle.schema_definitions.specs.Bearers.{Document, Documents, document_name, Standing, standings, last_standing}
use Rattle.schema_definitions.specs.Lookup.{Walk, is_at_place, Target, ended, target_of, walk}
use Rattle.document_laws.specs.TargetLaws.{contents_rise}
use Rattle.document_laws.proofs.Lists.{of_last}
use Rattle.document_laws.proofs.Listed.{each_in}
use Rattle.document_laws.proofs.Results.{ok_each}
use Rattle.document_laws.proofs.Reaching.{start}
use Rattle.document_laws.proofs.Placing.{from_root, Placed, is_placed}
use Rattle.document_laws.proofs.Pointed.{Met, walk_meets}
use Rattle.document_laws.proofs.LookedUp.{Holds}

-- where a walk stands in a document
abbrev pub target_at : List ℕ → Walk → Target
target_at document w =
    record { document = document; path = w.path; contents = w.contents; base = w.last.base; dialect = w.last.dialect; is_place = is_at_place w.within }

pub record Found (told : List ℕ → Option Dialect) (docs : Documents) (t : Target) : Type 0 where
  pub document : Document
  pub among : In document docs
  pub walk : Walk
  pub is : t ≡ target_at (document_name document) walk
  pub met : Met told (from_root told document) walk

module _ (told : List ℕ → Option Dialect) (docs : Documents) (rise : list_all contents_rise docs ≡ true) where
  abbrev Listed : Standing → Type 0
  Listed s = In s (standings told docs)

  ended_found : (s : Standing) (p : Placed told docs s) (v : Walk) → Met told (from_root told p.document) v → Found told docs (ended s v)
  ended_found s p v m =
      record { document = p.document; among = p.among; walk = v; is = ap (λ (name : List ℕ). target_at name v) (sym p.named); met = m }

  along_found : (s : Standing) → Listed s → (written : List ℕ) (tokens : List (List ℕ))
      → IfOk (walk told written tokens (start s.place)) (λ w. Found told docs (ended s w))
  along_found s i written tokens =
      let p = is_placed told docs rise s i in
      let from = from_root told p.document in
      ok_each (Met told from) (λ w. Found told docs (ended s w)) (walk told written tokens (start s.place))
      (walk_meets told from written tokens (start s.place) (record { met = inl p.there })) (ended_found s p)

  itself_found : (s : Standing) → Listed s → Found told docs (target_of s)
  itself_found s i =
      let p = is_placed told docs rise s i in
      ended_found s p (start s.place) (record { met = inl p.there })

  last_listed : (test : Standing → Bool) → IfSome (last_standing test told docs) Listed
  last_listed test = of_last Listed test (standings told docs) (each_in Listed (standings told docs) (λ s i. i))

  pub all_found : Holds docs told (λ s. In s (standings told docs)) (Found told docs)
  all_found = record { last = last_listed; along = along_found; itself = itself_found }
