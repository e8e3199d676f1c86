-- Visits that stand for sites.
use Rattle.std.proofs.Common.{◌≡◌, ◌∙◌, List, [], ◌∷◌, ◌++◌, sym, ap, append-nil, append_assoc}
use Rattle.schema_meaning.specs.Members.{In, first, later}
use Rattle.schema_definitions.specs.Bearers.{Document}
use Rattle.schema_definitions.specs.Sites.{Site}
use Rattle.reached_sites.specs.Visits.{Met, Belongs, Matches, none, both, Adds}
use Rattle.reached_sites.specs.declared.visit.Visit.{Visit}

abbrev MetBy : List Visit → Site → Type 0
MetBy vs s = (v : Visit) × In v vs × Met v s

abbrev MetOf : List Site → Visit → Type 0
MetOf ss v = (s : Site) × In s ss × Met v s

module _ (own : List Document) where
  matched-append : {vs ws : List Visit} {ss ts : List Site} → Matches own vs ss → Matches own ws ts → Matches own (vs ++ ws) (ss ++ ts)
  matched-append none n = n
  matched-append (both b m rest) n = both b m (matched-append rest n)

  later-visit : {v : Visit} {vs : List Visit} {s : Site} → MetBy vs s → MetBy (v ∷ vs) s
  later-visit w = (w.0, later w.1, w.2)

  pub visit-of : {vs : List Visit} {ss : List Site} {s : Site} → Matches own vs ss → In s ss → MetBy vs s
  visit-of none i = elim i [ ]
  visit-of (both {v = v} b m rest) first = (v, first, m)
  visit-of (both b m rest) (later i) = later-visit (visit-of rest i)

  later-site : {s : Site} {ss : List Site} {v : Visit} → MetOf ss v → MetOf (s ∷ ss) v
  later-site w = (w.0, later w.1, w.2)

  pub site-of : {vs : List Visit} {ss : List Site} {v : Visit} → Matches own vs ss → In v vs → MetOf ss v
  site-of none i = elim i [ ]
  site-of (both {s = s} b m rest) first = (s, first, m)
  site-of (both b m rest) (later i) = later-site (site-of rest i)

  pub belongs-of : {vs : List Visit} {ss : List Site} {v : Visit} → Matches own vs ss → In v vs → Belongs own v
  belongs-of none i = elim i [ ]
  belongs-of (both b m rest) first = b
  belongs-of (both b m rest) (later i) = belongs-of rest i

  pub adds-none : (vs : List Visit) → Adds own vs vs []
  adds-none vs = record { added = []; grown = sym (append-nil vs); met = none }

  pub adds-one : (old new : List Visit) (v : Visit) (s : Site) → new ≡ old ++ v ∷ [] → Belongs own v → Met v s → Adds own old new (s ∷ [])
  adds-one old new v s e b m = record { added = v ∷ []; grown = e; met = both b m none }

  pub adds-both : {a b c : List Visit} {ss ts : List Site} → Adds own a b ss → Adds own b c ts → Adds own a c (ss ++ ts)
  adds-both {a = a} x y = record {
    added = x.added ++ y.added;
    grown = y.grown ∙ ap (λ l. l ++ y.added) x.grown ∙ append_assoc a x.added y.added;
    met = matched-append x.met y.met;
  }

pub belongs-too : {own other : List Document} (v : Visit) → own ≡ other → Belongs own v → Belongs other v
belongs-too v e b = record { documents = b.documents ∙ e }
