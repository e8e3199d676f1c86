-- What an observer hears, one after another.
use Rattle.std.proofs.Common.{◌≡◌, List, sym, subst}
use Rattle.serde_json.specs.Data.{Data}
use Rattle.json_values.specs.Parts.{Part}
use Rattle.schema_meaning.specs.Faults.{Fault, Faults, none, also, joined}
use Rattle.schema_reports.specs.Observers.{Hears}
use Rattle.schema_reports.specs.declared.kind.ValidationErrorKind.{ValidationErrorKind}
use Rattle.schema_reports.specs.declared.observer.Observation.{Observation}
use Rattle.schema_reports.specs.declared.observer.Observer.{Observer}
use Rattle.schema_reports.proofs.FaultLemmas.{joined-none, joined-joined}
use Rattle.schema_engine.specs.declared.situation.Situation.{Situation}
use Rattle.schema_engine.specs.Hearing.{HearsMore, HearsSame}
use Rattle.schema_engine.specs.Situations.{TellsOf}

pub hears_nothing : (o : Observer) → HearsMore none o o
hears_nothing o = record { heard = λ kept before h. subst (Hears kept o) (sym (joined-none before)) h }

pub hears_same : (fs gs : Faults) (old new : Observer) → fs ≡ gs → HearsMore fs old new → HearsMore gs old new
hears_same fs gs old new same h = subst (λ hs. HearsMore hs old new) same h

pub hears_both : (fs gs : Faults) (old mid new : Observer) → HearsMore fs old mid → HearsMore gs mid new → HearsMore (joined fs gs) old new
hears_both fs gs old mid new f g = record {
  heard = λ kept before h. subst (Hears kept new) (joined-joined before fs gs) (g.heard kept (joined before fs) (f.heard kept before h));
}

-- one that is settled has heard whatever comes later
pub hears_settled : (fs gs : Faults) (old now : Observer) → ((kept : Observation) (hs is : Faults) → Hears kept now hs → Hears kept now (joined hs is))
    → HearsMore fs old now → HearsMore (joined fs gs) old now
hears_settled fs gs old now settles f = record {
  heard = λ kept before h. subst (Hears kept now) (joined-joined before fs gs) (settles kept (joined before fs) gs (f.heard kept before h));
}

-- one that does not want to be told of a fault has heard of it
pub hears_unwanted : (old new : Observer) (f : Fault) → ((kept : Observation) (fs : Faults) (f : Fault) → Hears kept old fs → Hears kept new (joined fs (also f none)))
    → HearsMore (also f none) old new
hears_unwanted old new f heard = record { heard = λ kept before h. heard kept before f h }

pub hears_later : (fs : Faults) (old mid new : Observer) → ((kept : Observation) (fs : Faults) → Hears kept old fs → Hears kept mid fs) → HearsMore fs mid new → HearsMore fs old new
hears_later fs old mid new unheard h = record { heard = λ kept before g. h.heard kept before (unheard kept before g) }

pub hears_after : (fs : Faults) (old mid new : Observer) → HearsSame old mid → HearsMore fs mid new → HearsMore fs old new
hears_after fs old mid new unheard h = hears_later fs old mid new unheard.same h

-- what another one heard
pub hears_absorbed : (turn : Faults → Faults) (fs : Faults) (old begun heard new : Observer) → ((kept : Observation) (fs : Faults) → Hears kept old fs → Hears kept begun none) → HearsMore fs begun heard
    → ((kept : Observation) (fs gs : Faults) → Hears kept old fs → Hears kept heard gs → Hears kept new (joined fs (turn gs))) → HearsMore (turn fs) old new
hears_absorbed turn fs old begun heard new fresh told absorbs = record {
  heard = λ kept before h. absorbs kept before fs h (told.heard kept none (fresh kept before h));
}

-- of a fault that it is told of later
pub tells_after : (s : Situation) (parts : List Part) (kind : ValidationErrorKind) (value : Data) (old mid new : Observer) → HearsSame old mid → TellsOf s parts kind value mid new
    → TellsOf s parts kind value old new
tells_after s parts kind value old mid new unheard h = record { told = λ said stands. hears_after _ old mid new unheard (h.told said stands) }
