-- Faults joined to faults.
use Rattle.std.proofs.Common.{◌≡◌, Bool, true, false, ◌&&◌, List, [], ◌∷◌, ◌++◌, refl, ap, sym, ◌∙◌, Option, Some, None, is_some, not, subst}
use Rattle.std.proofs.lemmas.Bool.{false≢true, true≢false, and_from, and_parts}
use Rattle.std.proofs.lemmas.List.Recursion.{and_push}
use Rattle.std.specs.Prelude.{Box}
use Rattle.std.specs.declared.alloc.Global.{Global}
use Rattle.std.specs.declared.vec.Vec.{Vec}
use Rattle.schema_meaning.specs.Faults.{Fault, Faults, none, also, joined, is_none, Told, told_first, told_later, Branches, no_branch, branch}
use Rattle.schema_meaning.specs.Places.{Spot}
use Rattle.schema_meaning.specs.Rules.{of_object, each_of_object}
use Rattle.schema_reports.specs.Stands.{is_kept_of}
use Rattle.schema_reports.specs.Told.{fault_of, faults_of, branches_in, error_is_proper, are_proper, context_is_proper, IsOneOf, AreAll}
use Rattle.schema_reports.specs.declared.error.ValidationError.{ValidationError}

pub joined-none : (fs : Faults) → joined fs none ≡ fs
joined-none none = refl
joined-none (also f fs) = ap (also f) (joined-none fs)

pub joined-joined : (fs gs hs : Faults) → joined (joined fs gs) hs ≡ joined fs (joined gs hs)
joined-joined none gs hs = refl
joined-joined (also f fs) gs hs = ap (also f) (joined-joined fs gs hs)

pub is_none-joined : (fs gs : Faults) → is_none (joined fs gs) ≡ (is_none fs && is_none gs)
is_none-joined none gs = refl
is_none-joined (also f fs) gs = refl

-- with one more there are some
pub not_none : (fs : Faults) (f : Fault) → is_none (joined fs (also f none)) ≡ false
not_none none f = refl
not_none (also g fs) f = refl

pub still_some : (fs gs : Faults) → false ≡ is_none fs → false ≡ is_none (joined fs gs)
still_some none gs e = absurd (cc (e))
still_some (also f fs) gs e = refl

pub Told-joined : {f : Fault} {fs : Faults} (gs : Faults) → Told f fs → Told f (joined fs gs)
Told-joined gs told_first = told_first
Told-joined gs (told_later t) = told_later (Told-joined gs t)

pub among-joined : {e : ValidationError} {fs : Faults} (gs : Faults) → IsOneOf e fs → IsOneOf e (joined fs gs)
among-joined gs one = record { told = Told-joined gs one.told; proper = one.proper }

-- the fault told first is one of them, whatever comes later
pub still_one : (o : Option (Box ValidationError Global)) (b : Bool) → b ≡ is_some o → b ≡ true → (fs gs : Faults) → is_kept_of o fs → is_kept_of o (joined fs gs)
still_one None b e h fs gs t = absurd (false≢true (sym e ∙ h))
still_one (Some x) b e h fs gs t = among-joined gs t

pub faults-append : (es ds : List ValidationError) → faults_of (es ++ ds) ≡ joined (faults_of es) (faults_of ds)
faults-append [] ds = refl
faults-append (e ∷ es) ds = ap (also (fault_of e)) (faults-append es ds)

proper-append : (es : List ValidationError) (e : ValidationError) → are_proper (es ++ e ∷ []) ≡ (are_proper es && error_is_proper e)
proper-append es e = and_push are_proper error_is_proper refl (λ x xs. refl) es e

-- one error more
pub all_told : (es ds : List ValidationError) (e : ValidationError) (f : Fault) → ds ≡ es ++ e ∷ [] → fault_of e ≡ f → error_is_proper e ≡ true
    → (fs : Faults) → AreAll es fs → AreAll ds (joined fs (also f none))
all_told es ds e f more is proper fs all = record {
  told = ap faults_of more ∙ faults-append es (e ∷ []) ∙ ap (λ g. joined (faults_of es) (also g none)) is ∙ ap (λ gs. joined gs (also f none)) all.told;
  proper = ap are_proper more ∙ proper-append es e ∙ and_from (are_proper es) (error_is_proper e) all.proper proper;
}

pub told_now : (o : Option (Box ValidationError Global)) (b : Bool) → is_some o ≡ not b → b ≡ true → (e : ValidationError) (f : Fault) → fault_of e ≡ f → error_is_proper e ≡ true
    → (fs : Faults) → is_kept_of o fs → IsOneOf e (joined fs (also f none))
told_now None b n h e f is proper fs told = record {
  told = subst (λ gs. Told (fault_of e) (joined gs (also f none))) (sym told) (subst (λ g. Told (fault_of e) (also g none)) is told_first);
  proper = proper;
}
told_now (Some x) b n h e f is proper fs told = absurd (true≢false (n ∙ ap not h))

pub told_before : (o : Option (Box ValidationError Global)) (b : Bool) → is_some o ≡ not b → b ≡ false → (gs fs : Faults) → is_kept_of o fs → is_kept_of o (joined fs gs)
told_before None b n h gs fs told = absurd (false≢true (n ∙ ap not h))
told_before (Some x) b n h gs fs told = among-joined gs told

-- ---- one more of several that were made anew

pub faults_pushed : (es ds : List ValidationError) (e d : ValidationError) → ds ≡ es ++ d ∷ [] → fault_of d ≡ fault_of e
    → (yielded : List ValidationError) → faults_of es ≡ faults_of yielded → faults_of ds ≡ faults_of (yielded ++ e ∷ [])
faults_pushed es ds e d more same yielded told =
    ap faults_of more ∙ faults-append es (d ∷ []) ∙ ap (λ f. joined (faults_of es) (also f none)) same
    ∙ ap (λ gs. joined gs (also (fault_of e) none)) told ∙ sym (faults-append yielded (e ∷ []))

pub proper_pushed : (es ds : List ValidationError) (e d : ValidationError) → ds ≡ es ++ d ∷ [] → error_is_proper d ≡ error_is_proper e
    → (yielded : List ValidationError) → are_proper es ≡ are_proper yielded → are_proper ds ≡ are_proper (yielded ++ e ∷ [])
proper_pushed es ds e d more same yielded so =
    ap are_proper more ∙ proper-append es d ∙ ap (λ b. are_proper es && b) same ∙ ap (λ b. b && error_is_proper e) so ∙ sym (proper-append yielded e)

abbrev with_branch : Branches → Faults → Branches
with_branch no_branch fs = branch fs no_branch
with_branch (branch gs bs) fs = branch gs (with_branch bs fs)

branches-append : (bs : List (Vec ValidationError Global)) (d : Vec ValidationError Global)
    → branches_in (bs ++ d ∷ []) ≡ with_branch (branches_in bs) (faults_of d.items)
branches-append [] d = refl
branches-append (b ∷ bs) d = ap (branch (faults_of b.items)) (branches-append bs d)

pub branches_pushed : (bs cs : List (Vec ValidationError Global)) (b d : Vec ValidationError Global) → cs ≡ bs ++ d ∷ []
    → faults_of d.items ≡ faults_of b.items → (yielded : List (Vec ValidationError Global)) → branches_in bs ≡ branches_in yielded
    → branches_in cs ≡ branches_in (yielded ++ b ∷ [])
branches_pushed bs cs b d more same yielded told =
    ap branches_in more ∙ branches-append bs d ∙ ap (with_branch (branches_in bs)) same
    ∙ ap (λ ds. with_branch ds (faults_of b.items)) told ∙ sym (branches-append yielded b)

context-append : (bs : List (Vec ValidationError Global)) (d : Vec ValidationError Global) → context_is_proper (bs ++ d ∷ []) ≡ (context_is_proper bs && are_proper d.items)
context-append bs d = and_push context_is_proper (λ (b : Vec ValidationError Global). are_proper b.items) refl (λ x xs. refl) bs d

pub context_pushed : (bs cs : List (Vec ValidationError Global)) (b d : Vec ValidationError Global) → cs ≡ bs ++ d ∷ [] → are_proper d.items ≡ are_proper b.items
    → (yielded : List (Vec ValidationError Global)) → context_is_proper bs ≡ context_is_proper yielded → context_is_proper cs ≡ context_is_proper (yielded ++ b ∷ [])
context_pushed bs cs b d more same yielded so =
    ap context_is_proper more ∙ context-append bs d ∙ ap (λ p. context_is_proper bs && p) same
    ∙ ap (λ p. p && are_proper b.items) so ∙ sym (context-append yielded b)

-- with the errors of one branch more
pub context_longer : (bs cs : List (Vec ValidationError Global)) (d : Vec ValidationError Global) → cs ≡ bs ++ d ∷ [] → context_is_proper bs ≡ true → are_proper d.items ≡ true
    → context_is_proper cs ≡ true
context_longer bs cs d more before one = ap context_is_proper more ∙ context-append bs d ∙ and_from (context_is_proper bs) (are_proper d.items) before one

-- ---- what another observer heard

-- the first of two, where the one told before has none
pub first_absorbed : (o : Option (Box ValidationError Global)) → is_some o ≡ false → (e : ValidationError) (f : Fault) → fault_of e ≡ f → error_is_proper e ≡ true
    → (fs gs : Faults) → is_kept_of o fs → Told f gs → IsOneOf e (joined fs gs)
first_absorbed None n e f same proper fs gs told heard = record {
  told = subst (λ hs. Told (fault_of e) (joined hs gs)) (sym told) (subst (λ h. Told h gs) (sym same) heard);
  proper = proper;
}
first_absorbed (Some x) n e f same proper fs gs told heard = absurd (true≢false n)

-- those told before, and then what became of each of the others
abbrev pub Absorbs : (Faults → Faults) → List ValidationError → List ValidationError → List ValidationError → Type 0
Absorbs turn before yielded es = (fs gs : Faults) → AreAll before fs → AreAll yielded gs → AreAll es (joined fs (turn gs))

one_absorbed : (turn : Faults → Faults) → ((fs gs : Faults) → turn (joined fs gs) ≡ joined (turn fs) (turn gs)) → (es ds : List ValidationError) (e d : ValidationError)
    → ds ≡ es ++ d ∷ [] → turn (also (fault_of e) none) ≡ also (fault_of d) none → error_is_proper d ≡ error_is_proper e
    → (before yielded : List ValidationError) → Absorbs turn before yielded es → Absorbs turn before (yielded ++ e ∷ []) ds
one_absorbed turn splits es ds e d more is same before yielded absorbs fs gs told heard =
    let parts = and_parts (are_proper yielded) (error_is_proper e) (sym (proper-append yielded e) ∙ heard.proper) in
    let rest = absorbs fs (faults_of yielded) told (record { told = refl; proper = parts.0 }) in
    let whole = joined-joined fs (turn (faults_of yielded)) (also (fault_of d) none)
    ∙ ap (λ x. joined fs (joined (turn (faults_of yielded)) x)) (sym is)
    ∙ ap (joined fs) (sym (splits (faults_of yielded) (also (fault_of e) none)))
    ∙ ap (λ hs. joined fs (turn hs)) (sym (faults-append yielded (e ∷ [])) ∙ heard.told) in
    subst (AreAll ds) whole (all_told es ds d (fault_of d) more refl (same ∙ parts.1) (joined fs (turn (faults_of yielded))) rest)

pub all_absorbed : (es ds : List ValidationError) (e d : ValidationError) → ds ≡ es ++ d ∷ [] → fault_of d ≡ fault_of e → error_is_proper d ≡ error_is_proper e
    → (before yielded : List ValidationError) → Absorbs (λ hs. hs) before yielded es → Absorbs (λ hs. hs) before (yielded ++ e ∷ []) ds
all_absorbed es ds e d more is same = one_absorbed (λ hs. hs) (λ fs gs. refl) es ds e d more (ap (λ f. also f none) (sym is)) same

pub none_absorbed : (turn : Faults → Faults) → turn none ≡ none → (before : List ValidationError) → Absorbs turn before [] before
none_absorbed turn still before fs gs told heard =
    subst (AreAll before) (sym (joined-none fs) ∙ ap (joined fs) (sym still) ∙ ap (λ hs. joined fs (turn hs)) heard.told) told

-- ---- what another observer heard of a name, told of the object

pub object-joined : (w : Spot) (fs gs : Faults) → each_of_object w (joined fs gs) ≡ joined (each_of_object w fs) (each_of_object w gs)
object-joined w none gs = refl
object-joined w (also f fs) gs = ap (also (of_object w f)) (object-joined w fs gs)

pub Told-object : {f : Fault} {fs : Faults} (w : Spot) → Told f fs → Told (of_object w f) (each_of_object w fs)
Told-object w told_first = told_first
Told-object w (told_later t) = told_later (Told-object w t)

pub all_named : (w : Spot) (es ds : List ValidationError) (e d : ValidationError) → ds ≡ es ++ d ∷ [] → fault_of d ≡ of_object w (fault_of e) → error_is_proper d ≡ error_is_proper e
    → (before yielded : List ValidationError) → Absorbs (each_of_object w) before yielded es → Absorbs (each_of_object w) before (yielded ++ e ∷ []) ds
all_named w es ds e d more is same = one_absorbed (each_of_object w) (object-joined w) es ds e d more (ap (λ f. also f none) (sym is)) same
