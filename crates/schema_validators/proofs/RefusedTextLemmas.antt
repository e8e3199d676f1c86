-- The text for which documents are refused, told of those that are misnamed or absent.
use Rattle.std.proofs.Common.{◌∙◌, List, [], ◌∷◌, Option, Some, None, Result, Ok, Err, IfOk, Box, box_value, subst}
use Rattle.std.specs.List.{All, AllZip, Contains}
use Rattle.std.specs.declared.alloc.AllocError.{AllocError}
use Rattle.std.specs.declared.alloc.Global.{Global}
use Rattle.std.proofs.lemmas.List.Elements.{All-nil, All-cons, All-head, All-tail, All-contains_itself}
use Rattle.document_sources.specs.Causes.{NamesDocument}
use Rattle.document_sources.specs.declared.error.Error.{Error}
use Rattle.reached_sites.specs.declared.cause.BuildCause.{BuildCause}
use Rattle.reached_sites.specs.declared.cause.BuildCause.TheVariants as cause
use Rattle.schema_validators.specs.Absent.{Absent, NamesAbsent}
use Rattle.schema_validators.specs.Misnamed.{Misnamed, NamesMisnamed}
use Rattle.schema_validators.specs.RefusedTexts.{IsOf, IsNotOf, IsTextOf, IsTextIn, IsFoundIn, IsTextWith, IsMisnamedText, IsAbsentText}
use Rattle.schema_validators.specs.declared.error.RefusedText.{RefusedText}

-- ---- what is told of some

module _ {A B : Type 0} (R : A → B → Type 0) where
  abbrev HasOne : List A → B → Type 0
  HasOne xs y = (x : A) × Contains xs x × R x y

  at-head : (x : A) (xs : List A) → Contains (x ∷ xs) x
  at-head x xs = All-head (Contains (x ∷ xs)) x xs (All-contains_itself (x ∷ xs))

  behind : (x : A) (xs : List A) (y : B) → HasOne xs y → HasOne (x ∷ xs) y
  behind x xs y h = (h.0, subst (Contains (x ∷ xs)) h.1.2 (All-tail (Contains (x ∷ xs)) x xs (All-contains_itself (x ∷ xs)) h.1.0 h.0 h.1.1), h.2)

  all-behind : (x : A) (xs : List A) (ys : List B) → All (HasOne xs) ys → All (HasOne (x ∷ xs)) ys
  all-behind x xs ys h = λ i d less. behind x xs _ (h i d less)

  all-told : (xs : List A) (ys : List B) → AllZip R xs ys → All (HasOne xs) ys
  all-told [] [] h = All-nil (HasOne [])
  all-told [] (y ∷ ys) h = absurd h
  all-told (x ∷ xs) [] h = All-nil (HasOne (x ∷ xs))
  all-told (x ∷ xs) (y ∷ ys) h = All-cons (HasOne (x ∷ xs)) y ys (x, at-head x xs, h.0) (all-behind x xs ys (all-told xs ys h.1))

  -- each is told of one of them
  one-told : (xs : List A) (ys : List B) (y : B) → AllZip R xs ys → Contains ys y → HasOne xs y
  one-told xs ys y h among = subst (HasOne xs) among.2 (all-told xs ys h among.0 y among.1)

  -- what holds of all that is told holds of all of which it is told
  all-back : (P : B → Type 0) (Q : A → Type 0) → ((x : A) (y : B) → R x y → P y → Q x) → (xs : List A) (ys : List B) → AllZip R xs ys → All P ys → All Q xs
  all-back P Q by [] ys h all = All-nil Q
  all-back P Q by (x ∷ xs) [] h all = absurd h
  all-back P Q by (x ∷ xs) (y ∷ ys) h all = All-cons Q x xs (by x y h.0 (All-head P y ys all)) (all-back P Q by xs ys h.1 (All-tail P y ys all))

-- ---- of causes

-- the text of the cause that was found
pub text-found : (e : Error) (causes : List BuildCause) (c : BuildCause) → Contains causes c → IsOf e c
    → (x : Result (Option (Box RefusedText Global)) AllocError) → IfOk x (IsTextIn c) → IfOk x (IsFoundIn e causes)
text-found e causes c among of (Err y) h = tt
text-found e causes c among of (Ok (Some t)) h = record { cause = c; among = among; named = of; text = h }
text-found e causes (cause.KeywordValue place expected found) among of (Ok None) h = absurd of
text-found e causes (cause.BadPattern place pattern) among of (Ok None) h = absurd of
text-found e causes (cause.Unevaluated place) among of (Ok None) h = absurd of
text-found e causes (cause.Reference place reference own) among of (Ok None) h = absurd h
text-found e causes (cause.NodeLimit limit) among of (Ok None) h = absurd of
text-found e causes cause.Memory among of (Ok None) h = absurd of

-- ---- of texts that name nothing

misnamed-with : (m : Misnamed) (c : BuildCause) (e : Error) (t : RefusedText) → NamesMisnamed m c → IsOf e c → IsTextOf c t → IsTextWith m.place m.reference m.cause e t
misnamed-with m (cause.KeywordValue place expected found) e t names of text = absurd names
misnamed-with m (cause.BadPattern place pattern) e t names of text = absurd names
misnamed-with m (cause.Unevaluated place) e t names of text = absurd names
misnamed-with m (cause.Reference place reference own) e t names of text = (text.0 ∙ names.0, text.1 ∙ names.1, of m.cause names.2)
misnamed-with m (cause.NodeLimit limit) e t names of text = absurd names
misnamed-with m cause.Memory e t names of text = absurd names

misnamed-other : (e : Error) (m : Misnamed) (c : BuildCause) → NamesMisnamed m c → IsNotOf e c → NamesDocument m.cause e → ⊥
misnamed-other e m (cause.KeywordValue place expected found) names other = absurd names
misnamed-other e m (cause.BadPattern place pattern) names other = absurd names
misnamed-other e m (cause.Unevaluated place) names other = absurd names
misnamed-other e m (cause.Reference place reference own) names other = other m.cause names.2
misnamed-other e m (cause.NodeLimit limit) names other = absurd names
misnamed-other e m cause.Memory names other = absurd names

pub misnamed-found : (e : Error) (ms : List Misnamed) (causes : List BuildCause) → AllZip NamesMisnamed ms causes
    → (x : Result (Option (Box RefusedText Global)) AllocError) → IfOk x (IsFoundIn e causes) → IfOk x (IsMisnamedText ms e)
misnamed-found e ms causes told (Err y) h = tt
misnamed-found e ms causes told (Ok None) h = all-back NamesMisnamed (IsNotOf e) (λ m. NamesDocument m.cause e → ⊥) (misnamed-other e) ms causes told h
misnamed-found e ms causes told (Ok (Some t)) h =
    let one = one-told NamesMisnamed ms causes h.cause told h.among in
    record { misnamed = one.0; among = one.1; text = misnamed-with one.0 h.cause e (box_value t) one.2 h.named h.text }

-- ---- of texts that refer to what is not at hand

absent-with : (a : Absent) (c : BuildCause) (e : Error) (t : RefusedText) → NamesAbsent a c → IsOf e c → IsTextOf c t → IsTextWith a.place a.reference a.want.cause e t
absent-with a (cause.KeywordValue place expected found) e t names of text = absurd names
absent-with a (cause.BadPattern place pattern) e t names of text = absurd names
absent-with a (cause.Unevaluated place) e t names of text = absurd names
absent-with a (cause.Reference place reference own) e t names of text = (text.0 ∙ names.0, text.1 ∙ names.1, of a.want.cause names.2)
absent-with a (cause.NodeLimit limit) e t names of text = absurd names
absent-with a cause.Memory e t names of text = absurd names

absent-other : (e : Error) (a : Absent) (c : BuildCause) → NamesAbsent a c → IsNotOf e c → NamesDocument a.want.cause e → ⊥
absent-other e a (cause.KeywordValue place expected found) names other = absurd names
absent-other e a (cause.BadPattern place pattern) names other = absurd names
absent-other e a (cause.Unevaluated place) names other = absurd names
absent-other e a (cause.Reference place reference own) names other = other a.want.cause names.2
absent-other e a (cause.NodeLimit limit) names other = absurd names
absent-other e a cause.Memory names other = absurd names

pub absent-found : (e : Error) (xs : List Absent) (causes : List BuildCause) → AllZip NamesAbsent xs causes
    → (x : Result (Option (Box RefusedText Global)) AllocError) → IfOk x (IsFoundIn e causes) → IfOk x (IsAbsentText xs e)
absent-found e xs causes told (Err y) h = tt
absent-found e xs causes told (Ok None) h = all-back NamesAbsent (IsNotOf e) (λ a. NamesDocument a.want.cause e → ⊥) (absent-other e) xs causes told h
absent-found e xs causes told (Ok (Some t)) h =
    let one = one-told NamesAbsent xs causes h.cause told h.among in
    record { absent = one.0; among = one.1; text = absent-with one.0 h.cause e (box_value t) one.2 h.named h.text }
