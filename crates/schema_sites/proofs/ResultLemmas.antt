-- What an answer says, from what another says of it.
use Rattle.std.proofs.Common.{Result, Ok, Err, IfOk, IfErr}
use Rattle.std.specs.Result.{IsErrAnd}

pub if-ok : {X E : Type 0} (P Q : X → Type 0) (r : Result X E) → ((x : X) → P x → Q x) → IfOk r P → IfOk r Q
if-ok P Q (Ok x) h p = h x p
if-ok P Q (Err e) h p = p

pub if-err : {X E : Type 0} (P Q : E → Type 0) (r : Result X E) → ((e : E) → P e → Q e) → IfErr r P → IfErr r Q
if-err P Q (Ok x) h p = p
if-err P Q (Err e) h p = h e p

-- an error that `?` passes on
pub kept : {X E : Type 0} (r : Result X E) (P Q : E → Type 0) → IsErrAnd r P → ((e : E) → P e → Q e) → IfErr r Q
kept (Ok v) P Q is h = absurd is
kept (Err e) P Q is h = h e is

pub if-err-both : {X E : Type 0} (P Q R : E → Type 0) (r : Result X E) → ((e : E) → P e → Q e → R e) → IfErr r P → IfErr r Q → IfErr r R
if-err-both P Q R (Ok x) h p q = p
if-err-both P Q R (Err e) h p q = h e p q
