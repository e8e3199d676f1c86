-- What holds of results that are put together.
use Rattle.std.proofs.Common.{◌≡◌, Bool, true, false, Option, Some, None, Result, Ok, Err, IfOk, subst}
use Rattle.std.specs.Prelude.{IfSome, if◌then◌else◌, option_and_then}
use Rattle.schema_definitions.specs.Words.{result_map, ok_or, and_then}

pub ok_next : {X Y E : Type 0} (S : X → Type 0) (T : Y → Type 0) (r : Result X E) (f : X → Result Y E) → IfOk r S → ((x : X) → S x → IfOk (f x) T) → IfOk (and_then r f) T
ok_next S T (Ok x) f h g = g x h
ok_next S T (Err e) f h g = tt

pub ok_map : {X Y E : Type 0} (S : X → Type 0) (T : Y → Type 0) (r : Result X E) (f : X → Y) → IfOk r S → ((x : X) → S x → T (f x)) → IfOk (result_map f r) T
ok_map S T (Ok x) f h g = g x h
ok_map S T (Err e) f h g = tt

pub ok_some : {X E : Type 0} (S : X → Type 0) (e : E) (o : Option X) → IfSome o S → IfOk (ok_or e o) S
ok_some S e None h = tt
ok_some S e (Some x) h = h

pub ok_either : {X E : Type 0} (S : X → Type 0) (b : Bool) (r s : Result X E) → IfOk r S → IfOk s S → IfOk (if b then r else s) S
ok_either S true r s h g = h
ok_either S false r s h g = g

pub ok_always : {X E : Type 0} (S : X → Type 0) (r : Result X E) → ((x : X) → S x) → IfOk r S
ok_always S (Ok x) h = h x
ok_always S (Err e) h = tt

pub some_next : {X Y : Type 0} (S : Y → Type 0) (o : Option X) (f : X → Option Y) → ((x : X) → IfSome (f x) S) → IfSome (option_and_then f o) S
some_next S None f h = tt
some_next S (Some x) f h = h x

pub of_ok : {X E : Type 0} (S : X → Type 0) (r : Result X E) (x : X) → IfOk r S → r ≡ Ok x → S x
of_ok S r x h e = subst (λ s. IfOk s S) e h

pub ok_each : {X E : Type 0} (S T : X → Type 0) (r : Result X E) → IfOk r S → ((x : X) → S x → T x) → IfOk r T
ok_each S T (Ok x) h g = g x h
ok_each S T (Err e) h g = tt

pub of_some : {X : Type 0} (S : X → Type 0) (o : Option X) (x : X) → IfSome o S → o ≡ Some x → S x
of_some S o x h e = subst (λ p. IfSome p S) e h
