-- A text or one in its place, two statuses, the value of a JSON text, and what holds at errors.
use Rattle.std.proofs.Common.{◌≡◌, ℕ, List, true, Option, Some, None, ◌⊎◌, inl, inr, Result, Ok, Err, OnErr, if◌then◌else◌, refl, ap, arith}
use Rattle.std.specs.Option.{option_map, unwrap_or}
use Rattle.std.specs.Borrow.{Bor}
use Rattle.std.specs.Str.{is_utf8}
use Rattle.serde_json.specs.Read.{read}
use Rattle.schema_registries.specs.Refused.{text_value}

pub text_or : (o : Option (Bor (List ℕ))) (d : Bor (List ℕ)) → (unwrap_or o d).now ≡ unwrap_or (option_map (λ s. s.now) o) d.now
text_or None d = refl
text_or (Some s) d = refl

pub apart : (n : ℕ) → n ≡ 2 → n ≡ 3 → ⊥
apart n two three = absurd (omega (arith, two, three))

pub read_value : (text : List ℕ) → is_utf8 text ≡ true → text_value text ≡ read text
read_value text h = ap (λ b. if b then read text else None) h

pub on_err : {T E : Type 0} (r : Result T E) (P Q : Type 0) → (P → Q) → OnErr r P → OnErr r Q
on_err (Ok x) P Q f h = tt
on_err (Err e) P Q f h = f h

pub or_so : (A B C D : Type 0) → (C → D) → A ⊎ (B × C) → A ⊎ (B × D)
or_so A B C D f (inl a) = inl a
or_so A B C D f (inr b) = inr (b.0, f b.1)
