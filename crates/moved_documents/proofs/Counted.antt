-- Moving a document inside another names no meta-schema more or less.
use Rattle.std.proofs.Common.{◌≡◌, ◌+◌, ℕ, List, Bool, true, false, if◌then◌else◌, bytes_eq, codes, Option, Some, None, refl, sym, arith}
use Rattle.std.proofs.lemmas.Slice.Eq.{bytes_eq-Decides}
use Rattle.serde_json.specs.Data.{Data, object, Members}
use Rattle.schema_definitions.specs.Bearers.{schemas_named, schemas_named_among}
use Rattle.moved_documents.specs.Premises.{IsFresh}
use Rattle.moved_documents.specs.Linked.{Changed, set_new, set_again, further, Extended, made, grown}
use Rattle.moved_documents.proofs.Near.{looked_apart}

abbrev named_in : Option Data → ℕ
named_in None = 0
named_in (Some d) = schemas_named d

abbrev one_if : Bool → ℕ
one_if b = if b then 1 else 0

abbrev is_schema_name : List ℕ → ℕ
is_schema_name k = one_if (bytes_eq k (codes "$schema"))

-- ---- members of which one has another value

named_changed : (k : List ℕ) (e : Data) → is_schema_name k ≡ 0 → {o : Option Data} {ms ns : Members} → Changed k e o ms ns
    → schemas_named_among ns + named_in o ≡ schemas_named e + schemas_named_among ms
named_changed k e none (set_new {ms = ms}) = omega (arith, none)
named_changed k e none (set_again {d = d} {ms = ms}) = omega (arith, none)
named_changed k e none (further {l = l} {d = d} {ms = ms} {ns = ns} x more) = (let h = named_changed k e none more in omega (arith, h))

module _ (fresh : List ℕ) (moved : Data) (is_fresh : IsFresh fresh) where
  fresh_no_schema : is_schema_name fresh ≡ 0
  fresh_no_schema = by (bytes_eq fresh (codes "$schema")) refl
    where
      by : (b : Bool) → bytes_eq fresh (codes "$schema") ≡ b → one_if b ≡ 0
      by false e = refl
      by true e = absurd (looked_apart fresh moved is_fresh (codes "$schema") refl (sym ((bytes_eq-Decides fresh (codes "$schema")).0 e)))

  named_extended : (es : Members) {o : Option Data} → Extended fresh moved o es → schemas_named_among es ≡ schemas_named moved + named_in o
  named_extended _ made = (let h = fresh_no_schema in omega (arith, h))
  named_extended es (grown {ds = ds} none change) = (let h = named_changed fresh moved fresh_no_schema change in omega (arith, h))

  pub named_at_root : {es : Members} {o : Option Data} {ms ns : Members} → Extended fresh moved o es → Changed (codes "$defs") (object es) o ms ns
      → schemas_named (object ns) ≡ schemas_named (object ms) + schemas_named moved
  named_at_root {es = es} {o = o} x change =
      let h = named_changed (codes "$defs") (object es) refl change in
      let g = named_extended es x in
      omega (arith, h, g)
