-- What the code's scope keys stand for, when they are equal, and what their hash feeds a hasher.
use Rattle.std.specs.Prelude.{◌≡◌, ◌++◌, ℕ, List, Bool, true, ◌&&◌, map, Option, Some, None, option_map, bytes_eq}
use Rattle.std.specs.Option.{option_eq}
use Rattle.std.specs.Hash.{HashWrites, and-Alike, on_Alike, items_Alike}
use Rattle.std.specs.Hash as fed
use Rattle.std.proofs.Common.{refl, ap}
use Rattle.std.proofs.lemmas.Bool.{false≢true}
use Rattle.std.proofs.lemmas.Slice.Eq.{bytes_eq-Decides}
use Rattle.std.specs.Cmp.{IsEquivalence, IsPartialEquivalence, on_equiv, and_equiv, partial_equiv_from_equiv}
use Rattle.std.specs.Cmp.Lexicographic.{pointwise, lists_equiv, options_equiv, nat_list_eq_equiv}
use Rattle.schema_definitions.specs.CompileKeys.{ScopeKey}
use Rattle.referencing.specs.declared.scope_key.ScopeKey as code

abbrev pub key_of : code.ScopeKey → ScopeKey
key_of k = record { bearers = map (option_map (λ u. u.value)) k.bearers.items; run = k.run.value }

abbrev pub keys_eq : ScopeKey → ScopeKey → Bool
keys_eq a b = pointwise (option_eq bytes_eq) a.bearers b.bearers && bytes_eq a.run b.run

pub keys_eq_equiv : IsEquivalence keys_eq
keys_eq_equiv = and_equiv (on_equiv (λ (k : ScopeKey). k.bearers) (lists_equiv (options_equiv nat_list_eq_equiv))) (on_equiv (λ (k : ScopeKey). k.run) nat_list_eq_equiv)

pub keys_eq_per : IsPartialEquivalence keys_eq
keys_eq_per = partial_equiv_from_equiv keys_eq_equiv

abbrev pub key_fed : ScopeKey → HashWrites
key_fed k = fed.slice (fed.option fed.str) k.bearers ++ fed.str k.run

text_fed_alike : (s t : List ℕ) → bytes_eq s t ≡ true → fed.str s ≡ fed.str t
text_fed_alike s t h = ap fed.str ((bytes_eq-Decides s t).0 h)

bearer_fed_alike : (a b : Option (List ℕ)) → option_eq bytes_eq a b ≡ true → fed.option fed.str a ≡ fed.option fed.str b
bearer_fed_alike None None h = refl
bearer_fed_alike None (Some t) h = absurd (false≢true h)
bearer_fed_alike (Some s) None h = absurd (false≢true h)
bearer_fed_alike (Some s) (Some t) h = ap (λ u. fed.option fed.str (Some u)) ((bytes_eq-Decides s t).0 h)

-- equal keys are fed alike
pub keys_fed_alike : (a b : ScopeKey) → keys_eq a b ≡ true → key_fed a ≡ key_fed b
keys_fed_alike = (and-Alike (on_Alike (λ (k : ScopeKey). k.bearers) (items_Alike (record { fed = bearer_fed_alike }))) (on_Alike (λ (k : ScopeKey). k.run) (record { fed = text_fed_alike }))).fed
