-- A reading with other paths of the schema: what is asked and what is accepted is the same.
use Rattle.std.proofs.Common.{◌≡◌, ℕ, zero, suc, List, Bool, true, false, Option, None, option_map, refl, ap}
use Rattle.json_values.specs.Parts.{Part}
use Rattle.schema_meaning.specs.Members.{all_true, all_known}
use Rattle.schema_meaning.specs.Places.{Spot}
use Rattle.schema_meaning.specs.Questions.{Question, asked_at}
use Rattle.schema_meaning.specs.Rules.{Rule, asks, accepts}
use Rattle.schema_meaning.specs.Readings.{Reading, rules, verdicts, Asks, IsNested, tell_one, tell, by_kind, asked, through, told}
use Rattle.meaning_laws.proofs.Known.{map_in}

module _ {S : Type 0} (r : Reading S) (path : S → List Part) where
  abbrev pub repathed : Reading S
  repathed = record r { schema_path = path }

  asks_back : (s : S) (w : Spot) (q : Question S) → Asks repathed s w q → Asks r s w q
  asks_back s w q a = record { keyword = a.keyword; stands = a.stands; asked = a.asked }

  pub nested_too : (nested : IsNested r) → (other : IsNested repathed) × ((s : S) → other.rank s ≡ nested.rank s)
  nested_too nested = (
    record {
      rank = nested.rank;
      shallow = λ s w q a g. nested.shallow s w q (asks_back s w q a) g;
      falls = λ s w q a g. nested.falls s w q (asks_back s w q a) g;
    },
    λ s. refl,
  )

  -- ---- verdicts

  tell_too : (w : Spot) (p q : List Part) (f g : Question S → Option Bool) → ((c : Question S) → f c ≡ g c) → (ks : List (Rule S)) → tell verdicts w p f ks ≡ tell verdicts w q g ks
  tell_too w p q f g h ks =
      ap (λ os. option_map all_true (all_known os)) (map_in (tell_one verdicts w p f) (tell_one verdicts w q g) ks
      (λ k i. ap (λ os. option_map (accepts k) (all_known os)) (map_in f g (asks k) (λ c j. h c))))

  kind_too : (b : Bool) (f g h k : S → Spot → Option Bool) (s : S) (w : Spot) → f s w ≡ g s w → h s w ≡ k s w → by_kind b f h s w ≡ by_kind b g k s w
  kind_too true f g h k s w e i = e
  kind_too false f g h k s w e i = i

  through_too : (f g : S → Spot → Option Bool) → ((s : S) (w : Spot) → f s w ≡ g s w) → (l : ℕ) (s : S) (w : Spot) → through verdicts r f l s w ≡ through verdicts repathed g l s w
  unfolding through
  through_too f g h zero s w = refl
  through_too f g h (suc l) s w =
      tell_too w (r.schema_path s) (path s) (asked f (through verdicts r f l) w) (asked g (through verdicts repathed g l) w)
      (λ q. kind_too q.follows f g (through verdicts r f l) (through verdicts repathed g l) q.site (asked_at w q) (h q.site (asked_at w q)) (through_too f g h l q.site (asked_at w q)))
      (rules r s w.value)

  pub told_too : (n : ℕ) (s : S) (w : Spot) → told verdicts r n s w ≡ told verdicts repathed n s w
  unfolding told
  told_too zero s w = through_too (λ s w. None) (λ s w. None) (λ s w. refl) (suc r.nesting) s w
  told_too (suc n) s w = through_too (told verdicts r n) (told verdicts repathed n) (told_too n) (suc r.nesting) s w
