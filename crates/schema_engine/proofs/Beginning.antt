-- Where questions begin, they lead.
use Rattle.std.proofs.Common.{ℕ, List, [], ◌∷◌, map, Option, Some, None, IfSome, sym, subst}
use Rattle.serde_json.specs.Data.{Data}
use Rattle.schema_meaning.specs.Members.{In, first, later}
use Rattle.schema_meaning.specs.Keywords.{Shape}
use Rattle.schema_engine.specs.declared.node.Node.{Node}
use Rattle.schema_engine.specs.Graphs.{keywords_at, AreKnown}
use Rattle.schema_engine.specs.Led.{IsLed, begins, LedFrom, LedTo, HasKeywords, AreReady, BeginsWith, BeginAt}
use Rattle.schema_engine.specs.Matches.{Matches, Start, completed}

in_map : {A B : Type 0} (f : A → B) (x : A) (xs : List A) → In x xs → In (f x) (map f xs)
in_map f x [] i = elim i [ ]
in_map f x (y ∷ xs) first = first
in_map f x (y ∷ xs) (later i) = later (in_map f x xs i)

module _ {K : Type 0} (knows : K → (ℕ → List ℕ) → Type 0) (shape : K → Shape ℕ) (nodes : List (Node K)) (n : ℕ) (m : Matches) (d : Data) where
  has_keywords : (o : Option Start) → IfSome o (BeginsWith shape nodes n d) → IfSome o (HasKeywords shape nodes)
  has_keywords None b = tt
  has_keywords (Some s) b = λ i k stands. subst (In (shape k)) (sym (b.keywords i)) (in_map shape k (keywords_at nodes i) stands)

  pub ready_at : AreKnown knows m.pattern nodes → BeginAt shape m nodes n d → AreReady knows shape m nodes
  ready_at known b = record { known = known; asks = has_keywords m.from b }

  led_from : (o : Option Start) → IfSome o (BeginsWith shape nodes n d) → IfSome o (LedFrom m n d)
  led_from None b = tt
  led_from (Some s) b =
      λ rest. subst (λ e. IsLed (completed m rest) s n e) b.value (subst (λ i. IsLed (completed m rest) s i s.value) b.node begins)

  pub led_at : BeginAt shape m nodes n d → LedTo m n d
  led_at b = led_from m.from b
