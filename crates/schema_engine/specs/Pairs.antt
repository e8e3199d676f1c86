-- Two keywords of a node that go together.
use Rattle.std.specs.Prelude.{◌≡◌, ◌<◌, List, length, get_or}
use Rattle.schema_engine.specs.declared.node.Together.{Together}

-- two keywords stand where it says, the second before the first, and their questions can be pushed together
pub record ArePaired {K : Type 0} (go_together : K → K → Type 0) (ks : List K) (t : Together) : Type 0 where
  pub first : t.first < length ks
  pub second : t.second < length ks
  pub rises : t.second < t.first
  pub pairs : (one other : K) → one ≡ get_or ks t.first one → other ≡ get_or ks t.second other → go_together one other
