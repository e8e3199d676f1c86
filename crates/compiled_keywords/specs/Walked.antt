-- Members of an object that are walked in the order of their names.
use Rattle.std.specs.Prelude.{◌≡◌, ℕ, List, Bool, true, Option, None, Some, String, string_bytes}
use Rattle.std.specs.declared.alloc.Global.{Global}
use Rattle.std.specs.Borrow.{Bor}
use Rattle.std.specs.Cmp.Lexicographic.{slice_cmp}
use Rattle.std.specs.Ordering.{nat_cmp, is_lt}
use Rattle.serde_json.specs.Data.{Data, Members, no_members, member}
use Rattle.serde_json.specs.Find.{get, get_member}
use Rattle.serde_json.specs.View.{view, members_view}
use Rattle.serde_json.specs.declared.value.Value.{Value}
use Rattle.json_values.specs.Equality.{rises_from}
use Rattle.json_values.specs.Rising.{are_rising}
use Rattle.compiled_keywords.specs.declared.walk.Walk.{Walk}

-- those that are not passed: the next and the rest
abbrev pub left_from : Option (Bor (String Global) × Bor Value) → Members → Members
left_from None rest = no_members
left_from (Some m) rest = member (string_bytes m.0.now) (view m.1.now) rest

abbrev pub left_of : Walk → Members
left_of w = left_from w.next (members_view w.rest)

-- a name stands behind the one that was passed, if there is one
abbrev pub is_behind : Option (Bor (List ℕ)) → List ℕ → Bool
is_behind None k = true
is_behind (Some p) k = is_lt (slice_cmp nat_cmp p.now k)

abbrev pub rise_behind : Option (Bor (List ℕ)) → Members → Bool
rise_behind None ms = are_rising ms
rise_behind (Some p) ms = rises_from p.now ms

-- those left rise behind the one passed, and of the names behind it they are the value's members
pub record IsInStep (w : Walk) (d : Data) : Type 0 where
  pub rising : rise_behind w.passed (left_of w) ≡ true
  pub same : (k : List ℕ) → is_behind w.passed k ≡ true → get_member k (left_of w) ≡ get k d
