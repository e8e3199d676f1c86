-- The names of an object rise.
use Rattle.std.proofs.Common.{◌≡◌, ℕ, List, ◌&&◌, nat_cmp, refl, ap}
use Rattle.std.specs.Cmp.Lexicographic.{slice_cmp}
use Rattle.std.specs.Ordering.{is_lt}
use Rattle.serde_json.specs.Data.{Members, no_members, member}
use Rattle.json_values.specs.Equality.{rises_from}
use Rattle.json_values.specs.Rising.{are_rising}
use Rattle.schema_definitions.specs.Rows.{member_names}
use Rattle.compiled_keywords.specs.Sorted.{rise_behind, names_rise}

behind : (k : List ℕ) (ms : Members) → rise_behind k (member_names ms) ≡ rises_from k ms
behind k no_members = refl
behind k (member l d ms) = ap (λ b. is_lt (slice_cmp nat_cmp k l) && b) (behind l ms)

pub member_names_rise : (ms : Members) → names_rise (member_names ms) ≡ are_rising ms
member_names_rise no_members = refl
member_names_rise (member k d ms) = behind k ms
