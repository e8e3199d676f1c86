use Rattle.std.proofs.Common.{◌∙◌, ap}
use Rattle.serde_json.specs.View.{members_view}
use Rattle.compiled_keywords.specs.Sorted.{names_rise}
use Rattle.keyword_compilers.proofs.Rising.{member_names_rise}
use Rattle.keyword_compilers.proofs.names.names_in.Goals as goal

pub invariant_of-result : goal.invariant_of-result
invariant_of-result c =
    record { rise = ap names_rise c.in_ok-list-in-Some.ensures ∙ member_names_rise (members_view c.in-Some.schemas.now.entries) ∙ c.entries_rise.ensures }
