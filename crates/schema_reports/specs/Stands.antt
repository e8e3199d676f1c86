-- What each observer says of the faults told so far.
use Rattle.std.specs.Prelude.{◌≡◌, Option, Some, None, Box, box_value, map}
use Rattle.std.specs.declared.alloc.Global.{Global}
use Rattle.schema_meaning.specs.Faults.{Faults, none, is_none}
use Rattle.schema_definitions.specs.Lines.{paths_of}
use Rattle.schema_reports.specs.Pairs.{pair_bytes}
use Rattle.schema_reports.specs.Told.{IsOneOf, AreAll}
use Rattle.schema_reports.specs.declared.error.ValidationError.{ValidationError}
use Rattle.schema_reports.specs.declared.verdict.Verdict.{Verdict}
use Rattle.schema_reports.specs.declared.first_fault.FirstFault.{FirstFault}
use Rattle.schema_reports.specs.declared.all_faults.AllFaults.{AllFaults}
use Rattle.schema_reports.specs.declared.path_pairs.PathPairs.{PathPairs}

-- whether there are none
abbrev pub verdict_stands : Verdict → Faults → Type 0
verdict_stands v fs = v.accepts ≡ is_none fs

-- one of them, and none where there are none
abbrev pub is_one_of : Option ValidationError → Faults → Type 0
is_one_of None fs = fs ≡ none
is_one_of (Some e) fs = IsOneOf e fs

-- the same of an error in a box
abbrev pub is_kept_of : Option (Box ValidationError Global) → Faults → Type 0
is_kept_of None fs = fs ≡ none
is_kept_of (Some b) fs = IsOneOf (box_value b) fs

abbrev pub first_stands : FirstFault → Faults → Type 0
first_stands f fs = is_kept_of f.error fs

-- each of them, in order
abbrev pub all_stand : AllFaults → Faults → Type 0
all_stand a fs = AreAll a.errors.items fs

-- the texts of the two paths of each of them, in order
abbrev pub pairs_stand : PathPairs → Faults → Type 0
pairs_stand p fs = map pair_bytes p.pairs.items ≡ paths_of fs
