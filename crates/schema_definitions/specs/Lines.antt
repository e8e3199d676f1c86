-- Lines: an instance each, and the text of its faults' paths.
use Rattle.std.specs.Prelude.{ℕ, List, [], ◌∷◌, Bool, true, false, if◌then◌else◌, Option, Some, None, option_and_then}
use Rattle.std.specs.Str.{is_utf8}
use Rattle.std.specs.declared.cmp.Ordering.TheVariants.{Less, Equal, Greater}
use Rattle.std.specs.Ordering.{nat_cmp, is_le}
use Rattle.std.specs.Cmp.Lexicographic.{slice_cmp}
use Rattle.serde_json.specs.Data.{Data, string, array, Items, no_items, item}
use Rattle.serde_json.specs.Read.{read}
use Rattle.serde_json.specs.Written.{compact_text}
use Rattle.json_values.specs.Equality.{is_tree}
use Rattle.uri_references.specs.Passed.{pieces}
use Rattle.schema_meaning.specs.Faults.{Fault, Faults, none, also, instance_path, evaluation_path}
use Rattle.schema_definitions.specs.PathTexts.{path_text}

-- ---- the pairs of paths, in order

abbrev pub paths_of : Faults → List (List ℕ × List ℕ)
paths_of none = []
paths_of (also f fs) = (path_text (instance_path f), path_text (evaluation_path f)) ∷ paths_of fs

-- by the bytes of the first, and then of the second
abbrev pub comes_first : List ℕ × List ℕ → List ℕ × List ℕ → Bool
comes_first p q = elim (slice_cmp nat_cmp p.0 q.0) [ Less ↦ true | Equal ↦ is_le (slice_cmp nat_cmp p.1 q.1) | Greater ↦ false ]

abbrev pub among : List ℕ × List ℕ → List (List ℕ × List ℕ) → List (List ℕ × List ℕ)
among p [] = p ∷ []
among p (q ∷ qs) = if comes_first p q then p ∷ q ∷ qs else q ∷ among p qs

abbrev pub in_order : List (List ℕ × List ℕ) → List (List ℕ × List ℕ)
in_order [] = []
in_order (p ∷ ps) = among p (in_order ps)

-- ---- the text of a line

abbrev pub pairs_data : List (List ℕ × List ℕ) → Items
pairs_data [] = no_items
pairs_data (p ∷ ps) = item (array (item (string p.0) (item (string p.1) no_items))) (pairs_data ps)

-- the compact JSON list of the pairs
abbrev pub faults_text : Faults → List ℕ
faults_text fs = compact_text (array (pairs_data (in_order (paths_of fs))))

-- the value of a line: a JSON text (RFC 8259) of whole numbers
abbrev pub line_value : List ℕ → Option Data
line_value text = if is_utf8 text then option_and_then (λ d. if is_tree d then Some d else None) (read text) else None

-- ---- the lines of an input: each ended by a line end, and what stands behind the last one where it is not empty

abbrev pub ended : List (List ℕ) → List (List ℕ)
ended [] = []
ended ([] ∷ []) = []
ended ((b ∷ line) ∷ []) = (b ∷ line) ∷ []
ended (line ∷ next ∷ lines) = line ∷ ended (next ∷ lines)

abbrev pub lines_of : List ℕ → List (List ℕ)
lines_of input = ended (pieces 10 input)
