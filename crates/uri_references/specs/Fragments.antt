-- The fragment of a URI reference is what stands behind its first `#` (RFC 3986, section 3.5).
use Rattle.std.specs.Prelude.{ℕ, List, ◌++◌, Option, codes}
use Rattle.uri_references.specs.Passed.{cut_at}
use Rattle.uri_references.specs.Passed.{behind}

abbrev pub fragment_of : List ℕ → Option (List ℕ)
fragment_of text = (cut_at 35 text).1

abbrev pub without_fragment : List ℕ → List ℕ
without_fragment text = (cut_at 35 text).0

abbrev pub with_fragment : List ℕ → Option (List ℕ) → List ℕ
with_fragment text fragment = without_fragment text ++ behind (codes "#") fragment
