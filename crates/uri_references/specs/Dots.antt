-- Removal of dot segments (RFC 3986, section 5.2.4).
use Rattle.std.specs.Prelude.{ℕ, List, [], ◌∷◌, ◌++◌, ◌==◌, Bool, ◌||◌, if◌then◌else◌, codes}
use Rattle.std.specs.List.{before_last}
use Rattle.std.specs.Str.{bytes_eq}
use Rattle.uri_grammar.specs.Texts.{is_empty, pieces}

abbrev pub is_dot : List ℕ → Bool
is_dot s = bytes_eq s (codes ".")

abbrev pub is_dots : List ℕ → Bool
is_dots s = bytes_eq s (codes "..")

abbrev pub is_dot_segment : List ℕ → Bool
is_dot_segment s = is_dot s || is_dots s

-- what stands before the last slash, nothing where there is none
abbrev pub up : List ℕ → List ℕ
up = before_last (λ b. b == 47)

-- the output after one more segment, which stands behind a slash: `.` leaves the output, `..` takes its last segment away, and at the end of the path both leave a slash
abbrev pub after_segment : List ℕ → List ℕ → Bool → List ℕ
after_segment out s last =
    if is_dot s then (if last then out ++ codes "/" else out)
    else (if is_dots s then (if last then up out ++ codes "/" else up out) else out ++ 47 ∷ s)

abbrev pub after_segments : List ℕ → List (List ℕ) → List ℕ
after_segments out [] = out
after_segments out (s ∷ rest) = after_segments (after_segment out s (is_empty rest)) rest

-- dot segments in front of a path that begins with no slash go; the first other segment is the first output
abbrev pub without_dots : List (List ℕ) → List ℕ
without_dots [] = []
without_dots (s ∷ rest) = if is_dot_segment s then without_dots rest else after_segments s rest

unfoldable pub remove_dots : List ℕ → List ℕ
remove_dots path = without_dots (pieces 47 path)
