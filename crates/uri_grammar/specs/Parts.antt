-- The five components of a URI reference (RFC 3986, section 3), how any text is cut into them (appendix B), and how they are written (section 5.3).
use Rattle.std.specs.Prelude.{ℕ, List, [], ◌∷◌, ◌++◌, ◌==◌, ◌&&◌, ◌||◌, if◌then◌else◌, Option, Some, None, codes}
use Rattle.uri_grammar.specs.Texts.{cut_at, is_empty, has}
pub use Rattle.uri_grammar.specs.Texts.{behind}

pub record Parts : Type 0 where
  pub scheme : Option (List ℕ)
  pub authority : Option (List ℕ)
  pub path : List ℕ
  pub query : Option (List ℕ)
  pub fragment : Option (List ℕ)

-- the scheme, where a colon stands before the first slash and not at the front, and the rest
abbrev pub scheme_of : List ℕ × Option (List ℕ) → List ℕ → Option (List ℕ) × List ℕ
scheme_of (before, None) text = (None, text)
scheme_of (before, Some rest) text = if is_empty before || has 47 before then (None, text) else (Some before, rest)

-- what stands after two slashes
abbrev pub after_slashes : List ℕ → Option (List ℕ)
after_slashes [] = None
after_slashes (x ∷ []) = None
after_slashes (x ∷ y ∷ rest) = if x == 47 && y == 47 then Some rest else None

-- the first slash and what stands behind it
abbrev pub from_slash : List ℕ × Option (List ℕ) → List ℕ
from_slash (before, None) = []
from_slash (before, Some rest) = 47 ∷ rest

abbrev pub authority_in : List ℕ → Option (List ℕ) → Option (List ℕ) × List ℕ
authority_in text None = (None, text)
authority_in text (Some rest) = (Some (cut_at 47 rest).0, from_slash (cut_at 47 rest))

-- the authority, up to the next slash after two, and the path
abbrev pub authority_of : List ℕ → Option (List ℕ) × List ℕ
authority_of text = authority_in text (after_slashes text)

-- appendix B: any text has components
unfoldable pub split : List ℕ → Parts
split text =
    let f = cut_at 35 text in
    let q = cut_at 63 f.0 in
    let s = scheme_of (cut_at 58 q.0) q.0 in
    let a = authority_of s.1 in
    record { scheme = s.0; authority = a.0; path = a.1; query = q.1; fragment = f.1 }

-- section 5.3
abbrev pub before : Option (List ℕ) → List ℕ → List ℕ
before None mark = []
before (Some text) mark = text ++ mark

abbrev pub recompose : Parts → List ℕ
recompose p = before p.scheme (codes ":") ++ behind (codes "//") p.authority ++ p.path ++ behind (codes "?") p.query ++ behind (codes "#") p.fragment
