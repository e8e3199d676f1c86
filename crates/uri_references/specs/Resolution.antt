-- Reference resolution (RFC 3986, section 5.2).
use Rattle.std.specs.Prelude.{ℕ, List, [], ◌++◌, Bool, not, ◌&&◌, if◌then◌else◌, Option, Some, None, codes}
use Rattle.uri_grammar.specs.Texts.{has, is_empty, is_none}
use Rattle.uri_grammar.specs.Parts.{Parts, split, recompose}
use Rattle.uri_grammar.specs.Grammar.{begins_slashed, begins_doubly}
use Rattle.uri_references.specs.Dots.{remove_dots, up}

-- section 5.2.3: a path up to its last slash, with it
abbrev pub directory : List ℕ → List ℕ
directory path = if has 47 path then up path ++ codes "/" else []

abbrev pub is_bare : Parts → Bool
is_bare base = not (is_none base.authority) && is_empty base.path

abbrev pub merge : Parts → List ℕ → List ℕ
merge base path = if is_bare base then codes "/" ++ path else directory base.path ++ path

-- section 5.2.2: the target of a reference r
abbrev pub or_else : {X : Type 0} → Option X → Option X → Option X
or_else None o = o
or_else (Some x) o = Some x

abbrev pub target_path : Parts → Parts → List ℕ
target_path base r =
    if is_empty r.path then base.path
    else (if begins_slashed r.path then remove_dots r.path else remove_dots (merge base r.path))

abbrev pub target_query : Parts → Parts → Option (List ℕ)
target_query base r = if is_empty r.path then or_else r.query base.query else r.query

abbrev pub target : Parts → Parts → Parts
target base r =
    if not (is_none r.scheme) then record { scheme = r.scheme; authority = r.authority; path = remove_dots r.path; query = r.query; fragment = r.fragment }
    else (if not (is_none r.authority) then record { scheme = base.scheme; authority = r.authority; path = remove_dots r.path; query = r.query; fragment = r.fragment }
    else record { scheme = base.scheme; authority = base.authority; path = target_path base r; query = target_query base r; fragment = r.fragment })

-- without an authority no path begins with two slashes (section 3.3): `/.` stands before one that would
abbrev pub guarded_path : Option (List ℕ) → List ℕ → List ℕ
guarded_path None path = if begins_doubly path then codes "/." ++ path else path
guarded_path (Some authority) path = path

abbrev pub guarded : Parts → Parts
guarded p = record p { path = guarded_path p.authority p.path }

unfoldable pub resolve : Parts → Parts → Parts
resolve base r = guarded (target base r)

-- a reference against a base, as texts
abbrev pub resolved_text : List ℕ → List ℕ → List ℕ
resolved_text base reference = recompose (resolve (split base) (split reference))
