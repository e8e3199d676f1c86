-- `pattern` (Validation 6.3.3): searched, not anchored. Four literal forms have a meaning of their own; the others are read from given matches.
use Rattle.std.specs.Prelude.{List, [], ◌∷◌, ◌++◌, codes}
use Rattle.serde_json.specs.Data.{string}
use Rattle.schema_meaning.specs.Faults.{MaxLength, Pattern}
use Rattle.schema_meaning.specs.Keywords.{asserts, max_length, pattern, any_of, negation}
use Rattle.worked_examples.specs.Forms.{natural, text, object_of, root, below, wrong_at, Example, over, matching, accepted, refused}

abbrev pub matches_examples : List Example
matches_examples =
    -- {"pattern":"^x-"}
    record {
      schema = over (root (asserts (pattern (codes "^x-")) ∷ []) ∷ []);
      cases = accepted (text "x-id")
          ∷ refused (text "ax-") (wrong_at (Pattern (codes "^x-")) (text "ax-") "" "/pattern" ∷ [])
          ∷ accepted (natural 1) ∷ [];
    }
    -- {"pattern":"^\\$ref$"}
    ∷ record {
      schema = over (root (asserts (pattern (codes "^" ++ (92 ∷ []) ++ codes "$ref$")) ∷ []) ∷ []);
      cases = accepted (text "$ref")
          ∷ refused (text "$refs") (wrong_at (Pattern (codes "^" ++ (92 ∷ []) ++ codes "$ref$")) (text "$refs") "" "/pattern" ∷ []) ∷ [];
    }
    -- {"pattern":"^(a|b)$"}
    ∷ record {
      schema = over (root (asserts (pattern (codes "^(a|b)$")) ∷ []) ∷ []);
      cases = accepted (text "b")
          ∷ refused (text "ab") (wrong_at (Pattern (codes "^(a|b)$")) (text "ab") "" "/pattern" ∷ []) ∷ [];
    }
    -- U+0085 is no white space of ECMA-262, U+FEFF is (12.2)
    -- {"pattern":"^\\S*$"}
    ∷ record {
      schema = over (root (asserts (pattern (codes "^" ++ (92 ∷ []) ++ codes "S*$")) ∷ []) ∷ []);
      cases =
          -- "a\u0085b"
          accepted (string (codes "a" ++ (0xc2 ∷ 0x85 ∷ []) ++ codes "b"))
          -- "a\ufeffb"
          ∷ refused (string (codes "a" ++ (0xef ∷ 0xbb ∷ 0xbf ∷ []) ++ codes "b")) (wrong_at (Pattern (codes "^" ++ (92 ∷ []) ++ codes "S*$")) (string (codes "a" ++ (0xef ∷ 0xbb ∷ 0xbf ∷ []) ++ codes "b")) "" "/pattern" ∷ []) ∷ [];
    }
    -- spam$ matches "spam", as it is given
    -- {"pattern":"spam$"}
    ∷ record {
      schema = matching ((codes "spam$", codes "spam") ∷ []) (root (asserts (pattern (codes "spam$")) ∷ []) ∷ []);
      cases = accepted (text "spam")
          ∷ refused (text "egg") (wrong_at (Pattern (codes "spam$")) (text "egg") "" "/pattern" ∷ []) ∷ [];
    }
    -- a literal form is not read from what is given
    -- {"pattern":"^x-"}
    ∷ record {
      schema = matching ((codes "^x-", codes "ax-") ∷ []) (root (asserts (pattern (codes "^x-")) ∷ []) ∷ []);
      cases = refused (text "ax-") (wrong_at (Pattern (codes "^x-")) (text "ax-") "" "/pattern" ∷ []) ∷ [];
    }
    -- accepted whichever way the match is read: here as no
    -- {"anyOf":[{"pattern":"(?<=ab)c"},{"not":{"pattern":"(?<=ab)c"}}]}
    ∷ record {
      schema = over (root (any_of (1 ∷ 2 ∷ []) ∷ [])
          ∷ below "/anyOf/0" (asserts (pattern (codes "(?<=ab)c")) ∷ [])
          ∷ below "/anyOf/1" (negation (object_of (("pattern", text "(?<=ab)c") ∷ [])) 3 ∷ [])
          ∷ below "/anyOf/1/not" (asserts (pattern (codes "(?<=ab)c")) ∷ []) ∷ []);
      cases = accepted (text "abc") ∷ [];
    }
    -- and here as yes
    -- {"anyOf":[{"pattern":"(?<=ab)c"},{"not":{"pattern":"(?<=ab)c"}}]}
    ∷ record {
      schema = matching ((codes "(?<=ab)c", codes "abc") ∷ []) (root (any_of (1 ∷ 2 ∷ []) ∷ [])
          ∷ below "/anyOf/0" (asserts (pattern (codes "(?<=ab)c")) ∷ [])
          ∷ below "/anyOf/1" (negation (object_of (("pattern", text "(?<=ab)c") ∷ [])) 3 ∷ [])
          ∷ below "/anyOf/1/not" (asserts (pattern (codes "(?<=ab)c")) ∷ []) ∷ []);
      cases = accepted (text "abc") ∷ [];
    }
    -- refused either way, and one fault is shared: here with no
    -- {"maxLength":1,"pattern":"(?<=ab)c"}
    ∷ record {
      schema = over (root (asserts (max_length 1) ∷ asserts (pattern (codes "(?<=ab)c")) ∷ []) ∷ []);
      cases = refused (text "abc") (wrong_at (MaxLength 1) (text "abc") "" "/maxLength"
          ∷ wrong_at (Pattern (codes "(?<=ab)c")) (text "abc") "" "/pattern" ∷ []) ∷ [];
    }
    -- and here with yes
    -- {"maxLength":1,"pattern":"(?<=ab)c"}
    ∷ record {
      schema = matching ((codes "(?<=ab)c", codes "abc") ∷ []) (root (asserts (max_length 1) ∷ asserts (pattern (codes "(?<=ab)c")) ∷ []) ∷ []);
      cases = refused (text "abc") (wrong_at (MaxLength 1) (text "abc") "" "/maxLength" ∷ []) ∷ [];
    }
    ∷ []
