-- JSON Pointers (RFC 6901).
use Rattle.std.specs.Prelude.{ℕ, ◌+◌, ◌-◌, ◌*◌, ◌^◌, nat_lt, List, [], ◌∷◌, ◌++◌, length, ◌==◌, ◌&&◌, Bool, false, if◌then◌else◌, Option, Some, None, option_and_then, Result, Ok, Err, codes, decimal, ⊤, ◌<◌}
use Rattle.std.specs.Char.{is_ascii_digit}
use Rattle.std.specs.List.{flat_map, slice_split, list_all}
use Rattle.serde_json.specs.Data.{Data, null, boolean, number, string, array, object, Items}
use Rattle.serde_json.specs.Find.{get, at, get_item, get_member, unescape}
use Rattle.json_values.specs.Parts.{Part, name, index}

-- ---- escaping (sections 3 and 4); `unescape` is its undoing

-- `~` is written `~0`, and `/` is written `~1`
abbrev pub escaped_byte : ℕ → List ℕ
escaped_byte b = if b == 126 then codes "~0" else (if b == 47 then codes "~1" else b ∷ [])

unfoldable pub escape : List ℕ → List ℕ
escape text = flat_map escaped_byte text

-- the same of `/` alone
unfoldable pub escape_slashes : List ℕ → List ℕ
escape_slashes text = flat_map (λ b. if b == 47 then codes "~1" else b ∷ []) text

-- the text with each `~` and digit, from the left, replaced by one byte
unfoldable pub replace_escape : ℕ → ℕ → List ℕ → List ℕ
replace_escape digit byte [] = []
replace_escape digit byte (x ∷ []) = x ∷ []
replace_escape digit byte (x ∷ y ∷ rest) =
    if x == 126 && y == digit
    then byte ∷ replace_escape digit byte rest
    else x ∷ replace_escape digit byte (y ∷ rest)

-- section 4: first each `~1` becomes `/`, and then each `~0` becomes `~`
abbrev pub unescape_in_turn : List ℕ → List ℕ
unescape_in_turn text = replace_escape 48 126 (replace_escape 49 47 text)

-- ---- the text of a path (section 3): each part behind a `/`, an index in decimal

abbrev pub part_text : Part → List ℕ
part_text (name text) = escape text
part_text (index n) = decimal n

abbrev pub pointer_text : List Part → List ℕ
pointer_text [] = []
pointer_text (part ∷ path) = 47 ∷ (part_text part ++ pointer_text path)

-- the value at a path
abbrev pub value_in : Part → Data → Option Data
value_in (name text) d = get text d
value_in (index n) d = at n d

abbrev pub value_at : List Part → Data → Option Data
value_at [] d = Some d
value_at (part ∷ path) d = option_and_then (value_at path) (value_in part d)

-- an index in memory
abbrev pub PartFits : Part → Type 0
PartFits (name text) = ⊤
PartFits (index n) = n < 2 ^ 64

abbrev pub PathFits : List Part → Type 0
PathFits [] = ⊤
PathFits (part ∷ path) = PartFits part × PathFits path

-- ---- array indexes (section 4): `0`, or digits of which the first is not `0`

abbrev pub is_index : List ℕ → Bool
is_index [] = false
is_index (digit ∷ rest) =
    if digit == 48
    then length rest == 0
    else list_all is_ascii_digit (digit ∷ rest)

-- the number that decimal digits stand for, behind n
abbrev pub number_from : ℕ → List ℕ → ℕ
number_from n [] = n
number_from n (digit ∷ rest) = number_from (10 * n + (digit - 48)) rest

abbrev pub index_of : List ℕ → Option ℕ
index_of text = if is_index text then Some (number_from 0 text) else None

-- the index, where it is below the limit
abbrev pub index_below : ℕ → List ℕ → Option ℕ
index_below limit text = option_and_then (λ n. if nat_lt n limit then Some n else None) (index_of text)

-- ---- evaluation (sections 4 and 7)

-- why a pointer leads to no value
pub data Stop : Type 0 where
  -- a text that is not empty and begins with no `/`
  not_a_pointer : Stop
  -- a member or an item that is not there, or a part below a scalar
  nowhere : Stop
  -- a part, as it is written, that is no index, where an array stands
  not_an_index : List ℕ → Stop

abbrev pub found : Option Data → Result Data Stop
found None = Err nowhere
found (Some d) = Ok d

abbrev pub item_at : List ℕ → Option ℕ → Items → Result Data Stop
item_at token None ds = Err (not_an_index token)
item_at token (Some n) ds = found (get_item n ds)

-- the value that a part, as it is written, leads to from another
abbrev pub step_from : Data → List ℕ → Result Data Stop
step_from null token = Err nowhere
step_from (boolean b) token = Err nowhere
step_from (number n) token = Err nowhere
step_from (string s) token = Err nowhere
step_from (array ds) token = item_at token (index_of token) ds
step_from (object ms) token = found (get_member (unescape token) ms)

abbrev pub and_then : (Data → Result Data Stop) → Result Data Stop → Result Data Stop
and_then f (Ok d) = f d
and_then f (Err stop) = Err stop

unfoldable pub follow : List (List ℕ) → Data → Result Data Stop
follow [] d = Ok d
follow (token ∷ tokens) d = and_then (follow tokens) (step_from d token)

-- the value that a pointer's text leads to
abbrev pub locate : List ℕ → Data → Result Data Stop
locate [] d = Ok d
locate (b ∷ text) d = if b == 47 then follow (slice_split (λ c. c == 47) text) d else Err not_a_pointer
