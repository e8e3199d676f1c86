-- Whether keywords accept, by the answers to their questions.
use Rattle.std.proofs.Common.{◌≡◌, ◌&&◌, ◌++◌, suc, List, [], ◌∷◌, Bool, true, false, map, refl, ap, ◌∙◌}
use Rattle.json_values.specs.Parts.{Part}
use Rattle.schema_meaning.specs.Members.{is_empty, all_true}
use Rattle.schema_meaning.specs.Places.{Key, stay}
use Rattle.schema_meaning.specs.Questions.{Question, at, asked_at}
use Rattle.schema_meaning.specs.Rules.{Rule, Note, every, asks, accepts}
use Rattle.schema_meaning.specs.Keywords.{Shape, Assertion, asserts, never, reference, Reference, reference_name, rule, wrong}
use Rattle.schema_meaning.specs.Readings.{verdicts}
use Rattle.schema_meaning.specs.Circular.{key_at}
use Rattle.schema_meaning.specs.Cut.{cut_one, cut_unless, cut_by_kind, cut_within, is_in_progress}
use Rattle.schema_definitions.specs.Sites.{Site}
use Rattle.schema_definitions.specs.Plain.{keywords_at}
use Rattle.plain_reader.specs.Settings.{Setting, reading_in, accepts_in, answer_in, all_yes, all_accept}

-- ---- answers

pub and-true : (b : Bool) → (b && true) ≡ b
and-true true = refl
and-true false = refl

and-and : (a b c : Bool) → (a && (b && c)) ≡ ((a && b) && c)
and-and true b c = refl
and-and false b c = refl

all_true-append : (xs ys : List Bool) → all_true (xs ++ ys) ≡ (all_true xs && all_true ys)
all_true-append [] ys = refl
all_true-append (x ∷ xs) ys = ap (λ b. x && b) (all_true-append xs ys) ∙ and-and x (all_true xs) (all_true ys)

map-append : {A B : Type 0} (f : A → B) (xs ys : List A) → map f (xs ++ ys) ≡ map f xs ++ map f ys
map-append f [] ys = refl
map-append f (x ∷ xs) ys = ap (λ zs. f x ∷ zs) (map-append f xs ys)

-- ---- keywords

pub all_accept-none : (x : Setting) → all_accept x [] ≡ true
unfolding all_accept
all_accept-none x = refl

pub all_accept-append : (x : Setting) (ks hs : List (Shape Site)) → all_accept x (ks ++ hs) ≡ (all_accept x ks && all_accept x hs)
unfolding all_accept
all_accept-append x ks hs =
    let one : Rule Site → Bool = cut_one verdicts x.spot x.site.schema_path (answer_in x) in
    let ruled : Shape Site → Rule Site = rule x.matches x.spot.value in
    ap (λ rs. all_true (map one rs)) (map-append ruled ks hs) ∙ ap all_true (map-append one (map ruled ks) (map ruled hs)) ∙ all_true-append (map one (map ruled ks)) (map one (map ruled hs))

-- a keyword, by the answers to its questions
pub all_accept-one : (x : Setting) (shape : Shape Site)
    → all_accept x (shape ∷ []) ≡ accepts (rule x.matches x.spot.value shape) (map (answer_in x) (asks (rule x.matches x.spot.value shape)))
unfolding all_accept
all_accept-one x shape = and-true _

pub all_accept-asserts : (x : Setting) (a : Assertion) → all_accept x (asserts a ∷ []) ≡ is_empty (wrong x.matches a x.spot.value)
all_accept-asserts x a = all_accept-one x (asserts a) ∙ and-true _

pub all_accept-never : (x : Setting) → all_accept x (never ∷ []) ≡ false
all_accept-never x = all_accept-one x never

-- a keyword that notes something of the value, or nothing, and all whose answers have to be yes
pub all_accept-every : (x : Setting) (shape : Shape Site) (p : List Part) (notes : List Note) → rule x.matches x.spot.value shape ≡ every p notes (asks (rule x.matches x.spot.value shape))
    → all_accept x (shape ∷ []) ≡ (is_empty notes && all_yes x (asks (rule x.matches x.spot.value shape)))
unfolding all_accept all_yes
all_accept-every x shape p notes e = ap (λ r. all_true (cut_one verdicts x.spot x.site.schema_path (answer_in x) r ∷ [])) e ∙ and-true _

-- ---- questions

pub all_yes-none : (x : Setting) → all_yes x [] ≡ true
unfolding all_yes
all_yes-none x = refl

pub all_yes-more : (x : Setting) (q : Question Site) (qs : List (Question Site)) → all_yes x (q ∷ qs) ≡ (answer_in x q && all_yes x qs)
unfolding all_yes
all_yes-more x q qs = refl

pub all_yes-one : (x : Setting) (q : Question Site) → all_yes x (q ∷ []) ≡ answer_in x q
unfolding all_yes
all_yes-one x q = and-true _

-- where a question leads
abbrev pub led_to : Setting → Question Site → List Key → Setting
led_to x q keys = record { documents = x.documents; makes = x.makes; matches = x.matches; depth = x.depth; keys = keys; site = q.site; spot = asked_at x.spot q }

pub answer_inside : (x : Setting) (q : Question Site) → q.follows ≡ false → answer_in x q ≡ accepts_in (led_to x q x.keys)
unfolding answer_in
answer_inside x q inside = ap (λ b. cut_by_kind b verdicts (reading_in x) (cut_within verdicts (reading_in x) x.depth) x.keys x.spot q) inside

abbrev pub key_of : Setting → Question Site → Key
key_of x q = key_at (reading_in x) x.spot q

answer_followed : (x : Setting) (q : Question Site) (b : Bool) → q.follows ≡ true → is_in_progress (key_of x q) x.keys ≡ b
    → answer_in x q ≡ cut_unless b true (accepts_in (led_to x q (key_of x q ∷ x.keys)))
unfolding answer_in
answer_followed x q b follows back =
    ap (λ f. cut_by_kind f verdicts (reading_in x) (cut_within verdicts (reading_in x) x.depth) x.keys x.spot q) follows
    ∙ ap (λ p. cut_unless p true (accepts_in (led_to x q (key_of x q ∷ x.keys)))) back

pub answer_on : (x : Setting) (q : Question Site) → q.follows ≡ true → is_in_progress (key_of x q) x.keys ≡ false → answer_in x q ≡ accepts_in (led_to x q (key_of x q ∷ x.keys))
answer_on x q follows new = answer_followed x q false follows new

pub all_accept-reference : (x : Setting) (r : Reference) (t : Site)
    → all_accept x (reference r t ∷ []) ≡ all_yes x (record { site = t; step = stay; added = at (reference_name r); follows = true } ∷ [])
unfolding all_yes
all_accept-reference x r t = all_accept-one x (reference r t)

-- ---- a site

-- one level deeper
abbrev pub deeper : Setting → Setting
deeper x = record { documents = x.documents; makes = x.makes; matches = x.matches; depth = suc x.depth; keys = x.keys; site = x.site; spot = x.spot }

pub accepts_deeper : (x : Setting) → accepts_in (deeper x) ≡ all_accept x (keywords_at x.documents x.makes x.site)
unfolding all_accept answer_in cut_within
accepts_deeper x = refl
