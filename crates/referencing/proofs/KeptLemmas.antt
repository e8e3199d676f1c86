-- What an index keeps of a schema place leads to it again.
use Rattle.std.proofs.Common.{◌≡◌, ◌∙◌, refl, sym, ap, subst, ℕ, zero, suc, List, [], ◌∷◌, Bool, true, false, ◌&&◌, Option, Some, None, map, reverse, option_map, is_some, length, ◌<◌, Result, Ok, Err, IfOk, slice_get, slice_index_or, IsSomeAnd, Contains, arith}
use Rattle.std.specs.List.{list_all}
use Rattle.serde_json.specs.Data.{Data}
use Rattle.json_values.specs.Pointers.{value_at}
use Rattle.schema_definitions.specs.Places.{Dialect, SchemaPlace, places}
use Rattle.schema_definitions.specs.Bearers.{Document, document_name, Standing, standing_in}
use Rattle.document_index.specs.Located.{Kept}
use Rattle.document_index.specs.Answers.{IsAnswer}
use Rattle.document_laws.specs.PlaceLaws.{Leads}
use Rattle.document_laws.proofs.Leading.{places_lead}
use Rattle.referencing.specs.Kept.{kept_at, kept_standing}
use Rattle.referencing.specs.Stands.{contents_rise}

both-first : (a b : Bool) → (a && b) ≡ true → a ≡ true
both-first true b e = refl
both-first false b e = e

both-second : (a b : Bool) → (a && b) ≡ true → b ≡ true
both-second true b e = e
both-second false b e = absurd (cc (e))

-- each document has what all have
rises-at : (documents : List Document) (i : ℕ) (d : Document) → list_all contents_rise documents ≡ true → slice_get documents i ≡ Some d → contents_rise d ≡ true
rises-at [] i d all at = absurd (cc (at))
rises-at (e ∷ ds) zero d all at = let same : e ≡ d = cc in subst (λ x. contents_rise x ≡ true) same (both-first (contents_rise e) (list_all contents_rise ds) all)
rises-at (e ∷ ds) (suc i) d all at = rises-at ds i d (both-second (contents_rise e) (list_all contents_rise ds) all) at

-- what all have, one that is there has
held : {X Y : Type 0} (f : X → Y) (Q : Y → Type 0) (xs : List X) (k : ℕ) (y : Y) → k < length (map f xs) → slice_index_or (map f xs) k y ≡ y → ((i : ℕ) (x : X) → i < length xs → Q (f (slice_index_or xs i x))) → Q y
held f Q [] k y lt e a = absurd (omega (arith, lt))
held f Q (x ∷ xs) zero y lt e a = subst Q e (a 0 x (omega arith))
held f Q (x ∷ xs) (suc k) y lt e a = held f Q xs k y (omega (arith, lt)) e (λ i z l. a (suc i) z (omega (arith, l)))

abbrev Lies : Document → Standing → Type 0
Lies d s = (s.document ≡ document_name d) × Leads d.contents s.place

lies : (meta : List ℕ → Option Dialect) (d : Document) (s : Standing) → contents_rise d ≡ true → Contains (standing_in meta d) s → Lies d s
lies meta d s rises there =
    held (λ (p : SchemaPlace). record { document = document_name d; place = p }) (Lies d) (places meta d.uri d.default d.contents) there.0 s there.1 there.2
    (λ i p lt. (refl, places_lead d.contents rises meta d.uri d.default i p lt))

-- the place, put together again
again : (d : Document) (kept : Kept) (s : Standing) → kept.path ≡ s.place.path → kept.base ≡ s.place.base → kept.dialect ≡ s.place.dialect → s.place.awaits ≡ None → s.document ≡ document_name d
    → kept_at d kept s.place.contents ≡ s
again d kept s path base dialect awaits name = rw (path, base, dialect, sym awaits, sym name) refl

pub kept-same : (meta : List ℕ → Option Dialect) (documents : List Document) (kept : Kept) (o : Option Standing) (d : Document) → IsAnswer meta documents (Some kept) o → slice_get documents kept.document ≡ Some d
    → list_all contents_rise documents ≡ true → kept_standing d kept ≡ o
kept-same meta documents kept None d answer at all = absurd answer
kept-same meta documents kept (Some s) d answer at all =
    let there = subst (λ x. IsSomeAnd x (λ e. Contains (standing_in meta e) s)) at answer.stands in
    let found = lies meta d s (rises-at documents kept.document d all at) there in
    ap (λ p. option_map (kept_at d kept) (value_at (reverse p) d.contents)) answer.path
    ∙ ap (option_map (kept_at d kept)) found.1
    ∙ ap Some (again d kept s answer.path answer.base answer.dialect answer.awaits found.0)

-- where there is no answer, there is no place
pub none-answered : (meta : List ℕ → Option Dialect) (documents : List Document) (o : Option Standing) → IsAnswer meta documents None o → o ≡ None
none-answered meta documents None answer = refl
none-answered meta documents (Some s) answer = absurd answer

pub some-answered : (meta : List ℕ → Option Dialect) (documents : List Document) (kept : Option Kept) (o : Option Standing) → IsAnswer meta documents kept o → is_some kept ≡ is_some o
some-answered meta documents None None answer = refl
some-answered meta documents None (Some s) answer = absurd answer
some-answered meta documents (Some k) None answer = absurd answer
some-answered meta documents (Some k) (Some s) answer = refl

-- what a place holds that was put together again
pub contents-again : (d : Document) (kept : Kept) (o : Option Data) → option_map (λ (s : Standing). s.place.contents) (option_map (kept_at d kept) o) ≡ o
contents-again d kept None = refl
contents-again d kept (Some e) = refl

pub got-mapped : {X Y : Type 0} (f : X → Y) (xs : List X) (i : ℕ) (x : X) → slice_get xs i ≡ Some x → slice_get (map f xs) i ≡ Some (f x)
got-mapped f [] i x e = absurd (cc (e))
got-mapped f (y ∷ ys) zero x e = ap (option_map f) e
got-mapped f (y ∷ ys) (suc i) x e = got-mapped f ys i x e

pub if-ok : {X E : Type 0} (P Q : X → Type 0) (r : Result X E) → ((x : X) → P x → Q x) → IfOk r P → IfOk r Q
if-ok P Q (Ok x) h p = h x p
if-ok P Q (Err e) h p = p
