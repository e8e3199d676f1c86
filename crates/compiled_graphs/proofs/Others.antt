-- What is found where a schema is read as a whole: an object, a boolean, or neither.
use Rattle.std.proofs.Common.{◌≡◌, ◌∙◌, ◌+◌, ℕ, List, [], ◌∷◌, ◌++◌, Bool, true, false, Option, Some, None, IfSome, map, inl, inr, codes, refl, sym, ap, subst, arith, length, append-nil}
use Rattle.serde_json.specs.Data.{Data, null, boolean, number, string, array, object, Members}
use Rattle.serde_json.specs.Find.{as_bool}
use Rattle.schema_meaning.specs.Members.{In, first}
use Rattle.schema_meaning.specs.Keywords.{never}
use Rattle.schema_definitions.specs.Bearers.{Document}
use Rattle.schema_definitions.specs.Rows.{BuildCause, Row, identifier_causes, keyword_value, reads, rows_at, rows_in, rows_of}
use Rattle.schema_definitions.specs.Rows as rows
use Rattle.schema_definitions.specs.Sites.{Site}
use Rattle.schema_definitions.specs.Words.{or_else}
use Rattle.schema_sites.specs.declared.keyword.Keyword as code
use Rattle.schema_sites.specs.Seen.{documents_at}
use Rattle.reading_laws.proofs.Alike.{itself}
use Rattle.reached_sites.specs.Causes.{NamesCause, RefusesIdentifier}
use Rattle.reached_sites.specs.Led.{causes_in}
use Rattle.reached_sites.specs.Members.{context_in}
use Rattle.reached_sites.specs.Visits.{site_of, Met}
use Rattle.reached_sites.specs.declared.cause.BuildCause as refused
use Rattle.reached_sites.specs.declared.cause.BuildCause.TheVariants.{Memory}
use Rattle.reached_sites.specs.declared.visit.Visit.{Visit}
use Rattle.reached_sites.proofs.Leading.{IsOther, other-rows}
use Rattle.reached_sites.proofs.Listing.{in-before, in-behind}
use Rattle.reached_sites.proofs.Meeting.{present-of}
use Rattle.reached_sites.proofs.Walking.{contexts, rows-of-object}
use Rattle.compiled_graphs.specs.Filled.{total}
use Rattle.compiled_graphs.specs.Read.{none, refuses, wrong, TellsOne, TellsOfFirst, IsMisnamed, RowsRead, IsFound}
use Rattle.compiled_graphs.proofs.Found.{of-here}
use Rattle.compiled_graphs.specs.declared.asking.Asking.{Asking}
use Rattle.compiled_graphs.specs.declared.asking.Asking.TheVariants as asking
use Rattle.compiled_graphs.specs.declared.reading.Found.{Found}
use Rattle.compiled_graphs.proofs.Compiling.{total-append}

pub as-boolean : (d : Data) (b : Bool) → as_bool d ≡ Some b → d ≡ boolean b
as-boolean null b e = absurd (cc (e))
as-boolean (boolean x) b e = (let same : x ≡ b = cc in ap boolean same)
as-boolean (number n) b e = absurd (cc (e))
as-boolean (string t) b e = absurd (cc (e))
as-boolean (array ds) b e = absurd (cc (e))
as-boolean (object ms) b e = absurd (cc (e))

-- ---- counts

pub counted-never : (xs : List Asking) (vs : List Visit) → total xs ≡ length vs → total (xs ++ asking.Never ∷ []) ≡ length vs
counted-never xs vs h =
    let all = total-append xs (asking.Never ∷ []) in
    let one : total (asking.Never ∷ []) ≡ 0 = refl in
    omega (arith, all, one, h)

pub counted-more : (xs : List Asking) (k : code.Keyword) (n : ℕ) (old new : List Visit) → length new ≡ length old + n → total xs ≡ length old → total (xs ++ asking.Keyword k n ∷ []) ≡ length new
counted-more xs k n old new more h =
    let all = total-append xs (asking.Keyword k n ∷ []) in
    let one : total (asking.Keyword k n ∷ []) ≡ n + 0 = refl in
    omega (arith, all, one, more, h)

-- ---- identifiers

pub told_wrong : (s : Site) (e : refused.BuildCause) → RefusesIdentifier s e → (e ≡ Memory → ⊥) → (c : BuildCause) × NamesCause c e × In c (identifier_causes s)
told_wrong s e (inl m) h = absurd (h m)
told_wrong s e (inr x) h = x

pub met-itself : (v : Visit) → Met v (site_of v)
met-itself v = record { alike = itself (documents_at v.site) (site_of v) (present-of v) }

pub named-tells : (v : Visit) (o : Option refused.BuildCause) → (o ≡ None → (s : Site) → Met v s → identifier_causes s ≡ []) → IfSome o (IsMisnamed v) → TellsOne o (identifier_causes (site_of v))
named-tells v None right told = right refl (site_of v) (met-itself v)
named-tells v (Some e) right told = told (site_of v) (met-itself v)

pub first-of-both : (one other : Option refused.BuildCause) (xs ys : List BuildCause) → TellsOne one xs → TellsOne other ys → TellsOne (or_else one other) (xs ++ ys)
first-of-both None None xs ys a b = ap (λ l. l ++ ys) a ∙ b
first-of-both None (Some e) xs ys a b = (b.0, b.1, in-behind xs ys b.2)
first-of-both (Some e) other xs ys a b = (a.0, a.1, in-before xs ys a.2)

first-apart : (one other : Option refused.BuildCause) (ids : List BuildCause) (lists : List (List BuildCause)) → TellsOne one ids → TellsOfFirst other lists → TellsOfFirst (or_else one other) (ids ∷ lists)
first-apart None None ids lists n f = tt
first-apart None (Some e) ids lists n f = subst (λ (l : List BuildCause). TellsOfFirst (Some e) (l ∷ lists)) (sym n) f
first-apart (Some e) other ids lists n f = (n.0, n.1, of-here n.0 ids lists n.2)

-- ---- rows

boolean-rows : (own : List Document) (makes : List ℕ → Bool) (s : Site) (b : Bool) → s.contents ≡ boolean b → rows_at own makes s ≡ rows_in s (contexts own makes s) (boolean b)
unfolding rows_at
boolean-rows own makes s b e = ap (rows_in s (contexts own makes s)) e

module _ (own : List Document) (makes : List ℕ → Bool) (s : Site) where
  pub true-read : (found : Found) → s.contents ≡ boolean true → RowsRead own s (rows_at own makes s) found found None
  true-read found e =
      subst (λ (rs : List Row). RowsRead own s rs found found None) (sym (boolean-rows own makes s true e))
      (record { askings = []; visits = []; asked = sym (append-nil found.askings.items); visited = sym (append-nil found.visits.items); reads = none; tells = refl; first = tt })

  pub false-read : (old new : Found) → s.contents ≡ boolean false → new.askings.items ≡ old.askings.items ++ asking.Never ∷ [] → new.visits.items ≡ old.visits.items → RowsRead own s (rows_at own makes s) old new None
  false-read old new e asked visited =
      subst (λ (rs : List Row). RowsRead own s rs old new None) (sym (boolean-rows own makes s false e))
      (record { askings = asking.Never ∷ []; visits = []; asked = asked; visited = visited ∙ sym (append-nil old.visits.items); reads = refuses (reads [] (never ∷ [])) refl none; tells = refl; first = tt })

  pub other-read : (found : Found) (e : refused.BuildCause) → IsOther s.contents → NamesCause (keyword_value (record { document = s.document; path = s.path }) (codes "schema")) e
      → RowsRead own s (rows_at own makes s) found found (Some e)
  other-read found e other names =
      let cause = keyword_value (record { document = s.document; path = s.path }) (codes "schema") in
      subst (λ (rs : List Row). RowsRead own s rs found found (Some e)) (sym (other-rows own makes s s.contents refl other))
      (record {
        askings = [];
        visits = [];
        asked = sym (append-nil found.askings.items);
        visited = sym (append-nil found.visits.items);
        reads = wrong (rows.refused (cause ∷ [])) cause first refl none;
        tells = (cause, names, first);
        first = (cause, names, first);
      })

  -- what is found where nothing was before
  pub all-found : (rs : List Row) (old new : Found) (named cause : Option refused.BuildCause) → TellsOne named (identifier_causes s) → rows_at own makes s ≡ rs → old.askings.items ≡ [] → old.visits.items ≡ []
      → RowsRead own s rs old new cause → IsFound own makes s new (or_else named cause)
  all-found rs old new named cause n e no_askings no_visits r =
      let asked : new.askings.items ≡ r.askings = r.asked ∙ ap (λ l. l ++ r.askings) no_askings in
      let visited : new.visits.items ≡ r.visits = r.visited ∙ ap (λ l. l ++ r.visits) no_visits in
      record {
        reads = rw (e, asked, visited) r.reads;
        tells = first-of-both named cause (identifier_causes s) (causes_in (rows_at own makes s)) n (subst (λ (l : List Row). TellsOne cause (causes_in l)) (sym e) r.tells);
        first = first-apart named cause (identifier_causes s) (map (λ r. r.causes) (rows_at own makes s)) n (subst (λ (l : List Row). TellsOfFirst cause (map (λ r. r.causes) l)) (sym e) r.first);
      }

  pub object-found : (ms : Members) (old new : Found) (named cause : Option refused.BuildCause) → TellsOne named (identifier_causes s) → s.contents ≡ object ms → old.askings.items ≡ [] → old.visits.items ≡ []
      → RowsRead own s (rows_of (context_in own makes s ms) ms) old new cause → IsFound own makes s new (or_else named cause)
  object-found ms old new named cause n e no_askings no_visits r = all-found (rows_of (context_in own makes s ms) ms) old new named cause n (rows-of-object own makes s ms e) no_askings no_visits r
