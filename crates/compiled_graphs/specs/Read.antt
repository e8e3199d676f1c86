-- What stands at a schema, as it is read: each row with its keyword and the visits of what that asks, or with a cause.
use Rattle.std.specs.Prelude.{◌≡◌, ℕ, List, [], ◌∷◌, ◌++◌, map, Bool, false, Option, Some, None, length}
use Rattle.serde_json.specs.Data.{Data, Members}
use Rattle.serde_json.specs.View.{view, members_view}
use Rattle.schema_meaning.specs.Members.{In}
use Rattle.schema_meaning.specs.Keywords.{never}
use Rattle.schema_drafts.specs.Counts.{counts}
use Rattle.schema_definitions.specs.Bearers.{Document}
use Rattle.schema_definitions.specs.BuildCauses.{causes_at}
use Rattle.schema_definitions.specs.Places.{Dialect}
use Rattle.schema_definitions.specs.Sites.{Site}
use Rattle.schema_definitions.specs.Rows.{BuildCause, Row, identifier_causes, bad_pattern, has_reference, reads, row_at, rows_of, rows_at}
use Rattle.applicators.specs.Made.{is_made_by}
use Rattle.referencing.specs.Resolved.{documents_in}
use Rattle.schema_patterns.specs.Makers.{Patterns}
use Rattle.schema_patterns.specs.declared.table.PatternTable.{PatternTable}
use Rattle.schema_sites.specs.Read.{row_of}
use Rattle.schema_sites.specs.declared.keyword.Keyword as code
use Rattle.reached_sites.specs.Causes.{NamesCause}
use Rattle.reached_sites.specs.Led.{causes_in}
use Rattle.reached_sites.specs.Members.{context_in}
use Rattle.reached_sites.specs.Patterns.{text_of, written_by, written_members, IsFilled, Holds}
use Rattle.reached_sites.specs.Places.{place_in}
use Rattle.reached_sites.specs.Visits.{Matches, Met, site_of}
use Rattle.reached_sites.specs.declared.cause.BuildCause as refused
use Rattle.reached_sites.specs.declared.pattern.Pattern.{Pattern}
use Rattle.reached_sites.specs.declared.visit.Visit.{Visit}
use Rattle.compiled_graphs.specs.Asked.{asked_by, IsAnswered}
use Rattle.compiled_graphs.specs.Filled.{total}
use Rattle.compiled_graphs.specs.Told.{causes_apart}
use Rattle.compiled_graphs.specs.declared.asking.Asking.{Asking}
use Rattle.compiled_graphs.specs.declared.asking.Asking.TheVariants.{Never, Keyword}
use Rattle.compiled_graphs.specs.declared.reading.Found.{Found}
use Rattle.compiled_graphs.specs.declared.reading.Member.{Member}
use Rattle.std.specs.Prelude.{if◌then◌else◌}

-- rows as they are read, with what was found of those that have no cause, in order
pub data ReadAs (own : List Document) (s : Site) : List Row → List Asking → List Visit → Type 0 where
  none : ReadAs own s [] [] []
  refuses : {rows : List Row} {ys : List Asking} {vs : List Visit} (row : Row) → row ≡ reads [] (never ∷ []) → ReadAs own s rows ys vs → ReadAs own s (row ∷ rows) (Never ∷ ys) vs
  asks : {rows : List Row} {ys : List Asking} {vs : List Visit} (row : Row) (k : code.Keyword) (n : ℕ) (mine : List Visit) → row ≡ row_of own s k → IsAnswered k → Matches own mine (asked_by own s k) → length mine ≡ n
      → ReadAs own s rows ys vs → ReadAs own s (row ∷ rows) (Keyword k n ∷ ys) (mine ++ vs)
  wrong : {rows : List Row} {ys : List Asking} {vs : List Visit} (row : Row) (cause : BuildCause) → In cause row.causes → row.leads ≡ [] → ReadAs own s rows ys vs → ReadAs own s (row ∷ rows) ys vs

-- as many visits as its keywords ask for
abbrev pub IsCounted : Found → Type 0
IsCounted found = total found.askings.items ≡ length found.visits.items

-- one of some causes is told, if there is any
abbrev pub TellsOne : Option refused.BuildCause → List BuildCause → Type 0
TellsOne None causes = causes ≡ []
TellsOne (Some e) causes = (c : BuildCause) × NamesCause c e × In c causes

-- a cause is one of the first of some lists that has any
abbrev pub IsOfFirst : BuildCause → List (List BuildCause) → Type 0
IsOfFirst c [] = ⊥
IsOfFirst c ([] ∷ lists) = IsOfFirst c lists
IsOfFirst c ((b ∷ bs) ∷ lists) = In c (b ∷ bs)

-- the cause that is told, if any is, is one of these
abbrev pub TellsOfFirst : Option refused.BuildCause → List (List BuildCause) → Type 0
TellsOfFirst None lists = Unit {0}
TellsOfFirst (Some e) lists = (c : BuildCause) × NamesCause c e × IsOfFirst c lists

-- what was found of one row was put behind others
pub record AddsRow (own : List Document) (s : Site) (row : Row) (old new : Found) : Type 0 where
  pub askings : List Asking
  pub visits : List Visit
  pub asked : new.askings.items ≡ old.askings.items ++ askings
  pub visited : new.visits.items ≡ old.visits.items ++ visits
  pub reads : (rows : List Row) (ys : List Asking) (vs : List Visit) → ReadAs own s rows ys vs → ReadAs own s (row ∷ rows) (askings ++ ys) (visits ++ vs)

pub record RowRead (own : List Document) (s : Site) (row : Row) (old new : Found) (cause : Option refused.BuildCause) : Type 0 where
  pub adds : AddsRow own s row old new
  pub tells : TellsOne cause row.causes

-- what was found of some rows was put behind others
pub record RowsRead (own : List Document) (s : Site) (rows : List Row) (old new : Found) (cause : Option refused.BuildCause) : Type 0 where
  pub askings : List Asking
  pub visits : List Visit
  pub asked : new.askings.items ≡ old.askings.items ++ askings
  pub visited : new.visits.items ≡ old.visits.items ++ visits
  pub reads : ReadAs own s rows askings visits
  pub tells : TellsOne cause (causes_in rows)
  pub first : TellsOfFirst cause (map (λ r. r.causes) rows)

-- all that stands at a site was found
pub record IsFound (own : List Document) (makes : List ℕ → Bool) (s : Site) (found : Found) (cause : Option refused.BuildCause) : Type 0 where
  pub reads : ReadAs own s (rows_at own makes s) found.askings.items found.visits.items
  pub tells : TellsOne cause (causes_at own makes s)
  pub first : TellsOfFirst cause (causes_apart own makes s)

-- all rows of a visit whose schema is no object
abbrev pub OtherReads : (List ℕ → Bool) → Visit → Found → Found → Option refused.BuildCause → Type 0
OtherReads makes v old new cause = RowsRead (documents_in v.site.resolver) (site_of v) (rows_at (documents_in v.site.resolver) makes (site_of v)) old new cause

-- ---- of a visit, where a table is filled

-- what is wrong with the identifier of the sites for which a visit stands
abbrev pub IsMisnamed : Visit → refused.BuildCause → Type 0
IsMisnamed v e = (s : Site) → Met v s → (c : BuildCause) × NamesCause c e × In c (identifier_causes s)

-- a pattern that is not made
abbrev pub IsUnmade : (List ℕ → Bool) → List Pattern → refused.BuildCause → Type 0
IsUnmade makes qs e = (q : Pattern) × In q qs × (is_made_by makes (text_of q) ≡ false) × NamesCause (bad_pattern (place_in q.place)) e

-- the patterns that one member writes
abbrev pub written_at : Dialect → Members → List ℕ → Data → List (List ℕ)
written_at y all k d = if counts y (has_reference all) k then written_by k d else []

module _ {M : Type 0} (finds : M → List ℕ → Option Bool) (p : Patterns) (table : PatternTable M) where
  -- it stays so in another
  abbrev pub StaysFilled : PatternTable M → Type 0
  StaysFilled new = IsFilled finds p.finished p.makes table → IsFilled finds p.finished p.makes new

  abbrev pub MemberReads : Visit → Member → Found → Found → Option refused.BuildCause → Type 0
  MemberReads v m old new cause =
      IsFilled finds p.finished p.makes table
      → RowRead (documents_in v.site.resolver) (site_of v) (row_at (context_in (documents_in v.site.resolver) p.makes (site_of v) (members_view m.members.now.entries)) m.name.now (view m.value.now)) old new cause

  abbrev pub MembersRead : Visit → Members → Found → Found → Option refused.BuildCause → Type 0
  MembersRead v all old new cause =
      IsFilled finds p.finished p.makes table
      → RowsRead (documents_in v.site.resolver) (site_of v) (rows_of (context_in (documents_in v.site.resolver) p.makes (site_of v) all) all) old new cause

  abbrev pub VisitReads : Visit → Found → Option refused.BuildCause → Type 0
  VisitReads v found cause = IsFilled finds p.finished p.makes table → IsFound (documents_in v.site.resolver) p.makes (site_of v) found cause

-- ---- where none has a cause, a table has the patterns that are written

abbrev pub HoldsMember : {M : Type 0} → PatternTable M → Visit → Member → Option refused.BuildCause → Type 0
HoldsMember table v m cause = cause ≡ None → Holds table (written_at (site_of v).dialect (members_view m.members.now.entries) m.name.now (view m.value.now))

abbrev pub HoldsMembers : {M : Type 0} → PatternTable M → Visit → Members → Option refused.BuildCause → Type 0
HoldsMembers table v all cause = cause ≡ None → Holds table (written_members (site_of v).dialect all all)
