-- The schemas that stand beside an `if`: they are less deep than its own, and read.
use Rattle.std.proofs.Common.{◌≡◌, ◌<◌, ◌++◌, ℕ, List, [], ◌∷◌, Bool, true, false, codes, Bor, Option, Some, None, refl, sym, subst}
use Rattle.std.specs.Prelude.{option_map}
use Rattle.serde_json.specs.Data.{Data, null, object, depth, Members}
use Rattle.serde_json.specs.View.{view}
use Rattle.serde_json.specs.declared.value.Value.{Value}
use Rattle.schema_meaning.specs.Members.{In, first, later}
use Rattle.schema_meaning.specs.Places.{whole}
use Rattle.schema_meaning.specs.Questions.{Question, at, listed_members}
use Rattle.schema_meaning.specs.Rules.{asks}
use Rattle.schema_meaning.specs.Keywords.{Shape, condition, rule}
use Rattle.schema_meaning.specs.Readings.{Asks}
use Rattle.schema_definitions.specs.Bearers.{meta}
use Rattle.schema_definitions.specs.Places.{by_schema, schema_in_force}
use Rattle.schema_definitions.specs.Sites.{Site}
use Rattle.schema_definitions.specs.Rows.{Row, Context, row_at, rows_at}
use Rattle.schema_definitions.specs.Plain.{plain}
use Rattle.meaning_laws.proofs.Obliged.{in_map}
use Rattle.document_laws.proofs.Depths.{placed_contents}
use Rattle.reading_laws.proofs.Nested.{all_known}
use Rattle.certificate_laws.proofs.Begun.{rules_stand}
use Rattle.certificate_laws.proofs.BesideLed.{IsChoice, LedBy, then_led, else_led}
use Rattle.schema_sites.specs.Passed.{base_of, scope_of}
use Rattle.schema_sites.specs.Read.{row_of, context_at, site_at}
use Rattle.schema_sites.specs.Seen.{documents_at, Stands}
use Rattle.schema_sites.specs.declared.keyword.Keyword.TheVariants as keyword
use Rattle.schema_sites.specs.declared.site.Site as code
use Rattle.schema_dialects.specs.Dialects.{dialect_of}
use Rattle.plain_reader.specs.Settings.{Setting}
use Rattle.plain_reader.specs.Verdicts.{AreRead}
use Rattle.plain_reader.specs.Choices.{beside_leads, choice_leads, IsInside, AreInside}
use Rattle.plain_reader.specs.Shapes.{context_in}
use Rattle.plain_reader.proofs.Reading.{read_on, row_here}

-- ---- less deep

-- the site of the schema that the code's stands for, wherever it is
abbrev somewhere : code.Site → Site
somewhere c = record {
  document = [];
  path = [];
  contents = view c.contents.now;
  base = base_of c.resolver;
  dialect = dialect_of c.dialect;
  scope = scope_of c.resolver;
  schema_path = [];
}

module _ (c : code.Site) (ms : Members) (k : List ℕ) (f : Data) (schema : Bor Value) (t e : Option (Bor Value)) (is : view c.contents.now ≡ object ms) (listed : In (k, f) (listed_members ms))
    (reads_as : (makes : List ℕ → Bool) (s : Site) → Stands c s → s.scope ≡ scope_of c.resolver → row_at (context_at c ms makes s) k f ≡ row_of (documents_at c) s (keyword.If schema t e)) where
  abbrev shape : Shape Site
  shape = condition (site_at (documents_at c) (somewhere c) (codes "if") (view schema.now)) (option_map (λ v. site_at (documents_at c) (somewhere c) (codes "then") (view v.now)) t)
      (option_map (λ v. site_at (documents_at c) (somewhere c) (codes "else") (view v.now)) e)

  asked_inside : (q : Question Site) → In q (asks (rule (λ p text. false) null shape)) → q.follows ≡ false → depth q.site.contents < depth (view c.contents.now)
  asked_inside q i inside =
      let docs = documents_at c in
      let makes = λ (n : List ℕ). true in
      let matches = λ (p text : List ℕ). false in
      let s = somewhere c in
      let row = row_at (context_at c ms makes s) k f in
      let same : row ≡ row_of docs s (keyword.If schema t e) = reads_as makes s (record { contents = refl; base = refl; dialect = refl }) refl in
      let lies : In row (rows_at docs makes s) = row_here docs makes s ms k f is listed in
      let there : In shape row.shapes = subst (λ (r : Row). In shape r.shapes) (sym same) first in
      let asks_it : Asks (plain docs makes matches) s (whole null) q = record {
        keyword = rule matches null shape;
        stands = rules_stand docs makes matches s row null lies (rule matches null shape) (in_map (rule matches null) shape row.shapes there);
        asked = i;
      } in
      ((all_known docs makes matches s (whole null) q asks_it).within inside).is

  of_schema : (n : List ℕ) (v : Bor Value) → depth (site_at (documents_at c) (somewhere c) n (view v.now)).contents < depth (view c.contents.now) → IsInside c v
  of_schema n v h =
      subst (λ (d : Data). depth d < depth (view c.contents.now))
      (placed_contents (base_of c.resolver) (dialect_of c.dialect) (at n ++ []) (view v.now) (by_schema (meta (documents_at c)) (dialect_of c.dialect) (schema_in_force (dialect_of c.dialect).siblings false (view v.now)))) h

pub are_inside : (c : code.Site) (ms : Members) (k : List ℕ) (f : Data) (schema : Bor Value) (t e : Option (Bor Value)) → view c.contents.now ≡ object ms → In (k, f) (listed_members ms)
    → ((makes : List ℕ → Bool) (s : Site) → Stands c s → s.scope ≡ scope_of c.resolver → row_at (context_at c ms makes s) k f ≡ row_of (documents_at c) s (keyword.If schema t e)) → AreInside c t e
are_inside c ms k f schema None None is listed reads_as = record { chosen = tt; other = tt }
are_inside c ms k f schema None (Some e) is listed reads_as = record {
  chosen = tt;
  other = of_schema c ms k f schema None (Some e) is listed reads_as (codes "else") e (asked_inside c ms k f schema None (Some e) is listed reads_as _ (later first) refl);
}
are_inside c ms k f schema (Some t) None is listed reads_as = record {
  chosen = of_schema c ms k f schema (Some t) None is listed reads_as (codes "then") t (asked_inside c ms k f schema (Some t) None is listed reads_as _ (later first) refl);
  other = tt;
}
are_inside c ms k f schema (Some t) (Some e) is listed reads_as = record {
  chosen = of_schema c ms k f schema (Some t) (Some e) is listed reads_as (codes "then") t (asked_inside c ms k f schema (Some t) (Some e) is listed reads_as _ (later first) refl);
  other = of_schema c ms k f schema (Some t) (Some e) is listed reads_as (codes "else") e (asked_inside c ms k f schema (Some t) (Some e) is listed reads_as _ (later (later first)) refl);
}

-- ---- read

beside_is : (n : List ℕ) (o : Option (Bor Value)) (x : Setting) (u : Site) → In u (beside_leads n o x) → option_map (λ v. site_at x.documents x.site n (view v.now)) o ≡ Some u
beside_is n None x u i = elim i [ ]
beside_is n (Some v) x _ first = refl
beside_is n (Some v) x u (later i) = elim i [ ]

in_either : (P : Type 0) (u : Site) (xs ys : List Site) → (In u xs → P) → (In u ys → P) → In u (xs ++ ys) → P
in_either P u [] ys f g i = g i
in_either P u (s ∷ xs) ys f g first = f first
in_either P u (s ∷ xs) ys f g (later i) = in_either P u xs ys (λ j. f (later j)) g i

module _ (x : Setting) (ms : Members) (k : List ℕ) (f : Data) (schema : Bor Value) (t e : Option (Bor Value)) (is : x.site.contents ≡ object ms) (listed : In (k, f) (listed_members ms))
    (read : AreRead x.documents x.makes x.site) (row : row_at (context_in ms x) k f ≡ row_of x.documents x.site (keyword.If schema t e)) where
  abbrev here_read : Context
  here_read = context_in ms x

  led_read : (u : Site) → LedBy here_read u → AreRead x.documents x.makes u
  led_read u l =
      read_on x.documents x.makes x.site (row_at here_read l.name l.value) u read (row_here x.documents x.makes x.site ms l.name l.value is l.listed) l.leads

  choice : IsChoice here_read k f (site_at x.documents x.site (codes "if") (view schema.now)) (option_map (λ v. site_at x.documents x.site (codes "then") (view v.now)) t)
      (option_map (λ v. site_at x.documents x.site (codes "else") (view v.now)) e)
  choice = record { listed = listed; row = row }

  pub choice_read : (u : Site) → In u (choice_leads schema t e x) → AreRead x.documents x.makes u
  choice_read u first =
      read_on x.documents x.makes x.site (row_at here_read k f) u read (row_here x.documents x.makes x.site ms k f is listed) (subst (λ (r : Row). In u r.leads) (sym row) first)
  choice_read u (later i) =
      in_either (AreRead x.documents x.makes u) u (beside_leads (codes "then") t x) (beside_leads (codes "else") e x)
      (λ j. led_read u (then_led here_read k f _ _ _ choice u (beside_is (codes "then") t x u j)))
      (λ j. led_read u (else_led here_read k f _ _ _ choice u (beside_is (codes "else") e x u j))) i
