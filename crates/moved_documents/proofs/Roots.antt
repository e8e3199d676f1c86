-- The roots of the two documents, and of the one with the other inside.
use Rattle.std.proofs.Common.{◌≡◌, ◌∙◌, ◌||◌, ◌+◌, ℕ, List, [], ◌∷◌, Bool, true, false, if◌then◌else◌, codes, Option, Some, None, is_some, option_and_then, refl, sym, ap, subst}
use Rattle.serde_json.specs.Data.{Data, null, boolean, number, string, array, object, Members}
use Rattle.serde_json.specs.Find.{as_object}
use Rattle.json_values.specs.Parts.{Part, name}
use Rattle.json_values.specs.Pointers.{value_at}
use Rattle.json_values.specs.Rising.{rises}
use Rattle.schema_drafts.specs.Drafts.{draft_named}
use Rattle.schema_drafts.specs.Subschemas.{by_name, held_by}
use Rattle.schema_drafts.specs.declared.draft.Draft.{Draft}
use Rattle.schema_drafts.specs.declared.draft.Draft.TheVariants.{Draft201909, Draft202012, Unknown}
use Rattle.schema_definitions.specs.Words.{or, text_at}
use Rattle.schema_definitions.specs.Identifiers.{resolved, is_hidden, identifier}
use Rattle.schema_definitions.specs.Places.{Dialect, SchemaPlace, standard, draft_beside, schema_in_force, settled, by_draft, by_schema, own_base, placed, entered, root_place, is_schema, children_of, children_in, children}
use Rattle.schema_definitions.specs.Bearers.{by_default, is_root, schemas_named}
use Rattle.moved_documents.specs.Forms.{Pair, moved_into}
use Rattle.moved_documents.specs.Premises.{embeds, States, CanMove}
use Rattle.moved_documents.specs.Linked.{Extended, made, grown, Near, at_root}
use Rattle.moved_documents.proofs.Near.{Inside, root_inside}
use Rattle.moved_documents.proofs.Counted.{named_at_root}
use Rattle.moved_documents.proofs.NearTexts.{text_near, base_near}
use Rattle.moved_documents.proofs.Twins.{another}
use Rattle.moved_documents.proofs.Grown.{IsMoved, Grown, below_root}

-- ---- drafts in which nothing hides `$defs`

none_hidden : (siblings : Bool) (draft : Draft) (d : Data) → embeds draft ≡ true → is_hidden (standard siblings draft) d ≡ false
none_hidden siblings Draft201909 d e = refl
none_hidden siblings Draft202012 d e = refl
none_hidden siblings draft d e = absurd (cc)

holds_definitions : (draft : Draft) → embeds draft ≡ true → held_by draft false (codes "$defs") ≡ by_name
holds_definitions Draft201909 e = refl
holds_definitions Draft202012 e = refl
holds_definitions draft e = absurd (cc)

-- ---- a schema that states its draft

pub states_schema : (draft : Draft) (d : Data) → States draft d → is_schema d ≡ true
states_schema draft (object ms) h = refl
states_schema draft null h = absurd (cc)
states_schema draft (boolean b) h = refl
states_schema draft (number n) h = absurd (cc)
states_schema draft (string s) h = absurd (cc)
states_schema draft (array ds) h = absurd (cc)

-- the members of an object
record IsObject (fresh : List ℕ) (moved whole d : Data) : Type 0 where
  members : Members
  is : object members ≡ d
  joined : moved_into fresh moved members ≡ Some whole

object_of : (fresh : List ℕ) (moved whole d : Data) → option_and_then (moved_into fresh moved) (as_object d) ≡ Some whole → IsObject fresh moved whole d
object_of fresh moved whole (object ms) e = record { members = ms; is = refl; joined = e }
object_of fresh moved whole d e = (let no : None ≡ Some whole = e in absurd (cc))

module _ (told : List ℕ → Option Dialect) (siblings : Bool) (draft : Draft) where
  abbrev pub dialect : Dialect
  dialect = standard siblings draft

  -- a root that states its draft
  root_settled : (default : Dialect) (d : Data) → default.siblings ≡ siblings → States draft d → by_schema told default (schema_in_force default.siblings true d) ≡ settled dialect
  root_settled default d s h = by (text_at (codes "$schema") d) h
    where
      by : (o : Option (List ℕ)) → option_and_then draft_named o ≡ Some draft
          → by_schema told default (option_and_then (λ t. if true || is_some (identifier (standard default.siblings (draft_beside t)) d) then Some t else None) o) ≡ settled dialect
      by None e = absurd (cc)
      by (Some t) e = ap (by_draft told default t) e ∙ ap (λ (b : Bool). settled (standard b draft)) s

  -- one inside that has an identifier too
  inside_settled : (d : Data) → is_some (identifier dialect d) ≡ true → States draft d → by_schema told dialect (schema_in_force siblings false d) ≡ settled dialect
  inside_settled d i h = by (text_at (codes "$schema") d) h
    where
      by : (o : Option (List ℕ)) → option_and_then draft_named o ≡ Some draft
          → by_schema told dialect (option_and_then (λ t. if false || is_some (identifier (standard siblings (draft_beside t)) d) then Some t else None) o) ≡ settled dialect
      by None e = absurd (cc)
      by (Some t) e =
          let beside : draft_beside t ≡ draft = ap (λ o. or Unknown o) e in
          let named : is_some (identifier (standard siblings (draft_beside t)) d) ≡ true = ap (λ (x : Draft). is_some (identifier (standard siblings x) d)) beside ∙ i in
          ap (λ (b : Bool). by_schema told dialect (if false || b then Some t else None)) named ∙ ap (by_draft told dialect t) e

module _ (p : Pair) (draft : Draft) (whole : Data) (can : CanMove p draft whole) (told : List ℕ → Option Dialect) where
  abbrev pub own : Dialect
  own = standard p.layer.siblings draft

  parts : IsObject p.fresh p.moved whole p.root
  parts = object_of p.fresh p.moved whole p.root can.joined

  ms_rise : rises (object parts.members) ≡ true
  ms_rise = subst (λ (d : Data). rises d ≡ true) (sym parts.is) can.rises

  within : Inside p.fresh p.moved parts.members ms_rise whole
  within = root_inside p.fresh p.moved parts.members ms_rise whole parts.joined

  pub near_root : Near p.fresh p.moved p.root whole
  near_root = subst (λ (d : Data). Near p.fresh p.moved d whole) parts.is (subst (λ (d : Data). Near p.fresh p.moved (object parts.members) d) within.value (at_root within.is within.extended within.changed))

  -- ---- the root has nothing where the moved document comes to stand

  by_extended : {o : Option Data} {es : Members} → Extended p.fresh p.moved o es → (rest : List Part) → option_and_then (value_at (name p.fresh ∷ rest)) o ≡ None
  by_extended made rest = refl
  by_extended (grown none change) rest = ap (λ (o : Option Data). option_and_then (value_at rest) o) none

  pub nothing_there : (rest : List Part) → value_at (name (codes "$defs") ∷ name p.fresh ∷ rest) p.root ≡ None
  nothing_there rest =
      subst (λ (d : Data). value_at (name (codes "$defs") ∷ name p.fresh ∷ rest) d ≡ None) parts.is
      (ap (λ (o : Option Data). option_and_then (value_at (name p.fresh ∷ rest)) o) within.is ∙ by_extended within.extended rest)

  pub named_whole : schemas_named whole ≡ schemas_named p.root + schemas_named p.moved
  named_whole =
      sym (ap (λ (d : Data). schemas_named d) within.value) ∙ named_at_root p.fresh p.moved can.fresh within.extended within.changed
      ∙ ap (λ (d : Data). schemas_named d + schemas_named p.moved) parts.is

  -- ---- the three roots

  abbrev pub the_root : SchemaPlace
  the_root = record { path = []; contents = p.root; base = own_base p.root_uri own p.root; dialect = own; awaits = None }

  abbrev pub the_whole : SchemaPlace
  the_whole = another told the_root [] whole

  abbrev pub the_moved : SchemaPlace
  the_moved = record { path = []; contents = p.moved; base = p.moved_uri; dialect = own; awaits = None }

  pub root_is : root_place told p.root_uri (by_default p.layer) p.root ≡ the_root
  root_is = ap (placed p.root_uri (by_default p.layer) [] p.root) (root_settled told p.layer.siblings draft (by_default p.layer) p.root refl can.root)

  whole_states : States draft whole
  whole_states = ap (λ o. option_and_then draft_named o) (text_near p.fresh p.moved can.fresh p.root whole near_root (codes "$schema") refl refl) ∙ can.root

  pub whole_is : root_place told p.root_uri (by_default p.layer) whole ≡ the_whole
  whole_is =
      ap (placed p.root_uri (by_default p.layer) [] whole) (root_settled told p.layer.siblings draft (by_default p.layer) whole refl whole_states)
      ∙ ap (λ (b : List ℕ). record { path = []; contents = whole; base = b; dialect = own; awaits = None }) (base_near p.fresh p.moved can.fresh p.root whole near_root p.root_uri own)

  moved_base : (outer : List ℕ) → own_base outer own p.moved ≡ p.moved_uri
  moved_base outer = ap (λ o. or outer (option_and_then (resolved outer) o)) can.identified ∙ ap (λ o. or outer o) (can.normal outer)

  pub moved_is : root_place told p.moved_uri (by_default p.layer) p.moved ≡ the_moved
  moved_is =
      ap (placed p.moved_uri (by_default p.layer) [] p.moved) (root_settled told p.layer.siblings draft (by_default p.layer) p.moved refl can.moved)
      ∙ ap (λ (b : List ℕ). record { path = []; contents = p.moved; base = b; dialect = own; awaits = None }) (moved_base p.moved_uri)

  entered_is : (outer : List ℕ) (path : List Part) → entered told outer own path p.moved
      ≡ record { path = path; contents = p.moved; base = p.moved_uri; dialect = own; awaits = None }
  entered_is outer path =
      ap (placed outer own path p.moved) (inside_settled told p.layer.siblings draft p.moved (ap is_some can.identified) can.moved)
      ∙ ap (λ (b : List ℕ). record { path = path; contents = p.moved; base = b; dialect = own; awaits = None }) (moved_base outer)

  stands : (path : List Part) → is_root path ≡ false → IsMoved path the_moved (entered told the_root.base own path p.moved)
  stands path below =
      subst (λ (q : SchemaPlace). IsMoved path the_moved q) (sym (entered_is the_root.base path))
      (record { twin = record { contents = refl; base = refl; dialect = refl; awaits = refl }; below = below; path = refl })

  -- ---- the places below the root, without and with the moved document

  -- where the moved document stands inside
  abbrev pub moved_path : List Part
  moved_path = name p.fresh ∷ name (codes "$defs") ∷ []

  pub root_grown : Grown moved_path the_moved (children told the_root) (children told the_whole)
  root_grown =
      let ms = parts.members in
      let ns = within.members in
      let none : (d : Data) → is_hidden own d ≡ false = λ d. none_hidden p.layer.siblings draft d can.embeds in
      let grown : Grown moved_path the_moved (children_of told the_root false ms) (children_of told the_whole false ns) =
      below_root told the_root whole p.fresh p.moved the_moved (states_schema draft p.moved can.moved) stands false (holds_definitions draft can.embeds) within.extended within.changed in
      let first : Grown moved_path the_moved (children_in told the_root (object ms)) (children_of told the_whole false ns) =
      subst (λ (b : Bool). Grown moved_path the_moved (children_of told the_root b ms) (children_of told the_whole false ns)) (sym (none (object ms))) grown in
      let second : Grown moved_path the_moved (children_in told the_root (object ms)) (children_in told the_whole (object ns)) =
      subst (λ (b : Bool). Grown moved_path the_moved (children_in told the_root (object ms)) (children_of told the_whole b ns)) (sym (none (object ns))) first in
      subst (λ (d : Data). Grown moved_path the_moved (children_in told the_root d) (children_in told the_whole whole)) parts.is
      (subst (λ (d : Data). Grown moved_path the_moved (children_in told the_root (object ms)) (children_in told the_whole d)) within.value second)
