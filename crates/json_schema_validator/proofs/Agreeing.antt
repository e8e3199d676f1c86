-- Under the premises of moving, the texts of two forms are one.
use Rattle.std.proofs.Common.{◌⊎◌, ◌≡◌, ◌∙◌, ℕ, List, [], ◌∷◌, ◌++◌, Bool, false, if◌then◌else◌, bytes_eq, Option, Some, None, option_map, Result, Ok, Err, is_ok, true, ◌&&◌, inl, inr, codes, String, string_bytes, refl, sym, ap, ap₂, subst}
use Rattle.std.proofs.lemmas.Option.{none-some, same_Some}
use Rattle.std.proofs.lemmas.Slice.Eq.{bytes_eq-Decides}
use Rattle.std.specs.List.{AllByRecursion}
use Rattle.std.specs.declared.alloc.Global.{Global}
use Rattle.serde_json.specs.Data.{Data}
use Rattle.serde_json.specs.View.{view}
use Rattle.json_values.specs.Rising.{rises}
use Rattle.schema_drafts.specs.Drafts.{newest}
use Rattle.schema_drafts.specs.declared.draft.Draft.{Draft}
use Rattle.uri_grammar.specs.Parts.{split}
use Rattle.uri_grammar.specs.Grammar.{is_reference}
use Rattle.uri_references.specs.Identity.{identity_of}
use Rattle.schema_meaning.specs.Places.{whole as whole_value}
use Rattle.schema_meaning.specs.Faults.{Faults}
use Rattle.schema_meaning.specs.Readings.{bags}
use Rattle.schema_definitions.specs.Bearers.{Document, Layer, meta}
use Rattle.schema_definitions.specs.DocumentCauses.{document_causes}
use Rattle.schema_definitions.specs.Lines.{faults_text}
use Rattle.schema_definitions.specs.Lookup.{LookupCause, Target, lookup}
use Rattle.schema_definitions.specs.Plain.{plain}
use Rattle.schema_definitions.specs.Rounds.{Asking, IsOfLayer, AreRounds, gathered, wants}
use Rattle.reading_laws.specs.Spelled.{spelled}
use Rattle.added_documents.specs.Added.{EachNamedBy, IsToldAlike}
use Rattle.added_documents.specs.ReadingLaws.{Builds}
use Rattle.document_sources.specs.Given.{Given, documents_by}
use Rattle.referencing.specs.Built.{first_layer}
use Rattle.meaning_laws.proofs.Refuses.{told_once}
use Rattle.document_sources.specs.Answers.{answer_for}
use Rattle.document_sources.specs.declared.map.MapRetriever.{MapRetriever}
use Rattle.schema_registries.specs.Roots.{Root, Patterns, Finds, IsSound, root_on, site_of_root}
use Rattle.schema_registries.specs.Whole.{only_whole}
use Rattle.schema_registries.specs.Retrieval.{IsPrepared}
use Rattle.schema_registries.specs.Seen.{documents_in_registry, documents_given, given_under, retrieved_shared}
use Rattle.schema_registries.specs.declared.documents.Documents.{Documents}
use Rattle.schema_registries.specs.declared.registry.SharedRegistry.{SharedRegistry}
use Rattle.schema_registries.specs.declared.registry.SchemaRegistry.{SchemaRegistry}
use Rattle.moved_documents.specs.Forms.{root_alone, moved_alone, added, by_map, inside, joined}
use Rattle.moved_documents.specs.Premises.{BornOnce, CanMove}
use Rattle.moved_documents.proofs.Apart.{uris_apart, bear_apart, bear_apart_beside, added_is_joined}
use Rattle.moved_documents.proofs.Settled.{stands_alone as left_alone}
use Rattle.moved_documents.proofs.Told.{once_beside}
use Rattle.moved_documents.proofs.Retrieved.{wanted_is_added, retrieved_is_added}
use Rattle.moved_documents.proofs.Law.{inside_is_added}
use Rattle.moved_documents.proofs.Order.{one_text, moved_text}
use Rattle.schema_validators.specs.Answered.{AreThose}
use Rattle.schema_validators.specs.New.{AreDefault}
use Rattle.schema_validators.specs.Prepared.{asking_by, layer_by, meta_schemas_given, AreMetaSchemas, own_layer, own_documents, IsRegistry}
use Rattle.schema_validators.specs.Seen.{root_of}
use Rattle.schema_validators.specs.declared.options.ValidationOptions.{ValidationOptions}
use Rattle.schema_validators.specs.declared.error.BuildError.{BuildError}
use Rattle.json_schema_validator.specs.Answers.{AnswersOne, IsTextOf}
use Rattle.json_schema_validator.specs.Roads.{root_given, both_given, IsWithin, IsAddedBy, IsRetrievedBy, IsInsideBy}
use Rattle.json_schema_validator.specs.Laws.{IsDecided, RootsAgree, pair_of, root_beside, root_inside, root_by_itself, AreApart, BearApart, ShareNone, IsWanting, IsLeftOut, MayMove, AreOne, SayOne}
use Rattle.json_schema_validator.proofs.Alone.{sound_still, text_still}
use Rattle.json_schema_validator.specs.declared.roads.Moving.{Moving}
use Rattle.json_schema_validator.specs.declared.roads.Roads.{Roads}

-- ---- of roots

-- the text of faults is that of those that the plain reading tells
told_text : (p : Patterns) (r : Root) (matches : List ℕ → List ℕ → Bool) (target : Target) (d : Data) (fs : Faults) → (a : AreThose p r matches target d fs)
    → faults_text fs ≡ faults_text a.faults
told_text p r matches target d fs a = one_text fs _ a.same ∙ moved_text spelled a.faults

-- where the reference leads
record Leads (r : Root) : Type 0 where
  target : Target
  finds : Finds r target

leads : (p : Patterns) (r : Root) → IsSound p r → Leads r
leads p r s = by (lookup r.documents r.base r.reference) refl s.found
  where
    by : (a : Result Target LookupCause) → lookup r.documents r.base r.reference ≡ a → is_ok a ≡ true → Leads r
    by (Ok t) is e = record { target = t; finds = is }
    by (Err c) is e = absurd (cc)

pub roots_agree : RootsAgree
roots_agree m draft whole can accepted p base reference one other d decided text text' h g =
    let r = root_of (added m) base reference in
    let s = root_of (inside m whole) base reference in
    let from = leads p r one in
    let to = leads p s other in
    let first = decided.one from.target from.finds in
    let second = decided.other to.target to.finds in
    let those = h.1 decided.matches from.target from.finds first.0 first.1 in
    let these = g.1 decided.matches to.target to.finds second.0 second.1 in
    let builds : Builds (added m) p.makes base reference from.target = record { found = from.finds; right = one.right from.target from.finds } in
    let builds_too : Builds (inside m whole) p.makes base reference to.target = record { found = to.finds; right = other.right to.target to.finds } in
    let law = inside_is_added m draft whole can accepted p.makes base reference from.target to.target builds builds_too decided.matches d in
    let texts : faults_text those.faults ≡ faults_text these.faults = law.texts those.faults these.faults those.told these.told in
    let one_line : faults_text h.0 ≡ faults_text g.0 =
    told_text p r decided.matches from.target d h.0 those ∙ texts ∙ sym (told_text p s decided.matches to.target d g.0 these) in
    h.2 ∙ ap (λ (t : List ℕ). t ++ 10 ∷ []) one_line ∙ sym g.2

-- ---- of forms

module _ {P R : Type 0} (may_answer : R → List ℕ → Data → Type 0) (may_refuse : R → List ℕ → Type 0) (nothing : (r : R) (uri : List ℕ) (d : Data) → may_answer r uri d → ⊥)
    (o : ValidationOptions P R) (default : AreDefault o) where
  -- where nobody answers and no meta-schemas are handed in, the documents are those given
  given_alone : (given : List Given) (registry : SchemaRegistry) → IsRegistry may_answer may_refuse o given registry
      → documents_in_registry registry ≡ documents_by (first_layer newest false) given
  given_alone given registry h = by registry.parent h.documents.parent h.documents.own
    where
      by : (parent : Option SharedRegistry) → AreMetaSchemas (asking_by may_answer may_refuse o) o.limit (layer_by o) (meta_schemas_given o) parent
          → IsPrepared (asking_by may_answer may_refuse o (own_layer parent (layer_by o))) o.limit (own_documents parent (layer_by o) given) (documents_in_registry registry) (retrieved_shared registry.own)
          → documents_in_registry registry ≡ documents_by (first_layer newest false) given
      by None parent own =
          (own.alone (λ uri d a. nothing o.retriever.retriever uri d a.0)).0
          ∙ ap₂ (λ x (b : Bool). documents_by (first_layer x b) given) default.draft default.siblings
      by (Some shared) parent own =
          absurd
          (subst (λ (ms : Option Documents). AreMetaSchemas (asking_by may_answer may_refuse o) o.limit (layer_by o) (option_map documents_given ms) (Some shared)) default.meta_schemas parent)

  -- so is the root
  root_is : (given : List Given) (registry : SchemaRegistry) (reference : List ℕ) → IsRegistry may_answer may_refuse o given registry
      → root_on registry reference ≡ root_of (documents_by (first_layer newest false) given) o.base reference
  root_is given registry reference h =
      ap₂ (λ (docs : List Document) (base : List ℕ). root_of docs base reference) (given_alone given registry h) h.base

-- ---- of the roots of three roads

-- nothing is wrong with a root, and a text is that under it
pub record IsSaid (p : Patterns) (r : Root) (d : Data) (said : List ℕ) : Type 0 where
  pub sound : IsSound p r
  pub text : IsTextOf p r d said

said_on : (p : Patterns) (r s : Root) (d : Data) (text : List ℕ) → r ≡ s → IsSound p r → IsTextOf p r d text → IsSaid p s d text
said_on p r s d text same sound is = subst (λ (x : Root). IsSaid p x d text) same (record { sound = sound; text = is })

-- so with the other document inside, and nothing is wrong with the documents of that form
record IsSaidInside (p : Patterns) (m : Moving) (whole d : Data) (text : List ℕ) : Type 0 where
  pub accepted : document_causes (inside (pair_of m) whole) ≡ []
  pub said : IsSaid p (root_inside m whole) d text

-- the text under one root is one
said_once : (p : Patterns) (r : Root) (d : Data) (matches : List ℕ → List ℕ → Bool) → IsDecided p matches r d → (text other : List ℕ)
    → IsSaid p r d text → IsSaid p r d other → text ≡ other
said_once p r d matches decided text other h g =
    let from = leads p r h.sound in
    let first = decided from.target from.finds in
    let those = h.text.1 matches from.target from.finds first.0 first.1 in
    let these = g.text.1 matches from.target from.finds first.0 first.1 in
    let one : those.faults ≡ these.faults =
    told_once bags (plain r.documents p.makes matches) those.told.unfoldings these.told.unfoldings (site_of_root r from.target) (whole_value d) those.faults these.faults
    those.told.is these.told.is in
    let line : faults_text h.text.0 ≡ faults_text g.text.0 =
    told_text p r matches from.target d h.text.0 those ∙ ap (λ (fs : Faults). faults_text fs) one ∙ sym (told_text p r matches from.target d g.text.0 these) in
    h.text.2 ∙ ap (λ (t : List ℕ). t ++ 10 ∷ []) line ∙ sym g.text.2

both_are : (m : Moving) → AreApart m → documents_by (first_layer newest false) (both_given m) ≡ added (pair_of m)
both_are m apart =
    ap
    (λ (b : Bool).
    documents_by (first_layer newest false)
    (if b then given_under m.moved_uri.now (view m.moved.now) ∷ [] else given_under m.root_uri.now (view m.root.now) ∷ given_under m.moved_uri.now (view m.moved.now) ∷ []))
    apart

module _ {P R : Type 0} (may_answer : R → List ℕ → Data → Type 0) (may_refuse : R → List ℕ → Type 0) (nothing : (r : R) (uri : List ℕ) (d : Data) → may_answer r uri d → ⊥)
    (maker : P) (p : Patterns) (m : Moving) (d : Data) where
  said_beside : AreApart m → (text : String Global) → IsAddedBy p may_answer may_refuse maker m d (Ok text) → IsSaid p (root_beside m) d (string_bytes text)
  said_beside apart text h =
      let o = h.options in
      let r = h.is.registry in
      let same : root_on r m.root_uri.now ≡ root_beside m =
      root_is may_answer may_refuse nothing o h.by.default (both_given m) r m.root_uri.now h.is.prepared
      ∙ ap₂ (λ (docs : List Document) (base : List ℕ). root_of docs base m.root_uri.now) (both_are m apart) h.by.default.base in
      said_on p (root_on r m.root_uri.now) (root_beside m) d (string_bytes text) same h.is.sound h.is.text

  within_is : (whole : Data) (text : String Global) (o : ValidationOptions P R) → AreDefault o → (h : IsWithin p may_answer may_refuse o m d (Ok text)) → h.whole ≡ whole
      → IsSaidInside p m whole d (string_bytes text)
  within_is whole text o default h is =
      let r = h.is.registry in
      let given : List Given = given_under m.root_uri.now h.whole ∷ [] in
      let same : root_on r m.root_uri.now ≡ root_inside m whole =
      root_is may_answer may_refuse nothing o default given r m.root_uri.now h.is.prepared
      ∙ ap₂ (λ (w : Data) (base : List ℕ). root_of (inside (pair_of m) w) base m.root_uri.now) is default.base in
      let documents : documents_in_registry r ≡ inside (pair_of m) whole =
      given_alone may_answer may_refuse nothing o default given r h.is.prepared ∙ ap (λ (w : Data). inside (pair_of m) w) is in
      record {
        accepted = sym (ap (λ (ds : List Document). document_causes ds) documents) ∙ h.is.prepared.documents.own.accepted;
        said = said_on p (root_on r m.root_uri.now) (root_inside m whole) d (string_bytes text) same h.is.sound h.is.text;
      }

  said_inside : (whole : Data) → joined (pair_of m) ≡ Some whole → (text : String Global) → IsInsideBy p may_answer may_refuse maker m d (Ok text)
      → IsSaidInside p m whole d (string_bytes text)
  said_inside whole is text h =
      elim h.is [
        | inl w ↦ within_is whole text h.options h.by.default w (same_Some w.whole whole (sym w.joined ∙ is))
        | inr n ↦ elim n [ inl a ↦ absurd (a.named) | inr b ↦ absurd (b.named) ]
      ]

-- ---- retrieved

abbrev AnsweredOne : Moving → List ℕ → Data → Type 0
AnsweredOne m q d = (q ≡ identity_of m.moved_uri.now) × (d ≡ view m.moved.now)

answered_one : (m : Moving) (q : List ℕ) (d : Data) (known : Bool)
    → (if known && bytes_eq (identity_of m.moved_uri.now) q then Some (view m.moved.now) else None) ≡ Some d → AnsweredOne m q d
answered_one m q d false e = absurd (none-some d e)
answered_one m q d true e = by (bytes_eq (identity_of m.moved_uri.now) q) refl e
  where
    by : (b : Bool) → bytes_eq (identity_of m.moved_uri.now) q ≡ b → (if b then Some (view m.moved.now) else None) ≡ Some d → AnsweredOne m q d
    by true is f = (sym ((bytes_eq-Decides (identity_of m.moved_uri.now) q).0 is), sym (same_Some (view m.moved.now) d f))
    by false is f = absurd (none-some d f)

module _ (a b : Asking) (same : a.layer ≡ b.layer) (so : (uri : List ℕ) (d : Data) → a.answers uri d → b.answers uri d) where
  each_so : (answers : List Document) → AllByRecursion (λ d. a.answers d.uri d.contents × IsOfLayer a.layer d) answers
      → AllByRecursion (λ d. b.answers d.uri d.contents × IsOfLayer b.layer d) answers
  each_so [] h = h
  each_so (d ∷ ds) h = ((so d.uri d.contents h.0.0, subst (λ (l : Layer). IsOfLayer l d) same h.0.1), each_so ds h.1)

  rounds_so : (docs : List Document) (rounds : List (List Document)) → AreRounds a docs rounds → AreRounds b docs rounds
  rounds_so docs [] h = h
  rounds_so docs (answers ∷ rounds) h =
      (record { asked = h.0.asked; answered = each_so answers h.0.answered }, rounds_so (docs ++ answers) rounds h.1)

-- the documents where one alone may be answered: those of the form in which it is added, or the root alone where it wants none
record AreAmong (m : Moving) (docs : List Document) : Type 0 where
  accepted : document_causes docs ≡ []
  are : (docs ≡ root_alone (pair_of m)) ⊎ (docs ≡ added (pair_of m))

module _ {P : Type 0} (may_answer : MapRetriever → List ℕ → Data → Type 0) (may_refuse : MapRetriever → List ℕ → Type 0)
    (answers : (r : MapRetriever) (q : List ℕ) (d : Data) → may_answer r q d → answer_for r q ≡ Some d) (maker : P) (p : Patterns) (m : Moving) (d : Data) where
  module _ (o : ValidationOptions P MapRetriever) (default : AreDefault o) (asked : AnswersOne m.moved_uri.now (view m.moved.now) o.retriever.retriever) where
    abbrev IsGiven : List Document → List (List ℕ) → Type 0
    IsGiven docs uris = IsPrepared (asking_by may_answer may_refuse o (first_layer newest false)) o.limit (root_alone (pair_of m)) docs uris

    module _ (docs : List Document) (uris : List (List ℕ)) (h : IsGiven docs uris) where
      by_one : AreRounds (by_map (pair_of m)) (root_alone (pair_of m)) h.gathered.rounds
      by_one =
          let r = o.retriever.retriever in
          let known : Bool = is_reference (split m.moved_uri.now) in
          let so : (q : List ℕ) (x : Data) → may_answer r q x × (only_whole x ≡ true) → AnsweredOne m q x =
          λ q x a. answered_one m q x known (sym (asked q) ∙ answers r q x a.0) in
          rounds_so (asking_by may_answer may_refuse o (first_layer newest false)) (by_map (pair_of m)) refl so (root_alone (pair_of m)) h.gathered.rounds h.gathered.are

      gathered_are : IsWanting m → docs ≡ added (pair_of m)
      gathered_are wanting =
          let complete : wants (gathered (root_alone (pair_of m)) h.gathered.rounds) ≡ [] = sym (ap (λ (ds : List Document). wants ds) h.gathered.gathers) ∙ h.complete in
          h.gathered.gathers ∙ wanted_is_added (pair_of m) h.gathered.rounds by_one wanting complete

      gathered_among : AreAmong m docs
      gathered_among = record {
        accepted = h.accepted;
        are = elim (retrieved_is_added (pair_of m) h.gathered.rounds by_one) [ inl e ↦ inl (h.gathered.gathers ∙ e) | inr e ↦ inr (h.gathered.gathers ∙ e) ];
      }

    -- what holds of the documents that are given holds of a registry's
    in_registry : (Q : List Document → Type 0) → ((docs : List Document) (uris : List (List ℕ)) → IsGiven docs uris → Q docs) → (registry : SchemaRegistry)
        → IsRegistry may_answer may_refuse o (root_given m) registry → Q (documents_in_registry registry)
    in_registry Q each registry h = by registry.parent h.documents.parent h.documents.own
      where
        by : (parent : Option SharedRegistry) → AreMetaSchemas (asking_by may_answer may_refuse o) o.limit (layer_by o) (meta_schemas_given o) parent
            → IsPrepared (asking_by may_answer may_refuse o (own_layer parent (layer_by o))) o.limit (own_documents parent (layer_by o) (root_given m)) (documents_in_registry registry)
            (retrieved_shared registry.own)
            → Q (documents_in_registry registry)
        by None parent own =
            each (documents_in_registry registry) (retrieved_shared registry.own)
            (subst (λ (l : Layer). IsPrepared (asking_by may_answer may_refuse o l) o.limit (documents_by l (root_given m)) (documents_in_registry registry) (retrieved_shared registry.own))
            (ap₂ (λ x (b : Bool). first_layer x b) default.draft default.siblings) own)
        by (Some shared) parent own =
            absurd
            (subst (λ (ms : Option Documents). AreMetaSchemas (asking_by may_answer may_refuse o) o.limit (layer_by o) (option_map documents_given ms) (Some shared)) default.meta_schemas parent)

  module _ (text : String Global) (h : IsRetrievedBy p may_answer may_refuse maker m d (Ok text)) where
    -- the text is that under the root in the documents of the registry
    said_among : (docs : List Document) → documents_in_registry h.is.registry ≡ docs → IsSaid p (root_of docs (codes "json-schema:///") m.root_uri.now) d (string_bytes text)
    said_among docs e =
        let r = h.is.registry in
        let same : root_on r m.root_uri.now ≡ root_of docs (codes "json-schema:///") m.root_uri.now =
        ap₂ (λ (ds : List Document) (base : List ℕ). root_of ds base m.root_uri.now) e (h.is.prepared.base ∙ h.by.default.base) in
        said_on p (root_on r m.root_uri.now) (root_of docs (codes "json-schema:///") m.root_uri.now) d (string_bytes text) same h.is.sound h.is.text

    said_wanted : IsWanting m → IsSaid p (root_beside m) d (string_bytes text)
    said_wanted wanting =
        said_among (added (pair_of m))
        (in_registry h.options h.by.default h.asked (λ docs. docs ≡ added (pair_of m)) (λ docs uris g. gathered_are h.options h.by.default h.asked docs uris g wanting) h.is.registry
        h.is.prepared)

    -- where the root by itself leaves the other document out, nothing changes where that is added
    said_out : IsLeftOut p m → (EachNamedBy (IsToldAlike (meta (root_alone (pair_of m))) (meta (added (pair_of m)))) (root_alone (pair_of m)) → BearApart m)
        → IsSaid p (root_beside m) d (string_bytes text)
    said_out out apart =
        let among = in_registry h.options h.by.default h.asked (AreAmong m) (λ docs uris g. gathered_among h.options h.by.default h.asked docs uris g) h.is.registry h.is.prepared in
        elim among.are [
          | inl e ↦
              let said = said_among (root_alone (pair_of m)) e in
              let from = leads p (root_by_itself m) said.sound in
              let left = out from.target from.finds in
              let builds : Builds (root_alone (pair_of m)) p.makes (codes "json-schema:///") m.root_uri.now from.target =
              record { found = from.finds; right = said.sound.right from.target from.finds } in
              let accepted : document_causes (root_alone (pair_of m)) ≡ [] = sym (ap (λ (ds : List Document). document_causes ds) e) ∙ among.accepted in
              let alone =
              left_alone (root_alone (pair_of m)) (moved_alone (pair_of m)) (added (pair_of m)) accepted
              (record { joined = added_is_joined (pair_of m); told = left.told; apart = apart left.told }) p.makes (codes "json-schema:///") m.root_uri.now from.target builds left.reached in
              record {
                sound = sound_still p (root_alone (pair_of m)) (moved_alone (pair_of m)) (added (pair_of m)) (codes "json-schema:///") m.root_uri.now from.target alone;
                text =
                    text_still p (root_alone (pair_of m)) (moved_alone (pair_of m)) (added (pair_of m)) (codes "json-schema:///") m.root_uri.now from.target alone d (string_bytes text)
                    said.text;
              }
          | inr e ↦ said_among (added (pair_of m)) e
        ]

    said_moved : (draft : Draft) (whole : Data) → CanMove (pair_of m) draft whole → BornOnce (meta (added (pair_of m))) (inside (pair_of m) whole) → IsLeftOut p m
        → IsSaid p (root_beside m) d (string_bytes text)
    said_moved draft whole can once out = said_out out (bear_apart (pair_of m) draft whole can once)

    said_apart : rises (view m.root.now) ≡ true → AreApart m → ShareNone m → IsLeftOut p m → IsSaid p (root_beside m) d (string_bytes text)
    said_apart rise two (inl apart) out = said_out out (λ told. apart)
    said_apart rise two (inr (inl once)) out = said_out out (bear_apart_beside (pair_of m) two once)
    said_apart rise two (inr (inr can)) out = said_moved can.0 can.1 (can.2 rise) can.3 out

-- ---- one text

moved_text_is : (p : Patterns) (m : Moving) (d : Data) → rises (view m.root.now) ≡ true → (may : MayMove p m d) (text other : List ℕ) → IsSaid p (root_beside m) d text
    → IsSaidInside p m may.whole d other → text ≡ other
moved_text_is p m d rise may text other h g =
    roots_agree (pair_of m) may.draft may.whole (may.can rise) g.accepted p (codes "json-schema:///") m.root_uri.now h.sound g.said.sound d may.decided text other h.text
    g.said.text

are_one : (a b : Result (String Global) BuildError)
    → ((text other : String Global) → a ≡ Ok text → b ≡ Ok other → string_bytes text ≡ string_bytes other) → AreOne a b
are_one (Ok text) (Ok other) h = h text other refl refl
are_one (Ok text) (Err e) h = tt
are_one (Err e) b h = tt

module _ {P R : Type 0} (may_answer : R → List ℕ → Data → Type 0) (may_refuse : R → List ℕ → Type 0) (nothing : (r : R) (uri : List ℕ) (d : Data) → may_answer r uri d → ⊥)
    (map_answers : MapRetriever → List ℕ → Data → Type 0) (map_refuses : MapRetriever → List ℕ → Type 0)
    (answers : (r : MapRetriever) (q : List ℕ) (d : Data) → map_answers r q d → answer_for r q ≡ Some d) (maker : P) (p : Patterns) (m : Moving) (d : Data) (r : Roads) where
  pub say_one : rises (view m.root.now) ≡ true → IsAddedBy p may_answer may_refuse maker m d r.added → IsRetrievedBy p map_answers map_refuses maker m d r.retrieved
      → IsInsideBy p may_answer may_refuse maker m d r.inside → SayOne p m d r
  say_one rise h k g =
      let beside : AreApart m → (text : String Global) → r.added ≡ Ok text → IsSaid p (root_beside m) d (string_bytes text) =
      λ apart text is.
      said_beside may_answer may_refuse nothing maker p m d apart text (subst (λ (a : Result (String Global) BuildError). IsAddedBy p may_answer may_refuse maker m d a) is h) in
      let got : (text : String Global) → r.retrieved ≡ Ok text → IsRetrievedBy p map_answers map_refuses maker m d (Ok text) =
      λ text is. subst (λ (a : Result (String Global) BuildError). IsRetrievedBy p map_answers map_refuses maker m d a) is k in
      let asked : AreApart m → IsWanting m ⊎ (ShareNone m × IsLeftOut p m) → (text : String Global) → r.retrieved ≡ Ok text → IsSaid p (root_beside m) d (string_bytes text) =
      λ apart settled text is.
      elim settled [
        | inl wanting ↦ said_wanted map_answers map_refuses answers maker p m d text (got text is) wanting
        | inr a ↦ said_apart map_answers map_refuses answers maker p m d text (got text is) rise apart a.0 a.1
      ] in
      let moving : (may : MayMove p m d) → document_causes (inside (pair_of m) may.whole) ≡ [] → IsWanting m ⊎ IsLeftOut p m → (text : String Global)
      → r.retrieved ≡ Ok text → IsSaid p (root_beside m) d (string_bytes text) =
      λ may accepted settled text is.
      elim settled [
        | inl wanting ↦ said_wanted map_answers map_refuses answers maker p m d text (got text is) wanting
        | inr out ↦
            said_moved map_answers map_refuses answers maker p m d text (got text is) may.draft may.whole (may.can rise)
            (once_beside (pair_of m) may.draft may.whole (may.can rise) accepted) out
      ] in
      let within : (may : MayMove p m d) (text : String Global) → r.inside ≡ Ok text → IsSaidInside p m may.whole d (string_bytes text) =
      λ may text is.
      said_inside may_answer may_refuse nothing maker p m d may.whole (may.can rise).joined text
      (subst (λ (a : Result (String Global) BuildError). IsInsideBy p may_answer may_refuse maker m d a) is g) in
      record {
        inside = λ may.
            are_one r.added r.inside
            (λ t u a b. moved_text_is p m d rise may (string_bytes t) (string_bytes u) (beside (uris_apart (pair_of m) may.draft may.whole (may.can rise)) t a) (within may u b));
        retrieved = λ apart settled matches decided.
            are_one r.added r.retrieved (λ t u a b. said_once p (root_beside m) d matches decided (string_bytes t) (string_bytes u) (beside apart t a) (asked apart settled u b));
        moved = λ settled may.
            are_one r.retrieved r.inside
            (λ t u a b.
            let there = within may u b in
            moved_text_is p m d rise may (string_bytes t) (string_bytes u) (moving may there.accepted settled t a) there);
      }
