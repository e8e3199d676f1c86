-- What a graph answers is what the documents tell that it means.
use Rattle.std.proofs.Common.{◌≡◌, ◌≤◌, ℕ, List, [], length, Bool, false, Option, Some, option_map, sym, ap, ◌∙◌, subst}
use Rattle.serde_json.specs.Data.{Data}
use Rattle.json_values.specs.Parts.{Part}
use Rattle.schema_meaning.specs.Places.{Key, whole}
use Rattle.schema_meaning.specs.Faults.{Fault, instance_path, evaluation_path, Told}
use Rattle.schema_meaning.specs.Keywords.{Shape}
use Rattle.schema_meaning.specs.Readings.{Telling, verdicts, bags, told, unfolded, IsTold}
use Rattle.schema_meaning.specs.Cut.{cut, AreAll}
use Rattle.schema_meaning.specs.Order.{SameFaults}
use Rattle.schema_meaning.specs.Certificates.{Certificate}
use Rattle.schema_definitions.specs.Bearers.{Documents}
use Rattle.schema_definitions.specs.Sites.{Site}
use Rattle.schema_definitions.specs.Plain.{deepest, plain}
use Rattle.schema_definitions.specs.AllKeys.{keys_of}
use Rattle.meaning_laws.specs.MatchLaws.{SameOnTheWay}
use Rattle.meaning_laws.proofs.Decided.{cut_is_decided}
use Rattle.meaning_laws.proofs.Others.{told_by_other_matches}
use Rattle.meaning_laws.proofs.Unfolded.{unfolded_is_told}
use Rattle.meaning_laws.proofs.Verdicts.{cut_agrees}
use Rattle.meaning_laws.proofs.Refuses.{certificate_refuses}
use Rattle.meaning_laws.proofs.Certified.{faults_are_certified}
use Rattle.schema_engine.specs.Graphs.{reading_of, IsSound}
use Rattle.schema_engine.specs.declared.node.Node.{Node}
use Rattle.schema_patterns.specs.declared.table.PatternTable.{PatternTable}
use Rattle.linked_meanings.specs.Moved.{moved}
use Rattle.linked_meanings.specs.Related.{AreRelated}
use Rattle.linked_meanings.proofs.RelatedAnswers.{related_alike, related_alike_but_for_paths}
use Rattle.linked_meanings.proofs.OrderLemmas.{order_is_equivalence}
use Rattle.reading_laws.specs.Spelled.{spelled}
use Rattle.reading_laws.proofs.Nested.{plain_nests}
use Rattle.reading_laws.proofs.PlainKeys.{all_keys as plain_keys}
use Rattle.graph_answers.specs.Answers.{keys_below, answer_by, Agree, IsDecided, IsVerdict, IsCertified, AreSame, AreFaults, HaveCertificates}
use Rattle.graph_answers.specs.Linking.{as_spelled, StandsFor}
use Rattle.graph_answers.specs.Tables.{table_reads}
use Rattle.graph_answers.proofs.TableReads.{same_by_table}
use Rattle.graph_answers.proofs.Keys.{all_keys}
use Rattle.graph_answers.proofs.SpelledAnswers.{spelled_unfolded, spelled_faults}
use Rattle.graph_answers.proofs.Decided.{verdict_decided, faults_decided}
use Rattle.graph_answers.proofs.ToldLemmas.{one_told, same_moved_told, same_if_known}

-- ---- of documents

-- what the cut reading of the documents tells
abbrev theirs : {A : Type 0} → Telling Site A → Documents → (List ℕ → Bool) → (List ℕ → List ℕ → Bool) → Site → Data → A
theirs t docs makes matches root d = cut t (plain docs makes matches) (keys_of docs d) [] root (whole d)

module _ {K M : Type 0} (shape : K → Shape ℕ) (finds : M → List ℕ → Option Bool) (nodes : List (Node K)) (table : PatternTable M) (start : ℕ) (d : Data) (sound : IsSound shape nodes) where
  abbrev reads : List ℕ → List ℕ → Bool
  reads = table_reads finds table

  module _ (docs : Documents) (makes : List ℕ → Bool) (matches : List ℕ → List ℕ → Bool) (root : Site) (h : IsDecided shape finds nodes table start d docs makes matches root) where
    decided_at : {A : Type 0} (t : Telling Site A) → told t (plain docs makes matches) (length (keys_of docs d)) root (whole d) ≡ Some (theirs t docs makes matches root d)
    decided_at {A} t =
        let nests = plain_nests docs makes matches in
        cut_is_decided Site A t (plain docs makes matches) root (whole d) (keys_of docs d) nests.0
        (subst (λ n. n ≤ deepest docs) (sym (nests.1 root)) h.shallow) (plain_keys docs makes matches root d) h.straight

    told_there : {A : Type 0} (t : Telling Site A) → IsTold t (plain docs makes matches) root (whole d) (theirs t docs makes matches root d)
    told_there t = record { unfoldings = length (keys_of docs d); is = decided_at t }

    module _ (other : List ℕ → List ℕ → Bool) (same : SameOnTheWay (plain docs makes matches) other root (whole d)) where
      -- by other matches that are the same on the way it is decided the same
      by_other : {A : Type 0} (t : Telling Site A) → (n : ℕ) × (unfolded t (plain docs makes other) n root (whole d) ≡ Some (theirs t docs makes matches root d))
      by_other {A} t =
          (unfolded_is_told Site A t (plain docs makes other) (length (keys_of docs d)) root (whole d) (theirs t docs makes matches root d)).0
          (sym (told_by_other_matches Site A t (plain docs makes matches) other root (whole d) same (length (keys_of docs d))) ∙ decided_at t)

      verdict_by_other : cut verdicts (reading_of shape other nodes) (keys_below (length nodes) d) [] start (whole d) ≡ theirs verdicts docs makes matches root d
      verdict_by_other =
          let there = by_other verdicts in
          let related = h.compiled.means.related other in
          let alike =
          related_alike_but_for_paths (StandsFor docs h.compiled.sites) (plain docs makes other) (reading_of shape other nodes)
          (record { matches = related.matches; keywords = related.keywords }) there.0 root start (whole d) h.compiled.begins in
          verdict_decided shape other nodes sound start d there.0 (theirs verdicts docs makes matches root d) (sym alike.0 ∙ there.1)

      pub told_by_other : IsTold verdicts (plain docs makes matches) root (whole d) (cut verdicts (reading_of shape other nodes) (keys_below (length nodes) d) [] start (whole d))
      told_by_other = subst (λ b. IsTold verdicts (plain docs makes matches) root (whole d) b) (sym verdict_by_other) (told_there verdicts)

    -- so it is by the table's
    by_table : {A : Type 0} (t : Telling Site A) → (n : ℕ) × (unfolded t (plain docs makes reads) n root (whole d) ≡ Some (theirs t docs makes matches root d))
    by_table t = by_other reads (same_by_table finds table docs makes matches root d h.finished h.made h.among h.finish) t

    related : AreRelated (as_spelled docs makes reads) (reading_of shape reads nodes) (StandsFor docs h.compiled.sites)
    related = h.compiled.means.related reads

    -- ---- the verdict

    verdict_is : answer_by shape finds nodes table start d verdicts ≡ theirs verdicts docs makes matches root d
    unfolding answer_by
    verdict_is = verdict_by_other reads (same_by_table finds table docs makes matches root d h.finished h.made h.among h.finish)

    verdict_told : IsTold verdicts (plain docs makes matches) root (whole d) (answer_by shape finds nodes table start d verdicts)
    verdict_told = subst (λ b. IsTold verdicts (plain docs makes matches) root (whole d) b) (sym verdict_is) (told_there verdicts)

    refused : theirs verdicts docs makes matches root d ≡ false → (i : List Part) × (e : List Part) × Certificate (plain docs makes matches) root (whole d) i e
    refused e =
        let some = one_told (theirs bags docs makes matches root d) (cut_agrees Site (plain docs makes matches) (keys_of docs d) [] root (whole d) ∙ e) in (
          instance_path some.0,
          evaluation_path some.0,
          faults_are_certified Site (plain docs makes matches) root (whole d) (theirs bags docs makes matches root d) (told_there bags) some.0 some.1,
        )

    -- ---- the faults

    faults_are : AreSame shape finds nodes table start d docs makes matches root (answer_by shape finds nodes table start d bags)
    unfolding answer_by
    faults_are =
        let fs = theirs bags docs makes matches root d in
        let there = by_table bags in
        let spelled_there : unfolded bags (as_spelled docs makes reads) there.0 root (whole d) ≡ Some (moved spelled fs) =
        sym (spelled_unfolded docs makes reads there.0 root (whole d)) ∙ ap (option_map (moved spelled)) there.1 in
        let alike =
        related_alike (StandsFor docs h.compiled.sites) (as_spelled docs makes reads) (reading_of shape reads nodes) related there.0 root start (whole d) h.compiled.begins in
        let known = same_if_known (unfolded bags (as_spelled docs makes reads) there.0 root (whole d)) (unfolded bags (reading_of shape reads nodes) there.0 start (whole d))
        alike.1 (moved spelled fs) spelled_there in
        let is = faults_decided shape reads nodes sound start d there.0 known.0 known.2 in
        record {
          faults = fs;
          told = told_there bags;
          spelled_told = spelled_faults docs makes matches root (whole d) fs h.shallow (told_there bags);
          same = subst (λ gs. SameFaults gs (moved spelled fs)) (sym is) (order_is_equivalence.1 (moved spelled fs) known.0 known.1);
        }

    fault_certified : (f : Fault) → Told f (answer_by shape finds nodes table start d bags) → Certificate (plain docs makes matches) root (whole d) (instance_path f) (evaluation_path f)
    fault_certified f t =
        let are = faults_are in
        let g = same_moved_told spelled (answer_by shape finds nodes table start d bags) are.faults are.same f t in
        subst (λ i. Certificate (plain docs makes matches) root (whole d) i (evaluation_path f)) (sym g.1.instance)
        (subst (λ e. Certificate (plain docs makes matches) root (whole d) (instance_path g.0) e) (sym g.1.evaluation)
        (faults_are_certified Site (plain docs makes matches) root (whole d) are.faults are.told g.0 g.2))

  pub is_verdict : IsVerdict shape finds nodes table start d (answer_by shape finds nodes table start d verdicts)
  is_verdict docs makes matches root h = verdict_told docs makes matches root h

  pub is_certified : IsCertified shape finds nodes table start d (answer_by shape finds nodes table start d verdicts)
  is_certified docs makes matches root h = (
    λ e. refused docs makes matches root h (sym (verdict_is docs makes matches root h) ∙ e),
    λ i e c. certificate_refuses Site (plain docs makes matches) root (whole d) i e (answer_by shape finds nodes table start d verdicts) c (verdict_told docs makes matches root h),
  )

  pub are_faults : AreFaults shape finds nodes table start d
  are_faults docs makes matches root h = faults_are docs makes matches root h

  pub have_certificates : HaveCertificates shape finds nodes table start d
  have_certificates docs makes matches root h f t = fault_certified docs makes matches root h f t

  -- ---- what the engine says

  -- what holds of the cut reading by all keys holds of the answer
  pub answered : {A : Type 0} (t : Telling ℕ A) (P : A → Type 0)
      → ((all : List Key) → AreAll (reading_of shape reads nodes) start (whole d) all → P (cut t (reading_of shape reads nodes) all [] start (whole d)))
      → P (answer_by shape finds nodes table start d t)
  unfolding answer_by
  answered t P told = told (keys_below (length nodes) d) (all_keys shape reads nodes sound d start)

  -- there are none of the faults just where the verdict is yes
  pub agrees : Agree shape finds nodes table start d
  unfolding answer_by
  agrees = cut_agrees ℕ (reading_of shape reads nodes) (keys_below (length nodes) d) [] start (whole d)
