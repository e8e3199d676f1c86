-- The first step of a certificate, by the texts of its paths.
use Rattle.std.proofs.Common.{◌≡◌, ◌∙◌, ◌++◌, ℕ, List, [], Bool, false, refl, sym, ap, subst, append-nil}
use Rattle.serde_json.specs.Data.{Data}
use Rattle.json_values.specs.Parts.{Part}
use Rattle.schema_meaning.specs.Members.{In}
use Rattle.schema_meaning.specs.Places.{Spot, whole, value_after, path_after}
use Rattle.schema_meaning.specs.Questions.{asked_at}
use Rattle.schema_meaning.specs.Rules.{Rule, refuses_at}
use Rattle.schema_meaning.specs.Readings.{Reading, rules, IsTold, verdicts}
use Rattle.schema_meaning.specs.Certificates.{Certificate, ends, leads}
use Rattle.meaning_laws.proofs.Refuses.{certificate_refuses}
use Rattle.schema_definitions.specs.PathTexts.{path_text}
use Rattle.certificate_laws.specs.Spelled.{AreSpelled, AreSpelledBy, refuses, goes}
use Rattle.certificate_laws.proofs.Parts.{path_text-append}
use Rattle.certificate_laws.proofs.Values.{answers_same}
use Rattle.certificate_laws.proofs.Shifted.{Moved, moved}

module _ {S : Type 0} (r : Reading S) where
  bare : (s : S) (w : Spot) (i j e f : List Part) → i ≡ j → e ≡ f → Certificate r s w i e → Certificate r s w j f
  bare s w i j e f p q c = subst (λ x. Certificate r s w x f) p (subst (λ y. Certificate r s w i y) q c)

  opened : (s : S) (w : Spot) (i e : List Part) → w.path ≡ [] → w.road ≡ [] → Certificate r s w i e
      → AreSpelledBy r w.value (rules r s w.value) (path_text i) (path_text e)
  opened s w _ _ at on (ends k bs j a wrong) =
      refuses k bs j (answers_same r w (whole w.value) k bs refl a) wrong (ap path_text at) (ap path_text (ap (λ x. refuses_at k bs ++ x) on ∙ append-nil (refuses_at k bs)))
  opened s w i e at on (leads k bs q j a o c) =
      let m : Moved r q.site (asked_at w q) (whole (value_after w.value q.step)) i e = moved r q.site (asked_at w q) (whole (value_after w.value q.step)) i e refl c in
      let under : AreSpelled r q.site (value_after w.value q.step) (path_text m.instance) (path_text m.evaluation) = record {
        instance_path = m.instance ++ [];
        evaluation_path = m.evaluation ++ [];
        chain = m.chain;
        instance_text = ap path_text (sym (append-nil m.instance));
        evaluation_text = ap path_text (sym (append-nil m.evaluation));
      } in
      goes k bs q (path_text m.instance) (path_text m.evaluation) j (answers_same r w (whole w.value) k bs refl a) o under
      (ap path_text (m.instance_is ∙ ap (λ x. m.instance ++ path_after x q.step) at) ∙ path_text-append m.instance (path_after [] q.step))
      (ap path_text (m.evaluation_is ∙ ap (λ x. m.evaluation ++ (q.added ++ x)) on ∙ ap (λ x. m.evaluation ++ x) (append-nil q.added)) ∙ path_text-append m.evaluation q.added)

  -- what is spelled is spelled by a keyword that stands there
  pub first_step : (s : S) (d : Data) (i e : List ℕ) → AreSpelled r s d i e → AreSpelledBy r d (rules r s d) i e
  first_step s d i e h =
      subst (λ x. AreSpelledBy r d (rules r s d) x e) (sym h.instance_text)
      (subst (λ y. AreSpelledBy r d (rules r s d) (path_text h.instance_path) y) (sym h.evaluation_text)
      (opened s (whole d) h.instance_path h.evaluation_path refl refl h.chain))

  -- and back
  pub from_step : (s : S) (d : Data) (ks : List (Rule S)) (i e : List ℕ) → ((k : Rule S) → In k ks → In k (rules r s d)) → AreSpelledBy r d ks i e → AreSpelled r s d i e
  from_step s d ks i e among (refuses k bs j a wrong at on) = record {
    instance_path = [];
    evaluation_path = refuses_at k bs ++ [];
    chain = ends k bs (among k j) a wrong;
    instance_text = at;
    evaluation_text = on ∙ ap path_text (sym (append-nil (refuses_at k bs)));
  }
  from_step s d ks i e among (goes k bs q x y j a o under at on) =
      let m : Moved r q.site (whole (value_after d q.step)) (asked_at (whole d) q) under.instance_path under.evaluation_path =
      moved r q.site (whole (value_after d q.step)) (asked_at (whole d) q) under.instance_path under.evaluation_path refl under.chain in
      record {
        instance_path = m.instance ++ path_after [] q.step;
        evaluation_path = m.evaluation ++ (q.added ++ []);
        chain = leads k bs q (among k j) a o m.chain;
        instance_text =
            at ∙ ap (λ t. path_text (path_after [] q.step) ++ t) (under.instance_text ∙ ap path_text (m.instance_is ∙ append-nil m.instance))
            ∙ sym (path_text-append m.instance (path_after [] q.step));
        evaluation_text =
            on ∙ ap (λ t. path_text q.added ++ t) (under.evaluation_text ∙ ap path_text (m.evaluation_is ∙ append-nil m.evaluation))
            ∙ sym (path_text-append m.evaluation q.added) ∙ ap (λ x. path_text (m.evaluation ++ x)) (sym (append-nil q.added));
      }

  pub spelled_refuses : (s : S) (d : Data) (i e : List ℕ) (b : Bool) → AreSpelled r s d i e → IsTold verdicts r s (whole d) b → b ≡ false
  spelled_refuses s d i e b h told = certificate_refuses S r s (whole d) h.instance_path h.evaluation_path b h.chain told
