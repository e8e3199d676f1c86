-- A certificate depends on the value alone: its paths end in those of the spot where it begins.
use Rattle.std.proofs.Common.{◌≡◌, ◌∙◌, ◌++◌, List, [], refl, sym, ap, subst, append_assoc}
use Rattle.json_values.specs.Parts.{Part}
use Rattle.schema_meaning.specs.Members.{In}
use Rattle.schema_meaning.specs.Places.{Spot, Step, stay, to_item, to_member, to_name, path_after}
use Rattle.schema_meaning.specs.Questions.{asked_at}
use Rattle.schema_meaning.specs.Rules.{Rule, refuses_at}
use Rattle.schema_meaning.specs.Readings.{Reading, rules}
use Rattle.schema_meaning.specs.Certificates.{Certificate, ends, leads}
use Rattle.certificate_laws.proofs.Values.{answers_same, value_asked}

pub path_after-append : (p : List Part) (step : Step) → path_after p step ≡ path_after [] step ++ p
path_after-append p stay = refl
path_after-append p (to_item i e) = refl
path_after-append p (to_member k e) = refl
path_after-append p (to_name k) = refl

module _ {S : Type 0} (r : Reading S) where
  -- the same certificate from another spot with the value
  pub record Moved (s : S) (w v : Spot) (i e : List Part) : Type 0 where
    pub instance : List Part
    pub evaluation : List Part
    pub chain : Certificate r s v (instance ++ v.path) (evaluation ++ v.road)
    pub instance_is : i ≡ instance ++ w.path
    pub evaluation_is : e ≡ evaluation ++ w.road

  rules_same : (s : S) (w v : Spot) (k : Rule S) → w.value ≡ v.value → In k (rules r s w.value) → In k (rules r s v.value)
  rules_same s w v k same i = subst (λ d. In k (rules r s d)) same i

  pub moved : (s : S) (w v : Spot) (i e : List Part) → w.value ≡ v.value → Certificate r s w i e → Moved s w v i e
  moved s w v _ _ same (ends k bs i a wrong) = record {
    instance = [];
    evaluation = refuses_at k bs;
    chain = ends k bs (rules_same s w v k same i) (answers_same r w v k bs same a) wrong;
    instance_is = refl;
    evaluation_is = refl;
  }
  moved s w v i e same (leads k bs q j a o c) =
      let m = moved q.site (asked_at w q) (asked_at v q) i e (value_asked w v q same) c in
      let at : List Part = path_after [] q.step in
      let path : (x : List Part) → m.instance ++ path_after x q.step ≡ (m.instance ++ at) ++ x =
      λ x. ap (λ p. m.instance ++ p) (path_after-append x q.step) ∙ sym (append_assoc m.instance at x) in
      let road : (x : List Part) → m.evaluation ++ (q.added ++ x) ≡ (m.evaluation ++ q.added) ++ x = λ x. sym (append_assoc m.evaluation q.added x) in
      record {
        instance = m.instance ++ at;
        evaluation = m.evaluation ++ q.added;
        chain =
            subst (λ x. Certificate r s v x ((m.evaluation ++ q.added) ++ v.road)) (path v.path)
            (subst (λ y. Certificate r s v (m.instance ++ path_after v.path q.step) y) (road v.road)
            (leads k bs q (rules_same s w v k same j) (answers_same r w v k bs same a) o m.chain));
        instance_is = m.instance_is ∙ path w.path;
        evaluation_is = m.evaluation_is ∙ road w.road;
      }
