-- A root that builds in both forms answers alike.
use Rattle.std.proofs.Common.{◌≡◌, ◌∙◌, ◌+◌, ◌≤◌, ℕ, List, Bool, Some, Ok, sym, ap, arith}
use Rattle.schema_meaning.specs.Places.{Spot, whole as whole_value}
use Rattle.schema_meaning.specs.Readings.{Reading, Telling, bags, told as told_by}
use Rattle.meaning_laws.proofs.Stays.{decided_stays}
use Rattle.schema_definitions.specs.Bearers.{Documents}
use Rattle.schema_definitions.specs.Lines.{faults_text}
use Rattle.schema_definitions.specs.Lookup.{Target, lookup}
use Rattle.schema_definitions.specs.Sites.{root_site}
use Rattle.schema_definitions.specs.Plain.{deepest, plain}
use Rattle.document_laws.proofs.TargetsLooked.{lookups_lie}
use Rattle.linked_meanings.proofs.RelatedAnswers.{related_alike}
use Rattle.linked_meanings.proofs.Certified.{related_told}
use Rattle.reading_laws.proofs.Nested.{nested}
use Rattle.moved_documents.specs.Forms.{added, inside}
use Rattle.moved_documents.specs.Laws.{InsideIsAdded}
use Rattle.moved_documents.specs.Linked.{Correspond}
use Rattle.moved_documents.proofs.Order.{one_text}
use Rattle.moved_documents.proofs.Linked.{inside_is_linked}

-- the root nests no deeper than the documents do
root_shallow : (docs : Documents) (makes : List ℕ → Bool) (matches : List ℕ → List ℕ → Bool) (base reference : List ℕ) (root : Target)
    → lookup docs base reference ≡ Ok root → (nested docs makes matches).rank (root_site root) ≤ deepest docs
unfolding nested
root_shallow docs makes matches base reference root e = (lookups_lie docs base reference root e).shallow

-- one answer is decided at most
one_answer : {S A : Type 0} (t : Telling S A) (r : Reading S) (n m : ℕ) (s : S) (w : Spot) (x y : A) → told_by t r n s w ≡ Some x → told_by t r m s w ≡ Some y → x ≡ y
one_answer {S} {A} t r n m s w x y e f =
    let more : n + m ≡ m + n = omega arith in
    let both : Some y ≡ Some x =
    sym (decided_stays S A t r n m s w y f) ∙ ap (λ (k : ℕ). told_by t r k s w) more ∙ decided_stays S A t r m n s w x e in cc

pub inside_is_added : InsideIsAdded
inside_is_added p draft whole can accepted makes base reference root other b c matches d =
    let r = plain (added p) makes matches in
    let u = plain (inside p whole) makes matches in
    let linked = (inside_is_linked p draft whole can accepted).readings makes base reference root other b c in
    let related = linked.sites matches in
    let told =
    related_told (Correspond p whole makes root other) r u related (root_site root) (root_site other) (whole_value d) linked.roots (nested (inside p whole) makes matches)
    (root_shallow (inside p whole) makes matches base reference other c.found) in
    record {
      verdicts = λ n. (related_alike (Correspond p whole makes root other) r u related n (root_site root) (root_site other) (whole_value d) linked.roots).0;
      faults = λ n. (related_alike (Correspond p whole makes root other) r u related n (root_site root) (root_site other) (whole_value d) linked.roots).1;
      decided = record { verdict = told.0; faults = told.1 };
      texts = λ fs gs h g.
          let k = told.1 fs h in
          let one : k.0 ≡ gs = one_answer bags u k.2.unfoldings g.unfoldings (root_site other) (whole_value d) k.0 gs k.2.is g.is in
          one_text fs k.0 k.1 ∙ ap faults_text one;
    }
