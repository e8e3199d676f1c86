-- Among documents whose names are apart, one place holds one value.
use Rattle.std.proofs.Common.{◌≡◌, ℕ, List, [], ◌∷◌, Bool, true, false, ◌||◌, not, ◌&&◌, Some, refl, sym, ap, ◌∙◌, subst, reverse}
use Rattle.std.proofs.lemmas.Slice.Eq.{bytes_eq-Decides}
use Rattle.std.specs.Cmp.{first_so, second_so}
use Rattle.std.specs.List.{list_any, list_all}
use Rattle.std.specs.Prelude.{bytes_eq}
use Rattle.serde_json.specs.Data.{Data}
use Rattle.json_values.specs.Parts.{Part}
use Rattle.json_values.specs.Pointers.{value_at}
use Rattle.schema_meaning.specs.Members.{In, first, later}
use Rattle.schema_definitions.specs.Bearers.{Document, Documents, document_name}
use Rattle.json_values.specs.Rising.{rises}
use Rattle.document_laws.specs.TargetLaws.{are_apart, contents_rise, ContentsAreOne}
use Rattle.document_laws.proofs.Origins.{Origin}
use Rattle.document_laws.proofs.TargetsLooked.{target_comes_of}

name_among : (d e : Document) (ds : List Document) → In e ds → document_name d ≡ document_name e → list_any (λ x. bytes_eq (document_name d) (document_name x)) ds ≡ true
name_among d e [] i same = elim i [ ]
name_among d e (x ∷ ds) first same = (let here = (bytes_eq-Decides (document_name d) (document_name e)).1 same in rw here refl)
name_among d e (x ∷ ds) (later i) same = so_too (bytes_eq (document_name d) (document_name x)) (list_any (λ y. bytes_eq (document_name d) (document_name y)) ds) (name_among d e ds i same)
  where
    so_too : (a b : Bool) → b ≡ true → (a || b) ≡ true
    so_too true b h = refl
    so_too false b h = h

not_among : (d e : Document) (ds : List Document) → (not (list_any (λ x. bytes_eq (document_name d) (document_name x)) ds) && are_apart ds) ≡ true → In e ds → document_name d ≡ document_name e → ⊥
not_among d e ds h i same =
    let lacks : not (list_any (λ x. bytes_eq (document_name d) (document_name x)) ds) ≡ true = first_so (not (list_any (λ x. bytes_eq (document_name d) (document_name x)) ds)) (are_apart ds) h in
    let no : false ≡ true = subst (λ b. not b ≡ true) (name_among d e ds i same) lacks in cc

pub same_document : (docs : Documents) → are_apart docs ≡ true → (d e : Document) → In d docs → In e docs → document_name d ≡ document_name e → d ≡ e
same_document [] h d e i j same = elim i [ ]
same_document (x ∷ docs) h d e first first same = refl
same_document (x ∷ docs) h d e first (later j) same = absurd (not_among d e docs h j same)
same_document (x ∷ docs) h d e (later i) first same = absurd (not_among e d docs h i (sym same))
same_document (x ∷ docs) h d e (later i) (later j) same =
    same_document docs (second_so (not (list_any (λ y. bytes_eq (document_name x) (document_name y)) docs)) (are_apart docs) h) d e i j same

pub each_rises : (docs : Documents) → list_all contents_rise docs ≡ true → (d : Document) → In d docs → rises d.contents ≡ true
each_rises [] h d i = elim i [ ]
each_rises (x ∷ docs) h d first = first_so (contents_rise d) (list_all contents_rise docs) h
each_rises (x ∷ docs) h d (later i) = each_rises docs (second_so (contents_rise x) (list_all contents_rise docs) h) d i

-- two values at one path of one document are the same
pub origins_agree : (docs : Documents) → are_apart docs ≡ true → list_all contents_rise docs ≡ true → (u v : List ℕ) (p q : List Part) (x y : Data)
    → Origin docs u p x → Origin docs v q y → u ≡ v → p ≡ q → x ≡ y
origins_agree docs apart rise u v p q x y a b same_name same_path =
    let one = same_document docs apart a.document b.document a.listed b.listed (a.named ∙ same_name ∙ sym b.named) in
    let value : Some x ≡ Some y =
    sym (a.inside.leads (each_rises docs rise a.document a.listed)) ∙ ap (λ (r : List Part). value_at (reverse r) a.document.contents) same_path
    ∙ ap (λ (d : Document). value_at (reverse q) d.contents) one ∙ b.inside.leads (each_rises docs rise b.document b.listed) in cc

pub contents_are_one : ContentsAreOne
contents_are_one docs apart rise t u e f same_name same_path =
    origins_agree docs apart rise t.document u.document t.path u.path t.contents u.contents
    (target_comes_of docs t e).origin (target_comes_of docs u f).origin same_name same_path
