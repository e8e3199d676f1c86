-- The members of a map whose names rise.
use Rattle.std.proofs.Common.{◌≡◌, ◌∙◌, ℕ, List, true, None, Some, inl, inr, refl, sym, ap, subst}
use Rattle.serde_json.specs.Data.{Data, Members, no_members, member}
use Rattle.serde_json.specs.Find.{get_member}
use Rattle.json_values.specs.Equality.{rises_from}
use Rattle.json_values.proofs.Names.{get_same, get_other, found_at}
use Rattle.json_values.proofs.Kept.{first_rise, behind_none}
use Rattle.schema_meaning.specs.Members.{In, first, later}
use Rattle.schema_meaning.specs.Questions.{listed_members}
use Rattle.json_values.specs.Rising.{are_rising}

rising_rest : (k : List ℕ) (ms : Members) → rises_from k ms ≡ true → are_rising ms ≡ true
rising_rest k no_members h = refl
rising_rest k (member l e ms) h = (first_rise k l e ms h).1

apart : (k l : List ℕ) (ms : Members) (e : Data) → rises_from l ms ≡ true → get_member k ms ≡ Some e → k ≡ l → ⊥
apart k l ms e r h same =
    let none : get_member k ms ≡ None = ap (λ (n : List ℕ). get_member n ms) same ∙ behind_none l ms r in
    let no : None ≡ Some e = sym none ∙ h in cc

-- a member is the one that its name finds
pub listed_found : (k : List ℕ) (e : Data) (ms : Members) → are_rising ms ≡ true → In (k, e) (listed_members ms) → get_member k ms ≡ Some e
listed_found k e no_members r h = elim h [ ]
listed_found k e (member l d ms) r first = get_same k k e ms refl
listed_found k e (member l d ms) r (later h) =
    let g = listed_found k e ms (rising_rest l ms r) h in
    get_other k l d ms (apart k l ms e r g) ∙ g

pub found_listed : (k : List ℕ) (e : Data) (ms : Members) → get_member k ms ≡ Some e → In (k, e) (listed_members ms)
found_listed k e no_members g = (let no : None ≡ Some e = g in cc)
found_listed k e (member l d ms) g =
    elim (found_at k l d ms e g) [
      | inl s ↦ subst (λ n. In (n, e) (listed_members (member l d ms))) (sym s.0) (subst (λ x. In (l, x) (listed_members (member l d ms))) s.1 first)
      | inr s ↦ later (found_listed k e ms s)
    ]
