-- A value and the same with a document put inside it: members that are told apart by one name alone.
use Rattle.std.proofs.Common.{◌≡◌, ◌∙◌, ℕ, List, [], Bool, true, false, ◌||◌, if◌then◌else◌, bytes_eq, codes, Option, Some, None, is_some, option_map, option_and_then, Ordering, Less, Equal, Greater, nat_cmp, refl, sym, ap, subst}
use Rattle.std.proofs.lemmas.Cmp.{nat_list_cmp_total, tied_itself}
use Rattle.std.proofs.lemmas.Slice.Eq.{bytes_eq-Decides}
use Rattle.std.specs.Cmp.{first_so}
use Rattle.std.specs.Cmp.Lexicographic.{slice_cmp}
use Rattle.std.specs.Ordering.{match_ordering}
use Rattle.serde_json.specs.Data.{Data, object, Members, no_members, member, put}
use Rattle.serde_json.specs.Find.{get, get_member}
use Rattle.json_values.specs.Equality.{rises_from}
use Rattle.json_values.specs.Rising.{rises, are_rising, members_rise}
use Rattle.json_values.proofs.Names.{get_same, get_other, get_less, get_greater, name_same}
use Rattle.json_values.proofs.Kept.{first_rise, rises_before, behind_none}
use Rattle.schema_drafts.specs.Children.{is_schema}
use Rattle.schema_drafts.specs.Counts.{is_keyword, is_known}
use Rattle.schema_drafts.specs.declared.draft.Draft.{Draft}
use Rattle.schema_drafts.specs.declared.draft.Draft.TheVariants.{Draft201909, Draft202012}
use Rattle.document_laws.proofs.Inside.{itself, member_inside, held_found}
use Rattle.moved_documents.specs.Forms.{definitions, put_anew, with_definitions, moved_into}
use Rattle.moved_documents.specs.Premises.{IsFresh}
use Rattle.moved_documents.specs.Linked.{Changed, set_new, set_again, further, Extended, made, grown, Near, unmoved, at_definitions, at_root}

-- ---- members of which one has another value, or is further

module _ {k : List ℕ} {e : Data} where
  pub others_stay : {o : Option Data} {ms ns : Members} → Changed k e o ms ns → (j : List ℕ) → (j ≡ k → ⊥) → get_member j ns ≡ get_member j ms
  others_stay (set_new {ms = ms}) j apart = get_other j k e ms apart
  others_stay (set_again {d = d} {ms = ms}) j apart = get_other j k e ms apart ∙ sym (get_other j k d ms apart)
  others_stay (further {l = l} {d = d} {ms = ms} {ns = ns} x h) j apart =
      ap (λ g. match_ordering (slice_cmp nat_cmp j l) g (Some d) g) (others_stay h j apart)

  pub is_there : {o : Option Data} {ms ns : Members} → Changed k e o ms ns → get_member k ns ≡ Some e
  is_there (set_new {ms = ms}) = get_same k k e ms refl
  is_there (set_again {d = d} {ms = ms}) = get_same k k e ms refl
  is_there (further {l = l} {d = d} {ms = ms} {ns = ns} x h) = get_other k l d ns x ∙ is_there h

-- what is put among members that rise
rising_rest : (k : List ℕ) (ms : Members) → rises_from k ms ≡ true → are_rising ms ≡ true
rising_rest k no_members h = refl
rising_rest k (member l e ms) h = (first_rise k l e ms h).1

module _ (k : List ℕ) (e : Data) where
  pub put_changed : (ms : Members) (o : Option Data) → get_member k ms ≡ o → are_rising ms ≡ true → Changed k e o ms (put k e ms)
  put_changed no_members o g r = subst (λ x. Changed k e x no_members (member k e no_members)) g set_new
  put_changed (member l d ms) o g r = by (put_changed ms o) (slice_cmp nat_cmp k l) refl
    where
      by : (get_member k ms ≡ o → are_rising ms ≡ true → Changed k e o ms (put k e ms))
          → (c : Ordering) → slice_cmp nat_cmp k l ≡ c → Changed k e o (member l d ms) (match_ordering c (member k e (member l d ms)) (member l e ms) (member l d (put k e ms)))
      by rest Less is =
          let none : o ≡ None = sym g ∙ get_less k l d ms is ∙ behind_none k ms (rises_before k l ms is r) in
          subst (λ x. Changed k e x (member l d ms) (member k e (member l d ms))) (sym none) set_new
      by rest Equal is =
          let same : k ≡ l = name_same k l is in
          let some : Some d ≡ o = sym (get_same k l d ms same) ∙ g in
          subst (λ (x : Option Data). Changed k e x (member l d ms) (member l e ms)) some
          (subst (λ n. Changed k e (Some d) (member n d ms) (member n e ms)) same set_again)
      by rest Greater is =
          further (λ same. (let no : Equal ≡ Greater = sym (tied_itself nat_list_cmp_total k) ∙ ap (slice_cmp nat_cmp k) same ∙ is in absurd (cc)))
          (rest (sym (get_greater k l d ms is) ∙ g) (rising_rest l ms r))

-- ---- what is read by name

-- a name of the drafts, and not `$defs`
abbrev pub is_looked : List ℕ → Bool
is_looked j = is_known Draft201909 j || is_known Draft202012 j

neither : (a b : Bool) → a ≡ false → b ≡ false → (a || b) ≡ true → ⊥
neither a b e f g = (let no : false ≡ true = sym (rw (e, f) refl) ∙ g in absurd (cc))

module _ (fresh : List ℕ) (moved : Data) (is_fresh : IsFresh fresh) where
  pub looked_apart : (j : List ℕ) → is_looked j ≡ true → j ≡ fresh → ⊥
  looked_apart j known e =
      neither (is_known Draft201909 fresh) (is_known Draft202012 fresh) (is_fresh Draft201909) (is_fresh Draft202012) (ap is_looked (sym e) ∙ known)

  named_apart : (j l : List ℕ) → bytes_eq j l ≡ false → j ≡ l → ⊥
  named_apart j l e same = (let no : true ≡ false = sym ((bytes_eq-Decides j l).1 same) ∙ e in absurd (cc))

  pub looked_same : (j : List ℕ) → is_looked j ≡ true → bytes_eq j (codes "$defs") ≡ false → (d e : Data) → Near fresh moved d e → get j e ≡ get j d
  looked_same j known other _ _ unmoved = refl
  looked_same j known other _ _ (at_definitions none h) = others_stay h j (looked_apart j known)
  looked_same j known other _ _ (at_root is x h) = others_stay h j (named_apart j (codes "$defs") other)

  -- the fresh name counts in no dialect
  pub never_keyword : (draft : Draft) → is_keyword draft fresh ≡ false
  never_keyword draft = first_not (is_keyword draft fresh) _ (is_fresh draft)
    where
      first_not : (a b : Bool) → (a || b) ≡ false → a ≡ false
      first_not true b e = e
      first_not false b e = refl

  pub near_schema : (d e : Data) → Near fresh moved d e → is_schema e ≡ is_schema d
  near_schema _ _ unmoved = refl
  near_schema _ _ (at_definitions none h) = refl
  near_schema _ _ (at_root is x h) = refl

-- ---- the root with the moved document inside

module _ (fresh : List ℕ) (moved : Data) (ms : Members) (rise : rises (object ms) ≡ true) where
  pub record Inside (whole : Data) : Type 0 where
    pub old : Option Data
    pub new : Members
    pub members : Members
    pub is : get_member (codes "$defs") ms ≡ old
    pub extended : Extended fresh moved old new
    pub changed : Changed (codes "$defs") (object new) old ms members
    pub value : object members ≡ whole

  ms_rise : are_rising ms ≡ true
  ms_rise = first_so (are_rising ms) (members_rise ms) rise

  by_definitions : (o : Option Data) → get_member (codes "$defs") ms ≡ o → (es : Members) → Extended fresh moved o es → (whole : Data)
      → Some (with_definitions ms es) ≡ Some whole → Inside whole
  by_definitions o is es x whole e = record {
    old = o;
    new = es;
    members = put (codes "$defs") (object es) ms;
    is = is;
    extended = x;
    changed = put_changed (codes "$defs") (object es) ms o is ms_rise;
    value = cc;
  }

  among : (ds : Members) → get_member (codes "$defs") ms ≡ Some (object ds) → (o : Option Data) → get_member fresh ds ≡ o → (whole : Data)
      → option_map (with_definitions ms) (if is_some o then None else Some (put fresh moved ds)) ≡ Some whole → Inside whole
  among ds is (Some d) there whole e = (let no : None ≡ Some whole = e in absurd (cc))
  among ds is None there whole e =
      let inside = member_inside (object ms) [] ms (codes "$defs") (object ds) (itself (object ms)) (held_found (codes "$defs") (object ds) ms is) in
      let rising : are_rising ds ≡ true = first_so (are_rising ds) (members_rise ds) (inside.rising rise) in
      by_definitions (Some (object ds)) is (put fresh moved ds) (grown there (put_changed fresh moved ds None there rising)) whole e

  under : (o : Option Data) → get_member (codes "$defs") ms ≡ o → (whole : Data)
      → option_map (with_definitions ms) (option_and_then (put_anew fresh moved) (definitions o)) ≡ Some whole → Inside whole
  under None is whole e = by_definitions None is (member fresh moved no_members) made whole e
  under (Some (object ds)) is whole e = among ds is (get_member fresh ds) refl whole e
  under (Some d) is whole e = (let no : None ≡ Some whole = e in absurd (cc))

  pub root_inside : (whole : Data) → moved_into fresh moved ms ≡ Some whole → Inside whole
  root_inside whole e = under (get_member (codes "$defs") ms) refl whole e
