-- What nothing wrong below a site says of its rows.
use Rattle.std.proofs.Common.{◌≡◌, ◌≤◌, List, [], ◌∷◌, Bool, refl}
use Rattle.serde_json.specs.Data.{Data, depth}
use Rattle.schema_meaning.specs.Members.{In, first}
use Rattle.schema_meaning.specs.Places.{whole, value_after}
use Rattle.schema_meaning.specs.Questions.{Question}
use Rattle.schema_meaning.specs.Rules.{asks}
use Rattle.schema_meaning.specs.Keywords.{Shape, rule}
use Rattle.schema_meaning.specs.Readings.{verdicts, Asks, IsTold}
use Rattle.schema_meaning.specs.Circular.{IsCircular}
use Rattle.schema_meaning.specs.Cut.{cut}
use Rattle.schema_definitions.specs.Sites.{Site}
use Rattle.schema_definitions.specs.Rows.{BuildCause, Row, rows_at}
use Rattle.schema_definitions.specs.BuildCauses.{at_root, by_keyword, IsCauseOf}
use Rattle.schema_definitions.specs.Plain.{deepest}
use Rattle.schema_definitions.specs.AllKeys.{keys_of}
use Rattle.meaning_laws.proofs.Decided.{cut_is_decided}
use Rattle.meaning_laws.proofs.Obliged.{in_map}
use Rattle.reading_laws.proofs.Nested.{nested}
use Rattle.reading_laws.proofs.PlainKeys.{all_keys}
use Rattle.reading_laws.proofs.Reaching.{row_cause}
use Rattle.plain_reader.specs.Verdicts.{AreRead}
use Rattle.plain_reader.proofs.Reading.{reached_on}
use Rattle.certificate_laws.proofs.Straight.{circular_above}
use Rattle.certificate_laws.proofs.Begun.{rules_stand}
use Rattle.fault_checks.specs.Scenes.{Scene, reading_of, IsRight, IsStraight}

none_in : {A : Type 0} (xs : List A) → ((x : A) → In x xs → ⊥) → xs ≡ []
none_in [] h = refl
none_in (x ∷ xs) h = elim (h x first) [ ]

module _ (x : Scene) where
  pub right_read : (s : Site) → IsRight x s → AreRead x.documents x.makes s
  right_read s r = record {
    right = λ t reached row i. none_in row.causes (λ cause j. r.none cause (record { site = t; reached = reached; wrong = row_cause x.documents x.makes t row cause i j }));
  }

  cause_above : (s : Site) (row : Row) (t : Site) → In row (rows_at x.documents x.makes s) → In t row.leads → (cause : BuildCause)
      → IsCauseOf x.documents x.makes t cause → IsCauseOf x.documents x.makes s cause
  cause_above s row t i j cause w =
      record { site = w.site; reached = reached_on x.documents x.makes s t w.site (by_keyword row t at_root i j) w.reached; wrong = w.wrong }

  -- nothing is wrong below a site that a row leads to
  pub right_on : (s : Site) (row : Row) (t : Site) → IsRight x s → In row (rows_at x.documents x.makes s) → In t row.leads → IsRight x t
  right_on s row t r i j = record { none = λ cause h. r.none cause (cause_above s row t i j cause h) }

  pub no_cause : (s : Site) (row : Row) (cause : BuildCause) → IsRight x s → In row (rows_at x.documents x.makes s) → In cause row.causes → ⊥
  no_cause s row cause r i j = r.none cause (record { site = s; reached = at_root; wrong = row_cause x.documents x.makes s row cause i j })

  -- where no references come back, the cut reading's verdict is the decided one
  pub told_there : (s : Site) (d : Data) → depth s.contents ≤ deepest x.documents → IsStraight x s d
      → IsTold verdicts (reading_of x) s (whole d) (cut verdicts (reading_of x) (keys_of x.documents d) [] s (whole d))
  unfolding nested
  told_there s d shallow straight = record {
    unfoldings = _;
    is = cut_is_decided Site Bool verdicts (reading_of x) s (whole d) (keys_of x.documents d) (nested x.documents x.makes x.matches) shallow
        (all_keys x.documents x.makes x.matches s d) straight;
  }

  -- ---- a row of a site

  pub row_asks : (s : Site) (row : Row) (d : Data) (shape : Shape Site) (q : Question Site) → In row (rows_at x.documents x.makes s) → In shape row.shapes
      → In q (asks (rule x.matches d shape)) → Asks (reading_of x) s (whole d) q
  row_asks s row d shape q i j h = record {
    keyword = rule x.matches d shape;
    stands = rules_stand x.documents x.makes x.matches s row d i (rule x.matches d shape) (in_map (rule x.matches d) shape row.shapes j);
    asked = h;
  }

  -- where references come back below a question, they do where it is asked
  pub asked_back : (s : Site) (row : Row) (d : Data) (shape : Shape Site) (q : Question Site) → In row (rows_at x.documents x.makes s) → In shape row.shapes
      → In q (asks (rule x.matches d shape)) → IsCircular (reading_of x) q.site (whole (value_after d q.step)) → IsCircular (reading_of x) s (whole d)
  asked_back s row d shape q i j h circular = circular_above (reading_of x) s d q (row_asks s row d shape q i j h) circular
