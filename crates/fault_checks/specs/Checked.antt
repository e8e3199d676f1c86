-- What the answer of a check says of two paths.
use Rattle.std.specs.Prelude.{◌≡◌, ℕ, List, map, Bool, true, false, Option, Some, None, string_bytes}
use Rattle.serde_json.specs.Data.{Data}
use Rattle.schema_definitions.specs.Bearers.{Documents}
use Rattle.schema_definitions.specs.Lookup.{Target}
use Rattle.schema_definitions.specs.Sites.{root_site}
use Rattle.schema_definitions.specs.Rows as rows
use Rattle.schema_definitions.specs.BuildCauses.{IsCauseOf}
use Rattle.schema_patterns.specs.Read.{reads}
use Rattle.schema_patterns.specs.Tables.{AreMadeBy, texts_of_table}
use Rattle.schema_patterns.specs.declared.matches.Matches.{Matches}
use Rattle.schema_patterns.specs.declared.table.PatternTable.{PatternTable}
use Rattle.schema_patterns.specs.Texts.{texts_in}
use Rattle.json_values.specs.Patterns.{matched, known}
use Rattle.reading_laws.specs.Asked.{IsAsked, AreAmong}
use Rattle.schema_registries.specs.Roots.{Root, Patterns, Finds, IsSound, site_of_root}
use Rattle.schema_registries.specs.Answers.{Finish, ComesBack}
use Rattle.schema_registries.specs.Certified.{AreCertificate}
use Rattle.schema_registries.specs.Matched.{AreReadOf, HoldsPatterns}
use Rattle.reached_sites.specs.declared.cause.BuildCause.{BuildCause}
use Rattle.reached_sites.specs.declared.cause.BuildCause.TheVariants.{KeywordValue, BadPattern, Unevaluated, Reference, NodeLimit, Memory}
use Rattle.certificate_laws.specs.Spelled.{AreSpelled}
use Rattle.fault_checks.specs.Scenes.{Scene, reading_of, IsRight, IsStraight}
use Rattle.fault_checks.specs.Verdicts.{IsDecided}
use Rattle.fault_checks.specs.Passed.{IsPlaced, Resolved, documents_in, target_in}
use Rattle.fault_checks.specs.Circles.{RootComesBack}
use Rattle.fault_checks.specs.Finished.{leave_none}
use Rattle.fault_checks.specs.declared.reading.ReadMatches.{ReadMatches}
use Rattle.fault_checks.specs.declared.checking.FaultPath.{FaultPath}
use Rattle.fault_checks.specs.declared.checking.CheckAnswer.{CheckAnswer}
use Rattle.fault_checks.specs.declared.checking.CheckAnswer.TheVariants.{Accepted, Refused, Circular, Unfinished}

-- the answer of a walk from a root, by the matches that were read
pub record DecidesRoot (t : Target) (docs : Documents) (m : Matches) (d : Data) (instance evaluation : List ℕ) (b : Bool) : Type 0 where
  pub decides : (makes : List ℕ → Bool)
      → let x : Scene = record { documents = docs; makes = makes; matches = reads m } in
      IsRight x (root_site t) → IsStraight x (root_site t) d → IsDecided b (AreSpelled (reading_of x) (root_site t) d instance evaluation)

-- the same from what a reference leads to
abbrev pub DecidesAt : Resolved → Matches → Data → List ℕ → List ℕ → Bool → Type 0
DecidesAt root m d instance evaluation b = DecidesRoot (target_in root) (documents_in root.resolver) m d instance evaluation b

-- of each match that a value asks for these say what is known of it
pub record AgreeWithKnown (p : Patterns) (r : Root) (matches : List ℕ → List ℕ → Bool) (target : Target) (d : Data) : Type 0 where
  pub agree : (pattern text : List ℕ) → IsAsked r.documents p.makes (site_of_root r target) matches d pattern text
      → (answer : Bool) → known p.finished pattern text ≡ Some answer → matched matches pattern text ≡ answer

-- a match that a value asks for stays unfinished
pub record StaysUnfinished (p : Patterns) (r : Root) (matches : List ℕ → List ℕ → Bool) (target : Target) (d : Data) : Type 0 where
  pub pattern : List ℕ
  pub text : List ℕ
  pub asked : IsAsked r.documents p.makes (site_of_root r target) matches d pattern text
  pub unfinished : known p.finished pattern text ≡ None

-- where the matches finish and no references come back, two texts are accepted exactly where they are a certificate; by whatever matches agree with
-- what is known, references come back where it is said that they do, and a match stays unfinished where it is said that one does
pub record IsChecked (p : Patterns) (r : Root) (d : Data) (instance evaluation : List ℕ) (answer : CheckAnswer) : Type 0 where
  pub accepted : answer ≡ Accepted → (matches : List ℕ → List ℕ → Bool) (target : Target) → Finds r target → Finish p r matches target d
      → (ComesBack p r matches target d → ⊥) → AreCertificate p r matches target d instance evaluation
  pub refused : answer ≡ Refused → (matches : List ℕ → List ℕ → Bool) (target : Target) → Finds r target → Finish p r matches target d
      → (ComesBack p r matches target d → ⊥) → AreCertificate p r matches target d instance evaluation → ⊥
  pub circular : answer ≡ Circular → (matches : List ℕ → List ℕ → Bool) (target : Target) → Finds r target → AgreeWithKnown p r matches target d
      → ComesBack p r matches target d
  pub unfinished : answer ≡ Unfinished → (matches : List ℕ → List ℕ → Bool) (target : Target) → Finds r target → AgreeWithKnown p r matches target d
      → StaysUnfinished p r matches target d

-- the answer of a walk from a root, or that references come back there and every match finished
abbrev pub SaysRoot : Target → Documents → ReadMatches → Data → List ℕ → List ℕ → CheckAnswer → Type 0
SaysRoot t docs m d instance evaluation Accepted = DecidesRoot t docs m.matches d instance evaluation true
SaysRoot t docs m d instance evaluation Refused = DecidesRoot t docs m.matches d instance evaluation false
SaysRoot t docs m d instance evaluation Circular = RootComesBack t docs m.matches d × (leave_none m.matches (map string_bytes m.patterns.items) (texts_in d) ≡ true)
SaysRoot t docs m d instance evaluation Unfinished = ⊥

-- the same from what a reference leads to
abbrev pub SaysAt : Resolved → ReadMatches → Data → List ℕ → List ℕ → CheckAnswer → Type 0
SaysAt root m d instance evaluation answer = SaysRoot (target_in root) (documents_in root.resolver) m d instance evaluation answer

-- of the two paths of a fault, where a build takes the root
abbrev pub AnswersPath : Patterns → Root → Data → FaultPath → CheckAnswer → Type 0
AnswersPath p r d path answer = IsSound p r → IsChecked p r d path.instance_path.now path.evaluation_path.now answer

-- the matches of these patterns in a value, which hold those reached from a root
pub record AreReadFrom (p : Patterns) (r : Root) (d : Data) (m : ReadMatches) : Type 0 where
  pub read : AreReadOf p r d m.matches
  pub hold : HoldsPatterns p r (map string_bytes m.patterns.items)

-- what a check of the faults of a value goes by: the matches of the patterns reached from a root, and none where no build takes the root
abbrev pub AreReadIn : Patterns → Root → Data → Option ReadMatches → Type 0
AreReadIn p r d None = IsSound p r → ⊥
AreReadIn p r d (Some m) = AreReadFrom p r d m

-- patterns that are made hold those reached from a root
pub record HoldsMade {M : Type 0} (finds : M → List ℕ → Option Bool) (p : Patterns) (r : Root) (table : PatternTable M) : Type 0 where
  pub hold : HoldsPatterns p r (texts_of_table table)
  pub made : AreMadeBy finds p.finished table

-- what matches of any value are read by; there are none where no build takes the root
abbrev pub AreReached : {M : Type 0} → (M → List ℕ → Option Bool) → Patterns → Root → Option (PatternTable M) → Type 0
AreReached finds p r None = IsSound p r → ⊥
AreReached finds p r (Some table) = HoldsMade finds p r table

-- the answer for the two paths of a fault by matches that were read of the value
abbrev pub AnswersBy : Option ReadMatches → Root → Data → FaultPath → CheckAnswer → Type 0
AnswersBy matches r d path answer = (p : Patterns) → AreReadIn p r d matches → AnswersPath p r d path answer

-- whether a refusal names a cause at the schemas, and not want of memory or too many compile keys
abbrev pub is_of_schemas : BuildCause → Bool
is_of_schemas (KeywordValue place expected found) = true
is_of_schemas (BadPattern place pattern) = true
is_of_schemas (Unevaluated place) = true
is_of_schemas (Reference place reference error) = true
is_of_schemas (NodeLimit limit) = false
is_of_schemas Memory = false

pub record HasCauseAt (p : Patterns) (docs : Documents) (t : Target) : Type 0 where
  pub cause : rows.BuildCause
  pub stands : IsCauseOf docs p.makes (root_site t) cause

-- patterns that are made hold those of the schemas reached from a target; there are none where a schema there is wrong
pub record HoldsReached {M : Type 0} (finds : M → List ℕ → Option Bool) (p : Patterns) (docs : Documents) (t : Target) (table : PatternTable M) : Type 0 where
  pub among : AreAmong docs p.makes (root_site t) (texts_of_table table)
  pub made : AreMadeBy finds p.finished table

abbrev pub HoldsAt : {M : Type 0} → (M → List ℕ → Option Bool) → Patterns → Documents → Target → Option (PatternTable M) → Type 0
HoldsAt finds p docs t None = HasCauseAt p docs t
HoldsAt finds p docs t (Some table) = HoldsReached finds p docs t table

-- from what a reference leads to, where that is placed in the documents
abbrev pub HoldsPlaced : {M : Type 0} → (M → List ℕ → Option Bool) → Patterns → Resolved → Option (PatternTable M) → Type 0
HoldsPlaced finds p root table = IsPlaced (documents_in root.resolver) (target_in root) → HoldsAt finds p (documents_in root.resolver) (target_in root) table
