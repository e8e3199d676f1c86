-- What walks at the names of an object come to.
use Rattle.std.specs.Prelude.{◌≡◌, ℕ, List, Bool}
use Rattle.serde_json.specs.Data.{Data, string}
use Rattle.serde_json.specs.View.{view}
use Rattle.json_values.specs.Parts.{Part}
use Rattle.schema_meaning.specs.Members.{In}
use Rattle.schema_meaning.specs.Questions.{names_of}
use Rattle.schema_definitions.specs.Scopes.{entered_scope}
use Rattle.schema_definitions.specs.Sites.{Site, below}
use Rattle.fault_checks.specs.Passed.{documents_at, Stands, base_of, scope_of}
use Rattle.fault_checks.specs.Scenes.{Scene, IsRight, Meets, IsStraight}
use Rattle.fault_checks.specs.Verdicts.{IsDecided}
use Rattle.fault_checks.specs.declared.walk.Walk.{Walk}
use Rattle.fault_checks.specs.declared.walk.AtNames.{AtNames}
use Rattle.fault_checks.specs.Steps.{names_site, IsLeftAt, SomeLeft}

-- the walk at the text of a name
pub record IsAtName (n : AtNames) (d : Data) (v : Walk) : Type 0 where
  pub contents : view v.site.contents.now ≡ view n.schema.now
  pub documents : documents_at v.site ≡ documents_at n.walk.site
  pub scope : scope_of v.site.resolver ≡ entered_scope (base_of v.site.resolver) (base_of n.walk.site.resolver) (scope_of n.walk.site.resolver)
  pub stands : (s : Site) (added : List Part) → Stands n.walk.site s → Stands v.site (below (documents_at n.walk.site) s added (view n.schema.now))
  pub matches : v.site.matches ≡ n.walk.site.matches
  pub value : view v.value.now ≡ d
  pub instance : v.instance ≡ n.walk.instance
  pub evaluation : v.evaluation ≡ n.evaluation

-- whether what is left is spelled at a name, where no references come back there
pub record IsLeftAtName (n : AtNames) (k : List ℕ) (b : Bool) : Type 0 where
  pub decides : (x : Scene) (s : Site) → Meets n.walk.site x s → IsRight x (names_site x n s) → IsStraight x (names_site x n s) (string k) → IsDecided b (IsLeftAt x n s k)

-- whether it is at some name of the object
pub record IsLeftAtSome (n : AtNames) (b : Bool) : Type 0 where
  pub decides : (x : Scene) (s : Site) → Meets n.walk.site x s → IsRight x (names_site x n s)
      → ((k : List ℕ) → In k (names_of (view n.walk.value.now)) → IsStraight x (names_site x n s) (string k)) → IsDecided b (SomeLeft x n s)
