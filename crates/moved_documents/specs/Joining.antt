-- What is answered where a document is to be put inside another.
use Rattle.std.specs.Prelude.{◌≡◌, ℕ, List, Some, None}
use Rattle.serde_json.specs.Data.{Data, Members}
use Rattle.serde_json.specs.Find.{as_object}
use Rattle.serde_json.specs.View.{view}
use Rattle.moved_documents.specs.Forms.{moved_into, put_inside}
use Rattle.moved_documents.specs.declared.joining.Joined.{Joined}
use Rattle.moved_documents.specs.declared.joining.Joined.TheVariants.{Whole, NoObject, NotFresh}

-- the root is an object, and its `$defs` is none or has the name
pub record HasNoRoom (root moved : Data) (fresh : List ℕ) : Type 0 where
  pub members : Members
  pub is : as_object root ≡ Some members
  pub none : moved_into fresh moved members ≡ None

abbrev pub IsJoined : Data → Data → List ℕ → Joined → Type 0
IsJoined root moved fresh (Whole v) = put_inside fresh moved root ≡ Some (view v)
IsJoined root moved fresh NoObject = as_object root ≡ None
IsJoined root moved fresh NotFresh = HasNoRoom root moved fresh
