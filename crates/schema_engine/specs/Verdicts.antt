-- What the engine answers: the verdicts of the cut reading of the graph.
use Rattle.std.specs.Prelude.{◌≡◌, ◌<◌, ◌≤◌, ◌+◌, ◌*◌, ℕ, suc, List, map, Bool, true, false, length, Option, Some, None}
use Rattle.serde_json.specs.Data.{Data, depth}
use Rattle.json_values.specs.Parts.{Part}
use Rattle.schema_meaning.specs.Members.{In}
use Rattle.schema_meaning.specs.Places.{Spot, Key, Step, stay, to_item, to_member, to_name, value_after}
use Rattle.schema_meaning.specs.Rules.{Rule, asks, accepts}
use Rattle.schema_meaning.specs.Readings.{Reading, verdicts}
use Rattle.schema_meaning.specs.Cut.{cut_asked, cut_within, is_in_progress}
use Rattle.schema_engine.specs.declared.node.Node.{Node}
use Rattle.schema_engine.specs.declared.place.Place.{Place}
use Rattle.schema_engine.specs.Graphs.{place_of, rank_at, highest}
use Rattle.schema_engine.specs.Led.{LedTo}
use Rattle.schema_engine.specs.Matches.{Matches}
use Rattle.schema_engine.specs.Places.{value_at, called_at}
use Rattle.schema_engine.specs.Progress.{is_among, left_below}
use Rattle.schema_engine.specs.Questions.{Call, question_of}

-- how deep questions may still go, the keys in progress, and the spot
pub record Setting : Type 0 where
  pub depth : ℕ
  pub keys : List Key
  pub spot : Spot

-- ---- what is told in a setting

abbrev pub node_in : Reading ℕ → ℕ → Setting → Bool
node_in r n x = cut_within verdicts r x.depth x.keys n x.spot

-- of a question of a node's keyword, and of the keyword
unfoldable pub asked_in : Reading ℕ → Setting → Call → Bool
asked_in r x c = cut_asked verdicts r (cut_within verdicts r x.depth) x.keys x.spot (question_of c)

unfoldable pub rule_in : Reading ℕ → Rule ℕ → Setting → Bool
rule_in r k x = accepts k (map (cut_asked verdicts r (cut_within verdicts r x.depth) x.keys x.spot) (asks k))

-- ---- which settings an answer is for

-- what is above, or is named where the other is not, is higher
abbrev pub one_if_some : {A : Type 0} → Option A → ℕ
one_if_some None = 0
one_if_some (Some a) = 1

abbrev pub height : List Part → Option (List ℕ) → ℕ
height path called = 2 * length path + one_if_some called

-- a node's number as the target of a reference at a spot
abbrev pub key_in : Spot → ℕ → Key
key_in w n = record { target = place_of n; path = w.path; called = w.called }

-- the setting's spot is the place, and its keys are those of these numbers there, and of places above
pub record Fits (p : Place) (progress : List ℕ) (x : Setting) : Type 0 where
  pub value : x.spot.value ≡ value_at p
  pub called : x.spot.called ≡ called_at p
  pub here : (n : ℕ) → is_in_progress (key_in x.spot n) x.keys ≡ is_among n progress
  pub above : (k : Key) → In k x.keys → height k.path k.called ≤ height x.spot.path x.spot.called

-- how many questions deep is enough: a value below is less deep, a reference takes a node that was not in progress, and schemas nest
abbrev pub size : {K : Type 0} → List (Node K) → Data → List ℕ → ℕ → ℕ
size nodes d progress rank = (depth d * suc (length nodes) + left_below (length nodes) progress) * suc (highest nodes) + rank

-- the answer is what is told in each setting that is deep enough
pub record Tells (p : Place) (progress : List ℕ) (enough : ℕ) (told : Setting → Bool) (b : Bool) : Type 0 where
  pub same : (x : Setting) → Fits p progress x → enough ≤ x.depth → b ≡ told x

-- the number is what is counted in each such setting
pub record Counts (p : Place) (progress : List ℕ) (enough : ℕ) (counted : Setting → ℕ) (n : ℕ) : Type 0 where
  pub same : (x : Setting) → Fits p progress x → enough ≤ x.depth → n ≡ counted x

-- the same, as deep as is enough from a keyword of a node on
abbrev pub TellsFrom : {K : Type 0} → List (Node K) → ℕ → Place → List ℕ → (Setting → Bool) → Bool → Type 0
TellsFrom nodes node p progress told b = Tells p progress (size nodes (value_at p) progress (rank_at nodes node)) told b

-- ---- what may be asked

abbrev pub GoesDown : Data → Step → Type 0
GoesDown d stay = Unit {0}
GoesDown d (to_item i e) = depth e < depth d
GoesDown d (to_member k e) = depth e < depth d
GoesDown d (to_name k) = 0 < depth d

-- a question of a keyword of a node of that rank, at that value
pub record MayAsk {K : Type 0} (m : Matches) (nodes : List (Node K)) (rank : ℕ) (d : Data) (c : Call) : Type 0 where
  pub below : c.node < length nodes
  pub falls : c.follows ≡ false → rank_at nodes c.node < rank
  pub stays : c.follows ≡ true → c.step ≡ stay
  pub down : GoesDown d c.step
  pub led : LedTo m c.node (value_after d c.step)

pub record EachMayAsk {K : Type 0} (m : Matches) (nodes : List (Node K)) (rank : ℕ) (d : Data) (calls : List Call) : Type 0 where
  pub each : (c : Call) → In c calls → MayAsk m nodes rank d c
