-- What a clause reads of a source that is watched.
use Rattle.line_cuts.specs.declared.watched.WatchedSource.{WatchedSource}

-- the source itself
abbrev pub source_watched : {S K C : Type 0} → WatchedSource S K C → S
source_watched s = s.inner
