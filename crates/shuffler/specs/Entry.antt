-- What a run begins with.
use Rattle.scope.specs.Once.{Lent}
use Rattle.shuffler.specs.Held.{Holding}

-- what is held before the first counting
abbrev pub begins : Lent → Holding
begins e = record {
  tracked = record { stack = e.stack; first = e.first; filled = e.filled; written = e.written };
  words = e.words;
  spill = e.spill;
  complete = 0;
}
