-- What is left to replay gives the verdict of the whole; a turn replays one record.
use Rattle.std.proofs.Common.{◌*◌, drop}
use Rattle.reader.specs.Promises.{records}
use Rattle.replay.specs.Promises.{lent_now, SameLoans}
use Rattle.replay.proofs.Laws.{Replaying}
use Rattle.replay.proofs.Replay.run.Given as goal

abbrev pub invariant-loop-index : goal.invariant-loop-index
invariant-loop-index l = SameLoans l.fn.self l.self
    × Replaying (lent_now l.fn.self l.start l.target l.ops) l.self (records (drop (2 * l.index) l.ops))
