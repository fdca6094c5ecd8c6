-- What is read is the definition's.
use Rattle.job.proofs.Reading.{read_some}
use Rattle.job.proofs.read_job.Goals as goal

pub returns-clause-read : goal.returns-clause-read
returns-clause-read c =
    read_some _ _ _ _ c.is_job.ensures c.if-not-is_job.false _ _ _ _ _ _
    c.word_at-starts.ensures c.word_at-spills.ensures c.word_at-targets.ensures
    c.word_at.ensures c.word_at-2.ensures c.word_at-3.ensures
    c.read_words.ensures c.read_words-2.ensures c.read_words-3.ensures
