-- Storing the words that are left into the buffer as it is gives the whole.
use borrow.Author.Rules.{rules}
use native.Mathlib.Omega.{arith}
use lib.ListN.{length-set}
use Rattle.job.proofs.Reading.{words-again, words-done}
use Rattle.job.proofs.read_words.Goals as goal

pub loop-i-preserved : goal.loop-i-preserved
loop-i-preserved c = (omega arith, simp length-set (omega arith), search (words-again, rules))

pub returns : goal.returns
returns c = search (words-done, rules)
