use Rattle.std.proofs.Common.{rules}
use Rattle.stack.proofs.Laws.{exchange_laid}
use Rattle.stack.proofs.EvmStack.exchange.Goals as goal

pub returns-clause-words : goal.returns-clause-words
returns-clause-words c = search (exchange_laid, rules)
