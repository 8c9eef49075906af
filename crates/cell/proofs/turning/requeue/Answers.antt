use Rattle.cell.proofs.Requeue.{over_words, over_numbers, still_words, still_numbers}
use Rattle.cell.proofs.turning.requeue.Goals as goal

pub returns-in_default : goal.returns-in_default
returns-in_default c = record {
  words = over_words c.args.words.now c.args.e c.args.outcome _ c.count_in-last.ensures _ _ c.in_default.is c.bring_forward.ensures c.leave.ensures.words;
  numbers = over_numbers c.args.words.now c.args.e c.args.outcome _ c.count_in-last.ensures _ _ _ c.in_default.is c.bring_forward-2.ensures c.leave.ensures.numbers;
}

pub returns : goal.returns
returns c = record {
  words = still_words c.args.words.now c.args.e c.args.outcome _ c.count_in-last.ensures c.in-Still.is c.with_machine-next.ensures _ _ _ c.bring_forward.ensures c.words.ensures c.store.ensures;
  numbers = still_numbers c.args.words.now c.args.e c.args.outcome _ c.count_in-last.ensures c.in-Still.is c.with_machine-next.ensures _ _ _ _ c.bring_forward-2.ensures c.numbers.ensures c.store-2.ensures;
}
