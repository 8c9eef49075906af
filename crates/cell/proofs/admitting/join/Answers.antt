use Rattle.cell.specs.Admitting.{joined_words, joined_numbers}
use Rattle.cell.proofs.admitting.join.Goals as goal

pub returns-clause-words : goal.returns-clause-words
unfolding joined_words
returns-clause-words c = rw (c.store.ensures, c.words.ensures, c.count_in-n.ensures)

pub returns-clause-numbers : goal.returns-clause-numbers
unfolding joined_numbers
returns-clause-numbers c = rw (c.store-2.ensures, c.numbers.ensures, c.count_in-n.ensures)
