-- What the entry that asks hands back, beside the definitions of `extremes`. What is lent is kept on a refusal.
use Rattle.std.specs.Prelude.{ℕ, Err, Ok, Some, None}
use Rattle.extremes.specs.Entries.{Asked}

-- each lent number afterwards: 1 and the index, or 0 and 0 where none is above
abbrev pub found_over : Asked → ℕ → ℕ
found_over (Ok (Some i)) before = 1
found_over (Ok None) before = 0
found_over (Err r) before = before

abbrev pub index_over : Asked → ℕ → ℕ
index_over (Ok (Some i)) before = i
index_over (Ok None) before = 0
index_over (Err r) before = before
