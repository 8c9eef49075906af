-- Words of the search's inner functions, which go from group to group: where a group ends, and what is found in it. No
-- contract of an entry has them.
use Rattle.std.specs.Prelude.{cond, List, ℕ, ◌+◌, ◌-◌, ◌*◌, ◌/◌, ltb, Float, Option}
use Rattle.extremes.specs.Asking.{opened, above_at, first_index}
use Rattle.extremes.specs.Entries.{found_among}

-- the end of the group that begins at an index, among n joint sets
unfoldable pub group_end : ℕ → ℕ → ℕ
group_end from n = cond (ltb (n - from) 64) n (from + 64)

unfoldable pub in_group : ℕ → Float → List Float → List Float → ℕ → ℕ → ℕ
in_group rotary angle summary joints from end =
    cond (opened rotary angle summary (from / 64)) (first_index (above_at rotary angle joints) from (end - from)) end

-- the index that is found in a group of n joint sets
abbrev pub found_in_group : ℕ → Float → List Float → List Float → ℕ → ℕ → Option ℕ
found_in_group rotary angle summary joints n g =
    found_among (group_end (g * 64) n) (in_group rotary angle summary joints (g * 64) (group_end (g * 64) n))
