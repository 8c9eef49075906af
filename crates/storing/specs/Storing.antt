-- A list, part of which is replaced by another.
use Prim.Native.Nat.{ℕ, ◌+◌}
use mathlib.Core.List.{List, ◌++◌}
use lib.ListN.{length, take, drop}

-- elements stored from an index on
unfoldable pub stored_at : {A : Type 0} → List A → ℕ → List A → List A
stored_at l at v = take at l ++ (v ++ drop (at + length v) l)
