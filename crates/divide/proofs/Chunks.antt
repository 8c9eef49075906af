-- The poses of lent numbers as chunks of six: the library's chunks beside the records of `rows`.
use Prim.Native.Nat.{ℕ, zero, suc}
use native.Mathlib.Omega.{arith}
use mathlib.Core.Path.{◌≡◌, refl}
use mathlib.Core.List.{List}
use lib.ListN.{take, drop}
use lib.Seq.{get_or-take}
use lib.Ieee.{Float, nan}
use Rattle.std.specs.List.{list_all}
use Rattle.std.specs.Simd.{first_chunks}
use Rattle.lists.specs.Rows.{rows}
use Rattle.lists.specs.Search.{all}
use Rattle.path.specs.Solving.{pose_from}
use Rattle.divide.specs.Checking.{tip_within}

front : (l : List Float) → tip_within (pose_from (take 6 l)) ≡ tip_within (pose_from l)
front l =
    rw (
      get_or-take 6 l 0 nan (omega arith),
      get_or-take 6 l 1 nan (omega arith),
      get_or-take 6 l 2 nan (omega arith),
      get_or-take 6 l 3 nan (omega arith),
      get_or-take 6 l 4 nan (omega arith),
      get_or-take 6 l 5 nan (omega arith),
    )

pub tips_of : (k : ℕ) (l : List Float) → list_all (λ (c : List Float). tip_within (pose_from c)) (first_chunks 6 k l) ≡ all tip_within (rows 6 pose_from k l)
unfolding rows all
tips_of zero l = refl
tips_of (suc k) l = rw (front l, tips_of k (drop 6 l))
