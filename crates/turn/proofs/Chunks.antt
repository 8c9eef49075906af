-- The joint sets of lent numbers as chunks of five: the library's chunks beside the records of `rows`.
use Prim.Native.Nat.{ℕ, zero, suc}
use native.Mathlib.Omega.{arith}
use mathlib.Core.Path.{◌≡◌, refl}
use mathlib.Core.Bool.{Bool}
use mathlib.Core.List.{List}
use lib.ListN.{take, drop}
use lib.Seq.{get_or-take}
use lib.Ieee.{Float, nan}
use Rattle.std.specs.List.{list_all}
use Rattle.std.specs.Simd.{first_chunks}
use Rattle.lists.specs.Rows.{rows}
use Rattle.lists.specs.Search.{all}
use Rattle.chain.specs.declared.Joints.{Joints}
use Rattle.turn.specs.Items.{joints_from}

pub front : (l : List Float) → joints_from (take 5 l) ≡ joints_from l
front l =
    rw (
      get_or-take 5 l 0 nan (omega arith),
      get_or-take 5 l 1 nan (omega arith),
      get_or-take 5 l 2 nan (omega arith),
      get_or-take 5 l 3 nan (omega arith),
      get_or-take 5 l 4 nan (omega arith),
    )

pub sets_of : (t : Joints → Bool) (k : ℕ) (l : List Float) → list_all (λ (c : List Float). t (joints_from c)) (first_chunks 5 k l) ≡ all t (rows 5 joints_from k l)
unfolding rows all
sets_of t zero l = refl
sets_of t (suc k) l = rw (front l, sets_of t k (drop 5 l))
