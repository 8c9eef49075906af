-- What the extremes of a group are: of each of the five numbers the smallest and the largest by totalOrder. `Summary`
-- says how they are worked out, and `summary_is` (proofs/SmallestLargest.antt) that they are these.
use Rattle.std.specs.Prelude.{◌≡◌, false, List, [], ◌∷◌, map, ◌⊎◌, Float}
use Rattle.float.specs.TotalOrder.{before}
use Rattle.chain.specs.declared.Joints.{Joints}
use Rattle.extremes.specs.declared.Extremes.{Extremes}

unfoldable pub OneOf : Float → List Float → Type 0
OneOf x [] = ⊥
OneOf x (y ∷ l) = (x ≡ y) ⊎ OneOf x l

-- one of them, and none stands before it
pub record Smallest (numbers : List Float) (x : Float) : Type 0 where
  pub there : OneOf x numbers
  pub least : (y : Float) → OneOf y numbers → before y x ≡ false

-- one of them, and none stands behind it
pub record Largest (numbers : List Float) (x : Float) : Type 0 where
  pub there : OneOf x numbers
  pub most : (y : Float) → OneOf y numbers → before x y ≡ false

-- of one number of every joint set of a group
pub record Between (group : List Joints) (e : Extremes) (number : Joints → Float) : Type 0 where
  pub smallest : Smallest (map number group) (number e.low)
  pub largest : Largest (map number group) (number e.high)

-- and of each of the five
pub record AreExtremes (group : List Joints) (e : Extremes) : Type 0 where
  pub x : Between group e (λ j. j.xyz.x)
  pub y : Between group e (λ j. j.xyz.y)
  pub z : Between group e (λ j. j.xyz.z)
  pub a0 : Between group e (λ j. j.a0)
  pub a1 : Between group e (λ j. j.a1)
