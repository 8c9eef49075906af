-- The angle of one rotary in a joint set: of the first at 0, of the second at any other number.
use Rattle.std.specs.Prelude.{cond, ℕ, eqb, Float}
use Rattle.chain.specs.declared.Joints.{Joints}

unfoldable pub angle_of : ℕ → Joints → Float
angle_of rotary j = cond (eqb rotary 0) j.a0 j.a1
