-- The pose and the joints from the turns of the rotaries are those of the angles, in every bit.
use mathlib.Core.Path.{◌≡◌, refl}
use lib.Ieee.{Float}
use Rattle.geometry.specs.declared.Vec3.{Vec3}
use Rattle.chain.specs.declared.Prepared.{Prepared}
use Rattle.chain.specs.Forward.{turns_of}
use Rattle.chain.proofs.TablesForth.{forth_from_is}
use Rattle.inverse.specs.declared.Angles.{Angles}
use Rattle.inverse.specs.Inverse.{pose_at, pose_from, joints_at, joints_from}

pub pose_from_is : (p : Prepared) (angles : Angles) (tool : Float) → pose_from p (turns_of p angles.a0 angles.a1) tool ≡ pose_at p angles tool
unfolding pose_from pose_at
pose_from_is p angles tool = refl

pub joints_from_is : (p : Prepared) (angles : Angles) (tip tip0 : Vec3)
    → joints_from p (turns_of p angles.a0 angles.a1) angles tip tip0 ≡ joints_at p angles tip tip0
unfolding joints_from joints_at
joints_from_is p angles tip tip0 = rw (forth_from_is p angles.a0 angles.a1)
