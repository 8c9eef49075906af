-- Turning: Rodrigues' formula, (v cos + (axis × v) sin) + axis ((axis · v) (1 - cos)), for a unit axis.
use Rattle.std.specs.Prelude.{Float, None, Option, Some}
use Rattle.float.specs.Helpers.{nought, one}
use Rattle.trig.specs.declared.Pair.{Pair}
use Rattle.trig.specs.DegreeSteps.{degree_pair}
use Rattle.geometry.specs.Vector.{add, sub, scale, dot, cross, times, minus}
use Rattle.geometry.specs.declared.Vec3.{Vec3}
use Rattle.geometry.specs.declared.Turn.{Turn}

-- no turn: sine +0.0 and cosine 1
abbrev pub still : Turn
still = record { sine = nought; cosine = one }

-- beyond 45,000 degrees: no turn
abbrev pub turned : Option Pair → Turn
turned (Some p) = record { sine = p.sine; cosine = p.cosine }
turned None = still

-- by that many degrees
unfoldable pub turn_of : Float → Turn
turn_of degrees = turned (degree_pair degrees)

unfoldable pub rotate_vector : Vec3 → Vec3 → Turn → Vec3
rotate_vector axis v turn =
    add (add (scale v turn.cosine) (scale (cross axis v) turn.sine)) (scale axis (times (dot axis v) (minus one turn.cosine)))

unfoldable pub rotate_point : Vec3 → Vec3 → Vec3 → Turn → Vec3
rotate_point axis pivot point turn = add pivot (rotate_vector axis (sub point pivot) turn)

-- the turn by as many degrees forth, from a turn back: `turn_back` (proofs/TurningBack.antt) says so of every angle.
-- Subtracting from +0.0 negates the sine and keeps a zero +0.0
unfoldable pub turned_back : Turn → Turn
turned_back t = record { sine = minus nought t.sine; cosine = t.cosine }
