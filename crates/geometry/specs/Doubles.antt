-- What is handed over by value is of doubles. A reference says nothing of what it points to.
use Rattle.std.specs.Prelude.{T}
use Rattle.std.specs.Float.{binary64}
use Rattle.std.specs.Float.Ieee.{fits}
use Rattle.geometry.specs.declared.Vec3.{Vec3}

-- the three numbers of a vector are doubles
abbrev pub FitVec : Vec3 → Type 0
FitVec v = T (fits binary64 v.x) × T (fits binary64 v.y) × T (fits binary64 v.z)
