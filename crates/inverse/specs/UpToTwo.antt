-- At most two answers, each from a branch of its own.
use Rattle.std.specs.Prelude.{None, Option}
use Rattle.inverse.specs.declared.SolvedAngle.{SolvedAngle}
use Rattle.inverse.specs.declared.Angles.{Angles}
use Rattle.inverse.specs.declared.UpToTwo.{UpToTwo}

-- of the first branch alone
abbrev pub first_only : {A : Type 0} → Option A → UpToTwo A
first_only first = record { first = first; second = None }

-- the pairs of angles that solve an equation
abbrev pub SolvedPairs : Type 0
SolvedPairs = UpToTwo (SolvedAngle × SolvedAngle)

-- the pairs of the rotaries' angles
abbrev pub RawPair : Type 0
RawPair = UpToTwo Angles
