use Rattle.slice.proofs.Slices.{Slicing}
use Rattle.slice.proofs.run_some.Given as goal

abbrev pub invariant-loop : goal.invariant-loop
invariant-loop l = Slicing l.by.p l.by.tol l.tests l.initial.out l.initial.state l.out l.state l.counter
