use Rattle.lists.proofs.Tests.{is_after_all}
use Rattle.hirth.proofs.Halves.{in_range}
use Rattle.hirth.specs.Turning.{tooth_turn, halves}
use Rattle.std.proofs.lemmas.Bool.{not_from_true}
use Rattle.std.proofs.lemmas.Bool.{not_from_false}
use Rattle.hirth.proofs.turning.tooth_turn.Goals as goal

pub returns-then-a : goal.returns-then-a
unfolding tooth_turn halves
returns-then-a c = rw (c.still.ensures, c.if-a.true)

pub returns-then-not-within : goal.returns-then-not-within
unfolding tooth_turn halves
returns-then-not-within c = rw (c.still-then-not-within.ensures, c.if-a.false, rw c.within.ensures at (not_from_false _ c.if-not-within.true))

pub truncating_f64_to_u64-h-requires : goal.truncating_f64_to_u64-h-requires
truncating_f64_to_u64-h-requires c = let all = in_range _ (is_after_all c.within.ensures (not_from_true _ c.if-not-within.false)) in record { lower_bound = rw c.size.ensures all.0; upper_bound = rw c.size.ensures all.1 }

pub returns : goal.returns
unfolding tooth_turn halves
returns c = rw (c.toward.ensures, c.half_turns-t.ensures, c.truncating_f64_to_u64-h.ensures, c.size.ensures, c.if-a.false, rw c.within.ensures at (not_from_true _ c.if-not-within.false))
