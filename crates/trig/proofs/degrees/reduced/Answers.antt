-- `trig::degrees::reduced` meets its contract. Assumes nothing.
use Rattle.std.proofs.Common.{true, false, T, sym, subst, arith}
use Rattle.trig.proofs.DegreeSteps.{in_range, at_most, k_few, beside_most, turn_small, turn_under, turn_over}
use Rattle.trig.proofs.degrees.reduced.Goals as goal

pub truncating_f64_to_u64-x-requires : goal.truncating_f64_to_u64-x-requires
truncating_f64_to_u64-x-requires c = let all = in_range c.args.a c.requires ((subst T (sym c.well_formed.0.1) tt)) c.if-a.false in record { lower_bound = all.0; upper_bound = all.1 }

pub quarter_turns-k-requires : goal.quarter_turns-k-requires
quarter_turns-k-requires c = (at_most c.args.a c.requires ((subst T (sym c.well_formed.0.1) tt)) c.if-a.false c.truncating_f64_to_u64-x.result c.truncating_f64_to_u64-x.ensures)

pub overflow_mul-b : goal.overflow_mul-b
overflow_mul-b c = let h = (k_few c.truncating_f64_to_u64-x.result c.quarter_turns-k.result ((at_most c.args.a c.requires ((subst T (sym c.well_formed.0.1) tt)) c.if-a.false c.truncating_f64_to_u64-x.result c.truncating_f64_to_u64-x.ensures)) c.quarter_turns-k.ensures) in record { fits = omega (arith, h) }

pub radians_of-r-requires : goal.radians_of-r-requires
radians_of-r-requires c = beside_most c.truncating_f64_to_u64-x.result c.quarter_turns-k.result true c.quarter_turns-k.ensures

pub radians_of-r-requires-2 : goal.radians_of-r-requires-2
radians_of-r-requires-2 c = beside_most c.truncating_f64_to_u64-x.result c.quarter_turns-k.result false c.quarter_turns-k.ensures

pub invariant_of-result-then-x-b : goal.invariant_of-result-then-x-b
invariant_of-result-then-x-b c = record { few = k_few c.truncating_f64_to_u64-x.result c.quarter_turns-k.result ((at_most c.args.a c.requires ((subst T (sym c.well_formed.0.1) tt)) c.if-a.false c.truncating_f64_to_u64-x.result c.truncating_f64_to_u64-x.ensures)) c.quarter_turns-k.ensures }

pub invariant_of-result-2 : goal.invariant_of-result-2
invariant_of-result-2 c = record { few = k_few c.truncating_f64_to_u64-x.result c.quarter_turns-k.result ((at_most c.args.a c.requires ((subst T (sym c.well_formed.0.1) tt)) c.if-a.false c.truncating_f64_to_u64-x.result c.truncating_f64_to_u64-x.ensures)) c.quarter_turns-k.ensures }

pub returns-then-a : goal.returns-then-a
returns-then-a c = turn_small c.args.a c.to_radians-r.result c.if-a.true c.to_radians-r.ensures

pub returns-then-x-b : goal.returns-then-x-b
returns-then-x-b c = turn_under c.args.a c.if-a.false c.truncating_f64_to_u64-x.result c.quarter_turns-k.result c.truncating_f64_to_u64-x.ensures c.quarter_turns-k.ensures c.radians_of-r.result c.if-x-b.true c.radians_of-r.ensures

pub returns : goal.returns
returns c = turn_over c.args.a c.if-a.false c.truncating_f64_to_u64-x.result c.quarter_turns-k.result c.truncating_f64_to_u64-x.ensures c.quarter_turns-k.ensures c.radians_of-r-2.result c.if-x-b.false c.radians_of-r-2.ensures
