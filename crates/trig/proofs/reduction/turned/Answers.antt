-- `trig::reduction::turned` meets its contract. Assumes nothing.
use Rattle.std.proofs.Common.{ℕ, ◌+◌, ◌-◌, ◌*◌, ◌^◌, ◌<◌, ◌≤◌, T, sym, subst, arith}
use Rattle.trig.proofs.WaveError.{in_range, at_most, k_few, lengths}
use Rattle.trig.proofs.WaveSteps.{turn_small, turn_under, turn_over}
use Rattle.trig.proofs.reduction.turned.Goals as goal

under-fits : (b x p : ℕ) → (b ≤ x + 2 ^ 53) × (x ≤ b + 2 ^ 53) × (p < 512) → ((b - x) * 512 < 2 ^ 64) × ((b - x) * 512 + p < 2 ^ 64)
under-fits b x p h = omega arith

over-fits : (b x p : ℕ) → (b ≤ x + 2 ^ 53) × (x ≤ b + 2 ^ 53) × (p < 512) → b < x → ((x - b) * 512 < 2 ^ 64) × (p ≤ (x - b) * 512)
over-fits b x p h l = omega arith

pub truncating_f64_to_u64-x-requires : goal.truncating_f64_to_u64-x-requires
truncating_f64_to_u64-x-requires c = let all = in_range c.args.a c.requires ((subst T (sym c.well_formed.0.1) tt)) c.if-a.false in record { lower_bound = all.0; upper_bound = all.1 }

pub turns-k-requires : goal.turns-k-requires
turns-k-requires c =
    at_most c.args.a c.requires ((subst T (sym c.well_formed.0.1) tt)) c.if-a.false c.truncating_f64_to_u64-x.result c.truncating_f64_to_u64-x.ensures

pub base-b-requires : goal.base-b-requires
base-b-requires c = (k_few c.args.a c.requires ((subst T (sym c.well_formed.0.1) tt)) c.if-a.false c.truncating_f64_to_u64-x.result c.truncating_f64_to_u64-x.ensures c.turns-k.result c.turns-k.ensures)

pub part-p-requires : goal.part-p-requires
part-p-requires c = (k_few c.args.a c.requires ((subst T (sym c.well_formed.0.1) tt)) c.if-a.false c.truncating_f64_to_u64-x.result c.truncating_f64_to_u64-x.ensures c.turns-k.result c.turns-k.ensures)

pub overflow_mul-b : goal.overflow_mul-b
overflow_mul-b c = record { fits = (under-fits c.base-b.result c.truncating_f64_to_u64-x.result c.part-p.result ((lengths c.args.a c.requires ((subst T (sym c.well_formed.0.1) tt)) c.if-a.false c.truncating_f64_to_u64-x.result c.truncating_f64_to_u64-x.ensures c.turns-k.result c.turns-k.ensures c.base-b.result c.part-p.result c.base-b.ensures c.part-p.ensures))).0 }

pub overflow_add-b : goal.overflow_add-b
overflow_add-b c = record { fits = (under-fits c.base-b.result c.truncating_f64_to_u64-x.result c.part-p.result ((lengths c.args.a c.requires ((subst T (sym c.well_formed.0.1) tt)) c.if-a.false c.truncating_f64_to_u64-x.result c.truncating_f64_to_u64-x.ensures c.turns-k.result c.turns-k.ensures c.base-b.result c.part-p.result c.base-b.ensures c.part-p.ensures))).1 }

pub overflow_mul-x : goal.overflow_mul-x
overflow_mul-x c = record { fits = (over-fits c.base-b.result c.truncating_f64_to_u64-x.result c.part-p.result ((lengths c.args.a c.requires ((subst T (sym c.well_formed.0.1) tt)) c.if-a.false c.truncating_f64_to_u64-x.result c.truncating_f64_to_u64-x.ensures c.turns-k.result c.turns-k.ensures c.base-b.result c.part-p.result c.base-b.ensures c.part-p.ensures)) c.if-x-b.false).0 }

pub overflow_sub-x-2 : goal.overflow_sub-x-2
overflow_sub-x-2 c = (over-fits c.base-b.result c.truncating_f64_to_u64-x.result c.part-p.result ((lengths c.args.a c.requires ((subst T (sym c.well_formed.0.1) tt)) c.if-a.false c.truncating_f64_to_u64-x.result c.truncating_f64_to_u64-x.ensures c.turns-k.result c.turns-k.ensures c.base-b.result c.part-p.result c.base-b.ensures c.part-p.ensures)) c.if-x-b.false).1

pub invariant_of-result-then-x-b : goal.invariant_of-result-then-x-b
invariant_of-result-then-x-b c = record { few = k_few c.args.a c.requires ((subst T (sym c.well_formed.0.1) tt)) c.if-a.false c.truncating_f64_to_u64-x.result c.truncating_f64_to_u64-x.ensures c.turns-k.result c.turns-k.ensures }

pub invariant_of-result-2 : goal.invariant_of-result-2
invariant_of-result-2 c = record { few = k_few c.args.a c.requires ((subst T (sym c.well_formed.0.1) tt)) c.if-a.false c.truncating_f64_to_u64-x.result c.truncating_f64_to_u64-x.ensures c.turns-k.result c.turns-k.ensures }

pub returns-then-a : goal.returns-then-a
returns-then-a c = turn_small c.args.a c.if-a.true

pub returns-then-x-b : goal.returns-then-x-b
returns-then-x-b c = turn_under c.args.a c.if-a.false c.truncating_f64_to_u64-x.result c.turns-k.result c.base-b.result c.part-p.result c.truncating_f64_to_u64-x.ensures c.turns-k.ensures c.base-b.ensures c.part-p.ensures c.rest_float-r.result c.if-x-b.true c.rest_float-r.ensures

pub returns : goal.returns
returns c = turn_over c.args.a c.if-a.false c.truncating_f64_to_u64-x.result c.turns-k.result c.base-b.result c.part-p.result c.truncating_f64_to_u64-x.ensures c.turns-k.ensures c.base-b.ensures c.part-p.ensures c.rest_float-r-2.result c.if-x-b.false c.rest_float-r-2.ensures
