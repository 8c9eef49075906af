-- `trig::tangent::bisect` meets its contract. Assumes nothing.
use Rattle.std.proofs.Common.{◌≡◌, ℕ, ◌-◌, ◌^◌, ◌<◌, ◌≤◌, sym, ◌∙◌, lt_of_lt_of_le, le_of_lt, arith}
use Rattle.trig.proofs.Bisection.{middle, halved_one, halved_right, halved_left}
use Rattle.trig.proofs.tangent.+bisect.Goals as goal

nearer : (lo mid hi t : ℕ) → lo < mid → mid < hi → hi - lo ≡ t → (hi - mid < t) × (mid - lo < t)
nearer lo mid hi t a b e = omega arith

room : (m hi : ℕ) → m < hi → hi ≤ 7074237752028440 → m < 2 ^ 64
room m hi a b = omega arith

pub overflow_sub-hi : goal.overflow_sub-hi
overflow_sub-hi t c = le_of_lt c.requires.0

pub overflow_sub-mid : goal.overflow_sub-mid
overflow_sub-mid t c = le_of_lt c.requires.0

pub overflow_add-mid : goal.overflow_add-mid
overflow_add-mid t c =
    record { fits = room _ c.args.hi (middle c.args.lo c.args.hi c.requires.0 c.if-hi-lo-eq1.false).1 c.requires.1 }

pub bisect-requires : goal.bisect-requires
bisect-requires t c =
    let m = middle c.args.lo c.args.hi c.requires.0 c.if-hi-lo-eq1.false in
    ((nearer c.args.lo _ c.args.hi t m.0 m.1 c.decreases).0, (m.1, c.requires.1))

pub bisect-requires-else-steep : goal.bisect-requires-else-steep
bisect-requires-else-steep t c =
    let m = middle c.args.lo c.args.hi c.requires.0 c.if-hi-lo-eq1.false in
    ((nearer c.args.lo _ c.args.hi t m.0 m.1 c.decreases).1, (m.0, le_of_lt (lt_of_lt_of_le m.1 c.requires.1)))

pub returns-then-hi-lo-eq1 : goal.returns-then-hi-lo-eq1
returns-then-hi-lo-eq1 t c = record {
  name = halved_one c.args.t c.args.lo c.args.hi c.requires.0 c.if-hi-lo-eq1.true;
  small = le_of_lt (lt_of_lt_of_le c.requires.0 c.requires.1);
}

pub returns-then-steep : goal.returns-then-steep
returns-then-steep t c = record {
  name = halved_right c.args.t c.args.lo c.args.hi c.bisect.result c.requires.0 c.if-hi-lo-eq1.false (sym c.steep.ensures ∙ c.if-steep.true) c.bisect.ensures.name;
  small = c.bisect.ensures.small;
}

pub returns-else-steep : goal.returns-else-steep
returns-else-steep t c = record {
  name = halved_left c.args.t c.args.lo c.args.hi c.bisect-else-steep.result c.requires.0 c.if-hi-lo-eq1.false (sym c.steep.ensures ∙ c.if-steep.false) c.bisect-else-steep.ensures.name;
  small = c.bisect-else-steep.ensures.small;
}
