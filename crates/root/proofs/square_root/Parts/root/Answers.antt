use Rattle.std.proofs.Common.{◌≡◌, ℕ, ◌+◌, ◌*◌, ◌/◌, ◌^◌, ◌<◌, ◌≤◌, arith}
use Rattle.root.proofs.RootParts.{expo}
use Rattle.root.proofs.RootNearby.{no_nan_out, near_answer, q_hi}
use Rattle.root.proofs.square_root.Parts.root.Goals as goal

room : (f q : ℕ) → f ≤ 2200 → q ≤ 2 ^ 53 → (f + 957) / 2 * 4503599627370496 + q < 2 ^ 64
room f q h l = omega arith

exponent : (f : ℕ) → (f + 957) / 2 ≡ expo f
exponent f = omega arith

pub overflow_add-result : goal.overflow_add-result
overflow_add-result c = record { fits = room _ _ c.args.self.normal.3 (q_hi c.args.self.m c.args.self.f c.args.self.normal.0 c.args.self.normal.1 c.args.self.normal.2 c.args.self.normal.3 c.args.q c.requires) }

pub float_from_bits-result : goal.float_from_bits-result
float_from_bits-result c = rw (exponent c.args.self.f) (no_nan_out c.args.self.m c.args.self.f c.args.self.normal.0 c.args.self.normal.1 c.args.self.normal.2 c.args.self.normal.3 c.args.q c.requires)

pub returns : goal.returns
returns c v e = rw (exponent c.args.self.f) (near_answer c.args.self.m c.args.self.f c.args.self.normal.0 c.args.self.normal.1 c.args.self.normal.2 c.args.self.normal.3 c.args.q c.requires v e)
