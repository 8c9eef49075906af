use Rattle.std.proofs.Common.{ℕ, ◌<◌, ◌≤◌, arith}
use Rattle.float.proofs.NotNan.{low_bits}
use Rattle.root.proofs.RootGuess.{start_low}
use Rattle.root.proofs.square_root.estimate.Goals as goal

low : (b : ℕ) → b < 4616189618054758400 → b ≤ 9218868437227405312
low b h = omega arith

pub float_from_bits-f : goal.float_from_bits-f
float_from_bits-f c = low_bits _ (low _ c.requires)

pub float_from_bits-b : goal.float_from_bits-b
float_from_bits-b c = low_bits _ (start_low _)
