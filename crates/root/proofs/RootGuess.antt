-- What the guess at a root needs: its bit pattern is not above that of the infinity, so it is not that of a nan.
use Rattle.std.proofs.Common.{ℕ, ◌-◌, ◌/◌, ◌≤◌, arith}

pub start_low : (b : ℕ) → 6909647724535087104 - b / 2 ≤ 9218868437227405312
start_low b = omega arith
