use Rattle.std.proofs.Common.{ℕ, ◌+◌, ◌^◌, ◌<◌, arith, rules}
use lib.Ieee.{binary64, to_bits}
use Rattle.root.proofs.RootCases.{no_nan, bits_hi, scaled}
use Rattle.root.proofs.square_root.normal_root.Goals as goal

bits-room : (b : ℕ) → b < 9218868437227405312 → b + 4503599627370496 < 2 ^ 64
bits-room b h = omega arith

pub float_to_bits-b : goal.float_to_bits-b
float_to_bits-b c = no_nan c.args.x (bits_hi c.args.x c.requires)

pub overflow_add-b : goal.overflow_add-b
overflow_add-b c = record { fits = bits-room (to_bits binary64 c.args.x) (bits_hi c.args.x c.requires) }

pub returns-then-is_nan : goal.returns-then-is_nan
returns-then-is_nan c = scaled c.args.x (search rules) c.requires 64 c.sure_root.result (rw (c.apart-p.ensures.0, c.apart-p.ensures.1) at c.sure_root.ensures)

pub returns-in-Some : goal.returns-in-Some
returns-in-Some c = scaled c.args.x (search rules) c.requires 64 c.root.result (rw (c.apart-p.ensures.0, c.apart-p.ensures.1) at c.root.ensures)

pub returns-in-None : goal.returns-in-None
returns-in-None c = scaled c.args.x (search rules) c.requires 64 c.sure_root-in-None.result (rw (c.apart-p.ensures.0, c.apart-p.ensures.1) at c.sure_root-in-None.ensures)
