use lib.Ieee.{binary64, to_bits}
use Rattle.root.proofs.RootCases.{no_nan, bits_lo, bits_hi}
use Rattle.root.proofs.RootTests.{field_room, m_low, m_high, f_low, f_high}
use Rattle.root.proofs.square_root.apart.Goals as goal

pub float_to_bits-b : goal.float_to_bits-b
float_to_bits-b c = no_nan c.args.x (bits_hi c.args.x c.requires.0)

pub overflow_add-f : goal.overflow_add-f
overflow_add-f c = record { fits = field_room (to_bits binary64 c.args.x) c.args.shift (bits_lo c.args.x c.requires.0) (bits_hi c.args.x c.requires.0) c.requires.1 }

pub invariant_of-result : goal.invariant_of-result
invariant_of-result c =
    let x = c.args.x in
    let b = to_bits binary64 x in
    let k = c.args.shift in
    let lo = bits_lo x c.requires.0 in
    let hi = bits_hi x c.requires.0 in
    let s = c.requires.1 in
    record { normal = (m_low b k lo hi s, m_high b k lo hi s, f_low b k lo hi s, f_high b k lo hi s) }
