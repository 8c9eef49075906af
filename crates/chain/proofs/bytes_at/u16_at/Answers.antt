use Rattle.std.proofs.Common.{arith, add-zero}
use Rattle.chain.specs.Bytes.{little_endian}
use Rattle.chain.proofs.Bytes.{two_past}
use Rattle.chain.proofs.bytes_at.u16_at.Goals as goal

pub returns-then-at-bytes : goal.returns-then-at-bytes
unfolding little_endian
returns-then-at-bytes c = rw (add-zero c.args.at) (omega (arith, c.from_le_bytes.ensures, c.byte_at.ensures))

pub returns : goal.returns
returns c = two_past _ _ c.if-at-bytes.false
