-- How long a record of either kind is, and a chain with such records.
use Rattle.std.proofs.Common.{ℕ, ◌≤◌, lit≤, arith}
use Rattle.chain.proofs.Bytes.{product_most}
use Rattle.chain.specs.ChainBytes.{length_of_chain}
use Rattle.job.specs.declared.RecordKind.{RecordKind}
use Rattle.job.specs.declared.RecordKind.TheVariants.{NoRest, WithRest}
use Rattle.job.specs.JobBytes.{bytes_in}

pub kind_least : (kind : RecordKind) → 72 ≤ bytes_in kind
unfolding bytes_in
kind_least NoRest = lit≤ tt
kind_least WithRest = lit≤ tt

pub kind_most : (kind : RecordKind) → bytes_in kind ≤ 80
unfolding bytes_in
kind_most NoRest = lit≤ tt
kind_most WithRest = lit≤ tt

pub chain_most : (kind : RecordKind) (count : ℕ) → count ≤ 255 → length_of_chain (bytes_in kind) count ≤ 20432
chain_most kind count h =
    let p = product_most (bytes_in kind) count (kind_most kind) h in
    omega (arith, p)
