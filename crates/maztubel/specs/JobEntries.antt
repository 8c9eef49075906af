-- What the entries of a job answer, from the bytes and numbers that they are lent. What is lent is kept on a refusal.
use Rattle.std.specs.Prelude.{ℕ, ◌%◌, ◌<◌, not, cond, ◌≡◌, List, eqb, length, take, drop, Float, Err, Ok, Result}
use Rattle.refusal.specs.declared.Refusal.{Refusal}
use Rattle.refusal.specs.Numbers.{refusal}
use Rattle.refusal.specs.declared.Cause.{Cause}
use Rattle.chain.specs.declared.Kinematics.{Kinematics}
use Rattle.chain.specs.ChainBytes.{read_chain}
use Rattle.job.specs.declared.Job.{Job}
use Rattle.job.specs.Cable.{joint_sets, rest_of, cable_number, Largest}

-- each lent number afterwards
abbrev pub over : {A : Type 0} → (Job → A) → Result Job Refusal → A → A
over field (Ok j) before = field j
over field (Err r) before = before

abbrev pub chain_over : Result Job Refusal → ℕ → ℕ
chain_over = over (λ (j : Job). j.chain_at)

abbrev pub length_over : Result Job Refusal → ℕ → ℕ
length_over = over (λ (j : Job). j.chain_length)

abbrev pub poses_over : Result Job Refusal → ℕ → ℕ
poses_over = over (λ (j : Job). j.poses_at)

abbrev pub count_over : Result Job Refusal → ℕ → ℕ
count_over = over (λ (j : Job). j.poses)

abbrev pub cone_over : Result Job Refusal → Float → Float
cone_over = over (λ (j : Job). j.cone)

abbrev pub chord_over : Result Job Refusal → Float → Float
chord_over = over (λ (j : Job). j.tol.chord)

abbrev pub axis_over : Result Job Refusal → Float → Float
axis_over = over (λ (j : Job). j.tol.axis)

-- the chain's bytes, which a caller takes from the job by these numbers, are read as the job's chain by every entry
abbrev pub ChainPromise : List ℕ → Result Job Refusal → Type 0
ChainPromise job (Err r) = Unit {0}
ChainPromise job (Ok j) = read_chain (take j.chain_length (drop j.chain_at job)) ≡ Ok j.chain

-- ---- the cable number: first 20, then 29, then the checks of `job`
abbrev pub cable_read : Result Kinematics Refusal → List Float → ℕ → Result ℕ Refusal
cable_read (Err r) joints rotary = Err r
cable_read (Ok k) joints rotary = cable_number k joints rotary

unfoldable pub cable_of : List ℕ → List Float → ℕ → Result ℕ Refusal
cable_of chain joints rotary = cond (not (eqb (length joints % 5) 0)) (Err (refusal Cause.LengthsDiffer 0)) (cable_read (read_chain chain) joints rotary)

abbrev pub number_over : Result ℕ Refusal → ℕ → ℕ
number_over (Ok k) before = k
number_over (Err r) before = before

-- of a rotary that the chain has it is the largest
abbrev pub CablePromise : Result Kinematics Refusal → List Float → ℕ → Result ℕ Refusal → Type 0
CablePromise (Err r) joints rotary answer = Unit {0}
CablePromise (Ok k) joints rotary (Err r) = Unit {0}
CablePromise (Ok k) joints rotary (Ok n) = rotary < k.count → Largest (rest_of k rotary) rotary (joint_sets joints) n
