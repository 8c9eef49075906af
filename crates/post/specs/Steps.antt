-- Words of inner functions' contracts alone: no answer is said by them.
use Rattle.std.specs.Prelude.{ℕ, ◌+◌, ◌≡◌, List, Float, Err, Ok}
use Rattle.divide.specs.Subdividing.{Division}
use Rattle.chain.specs.declared.Kinematics.{Kinematics}
use Rattle.job.specs.declared.Job.{Job}
use Rattle.job.specs.JobBytes.{read_job}
use Rattle.job.specs.Cable.{joint_sets}
use Rattle.job.specs.Telling.{text_of}
use Rattle.post.specs.Posting.{ended_by}

-- the text of what a division came to, by the numbers of its path
abbrev pub conclusion : Kinematics → Division → List Float → List ℕ
conclusion k said path = text_of (ended_by k said path) (joint_sets path)

pub record IsJob (bytes : List ℕ) (j : Job) : Type 0 where
  pub read : read_job bytes ≡ Ok j

-- how many joint sets a path has
abbrev pub path_length : ℕ → Division → ℕ
path_length given (Ok n) = given + n
path_length given (Err e) = 0
