-- A job's poses in a room for 1,362 of them, and its path.
use Prim.Native.Nat.{ℕ, ◌+◌, ◌*◌, ◌/◌, ◌≤◌}
use native.Mathlib.Omega.{arith}
use mathlib.Core.Path.{◌≡◌, ◌∙◌}
use mathlib.Core.Logic.{◌⊎◌, inl, inr}
use mathlib.Core.List.{List}
use borrow.Author.Tests.{le-leb}
use lib.Ieee.{Float}
use lib.ListN.{length, take}
use lib.Seq.{take_all}
use Rattle.std.specs.Prelude.{None, Ok}
use Rattle.lists.proofs.Padding.{take_padded}
use Rattle.float.specs.Helpers.{nought}
use Rattle.divide.specs.Subdividing.{division_in, joints_left, solve_and_divide, Division}
use Rattle.job.specs.declared.Job.{Job}
use Rattle.job.specs.JobBytes.{read_job}
use Rattle.job.specs.JobPoses.{poses_of, room, poses_check, job_poses}
use Rattle.job.proofs.JobWithin.{Within, within}
use Rattle.job.proofs.Copying.{length_numbers}
use Rattle.post.specs.Posting.{path_of, Cabled}
use Rattle.post.specs.Steps.{IsJob}
use Rattle.post.proofs.Paths.{Sized, sized}

module _ (bytes : List ℕ) (j : Job) (is : IsJob bytes j) where
  pub few_poses : j.poses ≤ 1362
  few_poses = by_place w.apart_from
    where
      w : Within bytes j
      w = within bytes j is.read

      by_place : (j.poses ≡ 0) ⊎ ((j.poses_at + 48 * j.poses ≤ j.chain_at) ⊎ (j.chain_at + j.chain_length ≤ j.poses_at)) → j.poses ≤ 1362
      by_place (inl e) = omega (arith, e)
      by_place (inr (inl e)) =
          let a = w.chain_inside in
          let b = w.most in
          let c = w.chain_least in
          omega (arith, a, b, c, e)
      by_place (inr (inr e)) =
          let a = w.poses_inside in
          let b = w.most in
          let c = w.chain_least in
          omega (arith, a, b, c, e)

  pub length_poses : length (poses_of bytes j) ≡ 6 * j.poses
  unfolding poses_of
  length_poses = length_numbers (6 * j.poses) bytes j.poses_at

  pub lent_poses : (poses : List Float) → length poses ≡ 8172 → take (6 * j.poses) (job_poses bytes poses) ≡ poses_of bytes j
  unfolding job_poses poses_check room
  lent_poses poses e =
      let n = few_poses in
      let l = length_poses in
      let fits = le-leb (6 * j.poses) 8172 (omega (arith, n)) in
      rw (is.read, e, fits) (take_padded (length poses) nought (poses_of bytes j) (6 * j.poses) (omega (arith, l)) ∙ take_all (6 * j.poses) (poses_of bytes j) (omega (arith, l)))

  -- so none is refused
  pub taken : (poses : List Float) → length poses ≡ 8172 → poses_check (read_job bytes) (length poses) ≡ Ok tt
  unfolding poses_check room
  taken poses e =
      let n = few_poses in
      let fits = le-leb (6 * j.poses) 8172 (omega (arith, n)) in
      rw (is.read, e, fits)

  pub solved : (poses lent divided joints : List Float) (said : Division) (out : List Float) → length poses ≡ 8172 → length divided ≡ 4200 → length joints ≡ 3500 → lent ≡ job_poses bytes poses
      → said ≡ division_in (solve_and_divide j.chain (take (6 * j.poses) lent) None j.cone j.tol (length divided) (length joints))
      → out ≡ joints_left (solve_and_divide j.chain (take (6 * j.poses) lent) None j.cone j.tol (length divided) (length joints)) joints
      → (said ≡ division_in (path_of bytes j)) × (out ≡ joints_left (path_of bytes j) joints)
  unfolding path_of
  solved poses lent divided joints said out p q r e f g =
      let t : take (6 * j.poses) lent ≡ poses_of bytes j = rw e (lent_poses poses p) in
      (rw (t, q, r) at f, rw (t, q, r) at g)

  pub sized_job : Sized j.poses 700 (path_of bytes j)
  unfolding path_of
  sized_job =
      let l = length_poses in
      let e : length (poses_of bytes j) / 6 ≡ j.poses = omega (arith, l) in
      rw e at (sized j.chain (poses_of bytes j) None j.cone j.tol)

  pub cabled_job : (poses lent divided joints : List Float) → length poses ≡ 8172 → length divided ≡ 4200 → length joints ≡ 3500 → lent ≡ job_poses bytes poses
      → Cabled j.chain (solve_and_divide j.chain (take (6 * j.poses) lent) None j.cone j.tol (length divided) (length joints))
      → Cabled j.chain (path_of bytes j)
  unfolding path_of
  cabled_job poses lent divided joints p q r e c =
      let t : take (6 * j.poses) lent ≡ poses_of bytes j = rw e (lent_poses poses p) in
      rw (t, q, r) at c
