-- A path that division served is never refused: every joint set of it is within the sizes that the cable number asks
-- for, so both cable numbers are answered, and the path is written.
use Prim.Native.Nat.{ℕ, ◌+◌, ◌/◌, ◌%◌}
use native.Mathlib.Omega.{arith}
use mathlib.Core.Path.{◌≡◌, refl, sym, ap, ◌∙◌, subst}
use mathlib.Core.Bool.{Bool, true, false, ◌&&◌, false≢true}
use mathlib.Core.List.{List, [], ◌∷◌, map, Memᴰ}
use lib.Dec.{leb}
use lib.Ieee.{Float}
use lib.ListN.{length}
use Rattle.std.specs.Prelude.{Err, Ok, Option, Result}
use Rattle.lists.specs.Rows.{flat}
use Rattle.lists.specs.Search.{all}
use Rattle.lists.proofs.Rows.{length_flat}
use Rattle.refusal.specs.declared.Refusal.{Refusal}
use Rattle.chain.specs.declared.Joints.{Joints}
use Rattle.chain.specs.declared.Kinematics.{Kinematics}
use Rattle.chain.specs.Check.{chain_check, chain_within, joints_finite, joints_within}
use Rattle.chain.specs.Prepared.{prepared}
use Rattle.chain.proofs.Passing.{then_passed}
use Rattle.chain.proofs.ReadyLaws.{both}
use Rattle.path.specs.Solving.{PathAnswer, poses_in, joint_numbers, path_chain}
use Rattle.path.specs.Solving as Path
use Rattle.halving.specs.Halving.{Answer, Done}
use Rattle.middle.specs.declared.Item.{Item}
use Rattle.middle.specs.declared.Tolerances.{Tolerances}
use Rattle.turn.specs.Items.{items_in}
use Rattle.turn.proofs.Stored.{joints_codec}
use Rattle.divide.specs.Checking.{tip_within, joint_sets_in, division_sizes}
use Rattle.divide.specs.Subdividing.{DivisionAnswer, Kept, AtPose, Cleared, Halved, division_in, poses_left, joints_left, given, subdivide_path, clearing, after_solving, solved_path, solve_and_divide, Division}
use Rattle.divide.specs.Price.{SolvedAndDivided}
use Rattle.divide.specs.Price as Price
use Rattle.divide.proofs.Accepted.{is_halved, Accepted, accepted_parts, accepted_result}
use Rattle.divide.proofs.PriceLent.{items_left}
use Rattle.divide.proofs.PriceSound.{sizes_finite}
use Rattle.job.specs.declared.Job.{Job}
use Rattle.job.specs.JobBytes.{read_job}
use Rattle.job.specs.Cable.{cable_number}
use Rattle.job.specs.Telling.{text_of}
use Rattle.job.proofs.CableLaws.{cable_answered}
use Rattle.post.specs.Posting.{wound, path_of, path_text, post, Cabled, NeverRefused}
use Rattle.post.proofs.Paths.{sets_back}

-- ---- the joint sets of items
abbrev joints_of : List Item → List Joints
joints_of l = map (λ (i : Item). i.joints) l

all_joints : (test : Joints → Bool) (l : List Item) → ((i : Item) → Memᴰ i l → test i.joints ≡ true) → all test (joints_of l) ≡ true
unfolding all
all_joints test [] f = refl
all_joints test (i ∷ l) f = rw (f i (Memᴰ.head refl), all_joints test l (λ x m. f x (Memᴰ.tail m)))

whole_sets : (l : List Joints) → length (flat joint_numbers l) % 5 ≡ 0
whole_sets l = let e = length_flat joints_codec l in omega (arith, e)

-- ---- a call of both that is accepted was solved, and its division accepted
cleared_halved : (a : DivisionAnswer) (b : Answer Item) → clearing a ≡ Halved b → a ≡ Halved b
cleared_halved (Kept r) b e = absurd (false≢true (ap is_halved e))
cleared_halved (AtPose r) b e = absurd (false≢true (ap is_halved e))
cleared_halved (Cleared r) b e = absurd (false≢true (ap is_halved e))
cleared_halved (Halved a) b e = e

solved_halved : (p : PathAnswer) (f : List Joints → DivisionAnswer) (b : Answer Item) → after_solving p f ≡ Halved b → (l : List Joints) × ((p ≡ Path.Along l) × (f l ≡ Halved b))
solved_halved (Path.Along l) f b e = (l, (refl, cleared_halved (f l) b e))
solved_halved (Path.AtPose r) f b e = absurd (false≢true (ap is_halved e))
solved_halved (Path.Kept r) f b e = absurd (false≢true (ap is_halved e))

-- ---- its cable numbers
module _ (k : Kinematics) (poses : List Float) (start : Option Joints) (cone : Float) (tol : Tolerances) (p₀ j₀ : List Float) {said : Division} {outPoses outJoints : List Float}
    (promise : SolvedAndDivided k poses start cone tol said p₀ j₀ outPoses outJoints) (e : said ≡ division_in (solve_and_divide k poses start cone tol (length p₀) (length j₀)))
    (u : outPoses ≡ poses_left (solve_and_divide k poses start cone tol (length p₀) (length j₀)) p₀)
    (v : outJoints ≡ joints_left (solve_and_divide k poses start cone tol (length p₀) (length j₀)) j₀) where
  module _ (n : ℕ) (l : List Item) (f : solve_and_divide k poses start cone tol (length p₀) (length j₀) ≡ Halved (Done n l)) where
    abbrev Found : Type 0
    Found = (s : List Joints) × ((solved_path k poses start cone (length p₀) (length j₀) ≡ Path.Along s)
        × (subdivide_path k tol poses (flat joint_numbers s) (length p₀) (length j₀) ≡ Halved (Done n l)))

    found : Found
    unfolding solve_and_divide
    found =
        solved_halved (solved_path k poses start cone (length p₀) (length j₀)) (λ s. subdivide_path k tol poses (flat joint_numbers s) (length p₀) (length j₀)) (Done n l) f

    module _ (s : List Joints) (along : solved_path k poses start cone (length p₀) (length j₀) ≡ Path.Along s)
        (divided : subdivide_path k tol poses (flat joint_numbers s) (length p₀) (length j₀) ≡ Halved (Done n l)) where
      parts : Accepted k tol poses (flat joint_numbers s) (length p₀) (length j₀) n l
      parts = accepted_parts k tol poses (flat joint_numbers s) (length p₀) (length j₀) n l divided

      items_there : items_in (length (given poses (flat joint_numbers s)) + n) outPoses outJoints ≡ l
      unfolding poses_left joints_left
      items_there =
          let c = (accepted_result k tol poses (flat joint_numbers s) (length p₀) (length j₀) n l parts).counted in
          rw (u, v, f, ← c) (items_left l (length p₀) (length j₀))

      there : Price.Result k (prepared k) tol (given poses (flat joint_numbers s)) n l
      there = subst (Price.Result k (prepared k) tol (given poses (flat joint_numbers s)) n) items_there ((promise.price s along).divided n (e ∙ ap division_in f))

      chain_passed : chain_check k ≡ Ok tt
      unfolding path_chain
      chain_passed = (then_passed (chain_check k) _ parts.checks.chain_is).0

      chain_fits : chain_within k ≡ true
      unfolding division_sizes
      chain_fits =
          let sets = flat joint_numbers s in
          let a = both (chain_within k && all tip_within (poses_in poses) && all joints_within (joint_sets_in sets)) (leb (length poses / 6) 100000) parts.checks.sizes_is in
          let b = both (chain_within k && all tip_within (poses_in poses)) (all joints_within (joint_sets_in sets)) a.0 in
          (both (chain_within k) (all tip_within (poses_in poses)) b.0).0

      answered : (rotary : ℕ) → (t : ℕ) × (cable_number k (flat joint_numbers (joints_of l)) rotary ≡ Ok t)
      answered rotary =
          cable_answered k (flat joint_numbers (joints_of l)) (whole_sets (joints_of l)) chain_passed chain_fits
          (rw (sets_back (joints_of l)) (all_joints joints_finite l (λ i m. sizes_finite i.joints (there.sizes i m))))
          (rw (sets_back (joints_of l)) (all_joints joints_within l there.sizes)) rotary

  pub path_cabled : Cabled k (solve_and_divide k poses start cone tol (length p₀) (length j₀))
  path_cabled = record { turns = λ n l f rotary. let w = found n l f in answered n l f w.0 w.1.0 w.1.1 rotary }

-- ---- so its text is told
abbrev job_in : Job → Result Job Refusal → Job
job_in d (Ok j) = j
job_in d (Err r) = d

abbrev is_job : Result Job Refusal → Bool
is_job (Ok j) = true
is_job (Err r) = false

text_told : (bytes : List ℕ) (j : Job) (n : ℕ) (l : List Item) (a b : ℕ) → read_job bytes ≡ Ok j → path_of bytes j ≡ Halved (Done n l)
    → cable_number j.chain (flat joint_numbers (joints_of l)) 0 ≡ Ok a → cable_number j.chain (flat joint_numbers (joints_of l)) 1 ≡ Ok b
    → post bytes ≡ text_of (Ok (record { inserted = n; first = a; second = b })) (joints_of l)
unfolding post path_text wound
text_told bytes j n l a b w h u v = rw (w, h, u, v)

pub job_told : (bytes : List ℕ) (j : Job) → read_job bytes ≡ Ok j → Cabled j.chain (path_of bytes j) → NeverRefused bytes
job_told bytes j e c = record {
  told = λ i n l w h.
      let d = subst (λ (z : Job). Cabled z.chain (path_of bytes z)) (ap (job_in j) (sym e ∙ w)) c in
      let first = d.turns n l h 0 in
      let second = d.turns n l h 1 in
      (first.0, (second.0, text_told bytes i n l first.0 second.0 w h first.1 second.1));
}

pub no_job_told : (bytes : List ℕ) (r : Refusal) → read_job bytes ≡ Err r → NeverRefused bytes
no_job_told bytes r e = record { told = λ i n l w h. absurd (false≢true (ap is_job (sym e ∙ w))) }
