-- Laws of whole texts: their lengths, and what is put of them step by step.
use Rattle.std.proofs.Common.{◌≡◌, ℕ, ◌+◌, ◌/◌, ◌<◌, ◌≤◌, true, false, List, ◌++◌, length, refl, arith, append_assoc, length-append, le-leb, leb-false, leb-true}
use borrow.Author.Tests.{lt-leb}
use lib.Ieee.{Float}
use Rattle.std.specs.Prelude.{None, Ok, Option, Some}
use Rattle.lists.proofs.Rows.{length_rows}
use Rattle.refusal.specs.Numbers.{number_of}
use Rattle.refusal.specs.declared.Cause.{Cause}
use Rattle.chain.specs.declared.Joints.{Joints}
use Rattle.turn.specs.Items.{joints_from}
use Rattle.job.specs.Cable.{joint_sets}
use Rattle.job.specs.declared.spelling.Page.{Page}
use Rattle.job.specs.Spelling.{Fits, Put, width, labelled, paired}
use Rattle.job.specs.Telling.{newline, refused_word, pose_word, lines, lines_length, lines_fit, head, head_length, path_text, refused_text, pose_part, told, told_over, no_space}
use Rattle.job.specs.declared.Figures.{Figures}
use Rattle.job.proofs.Written.{length_labelled, length_paired}
use Rattle.job.proofs.Lines.{length_lines}

-- ---- the first line
pub length_head : (f : Figures) (n : ℕ) → length (head f n) ≡ head_length f n
unfolding head head_length
length_head f n = rw (length-append, length-append, length_paired, length_paired) (omega arith)

-- ---- a path
pub length_path : (f : Figures) (l : List Joints) → length (path_text f l) ≡ head_length f (length l) + lines_length (length l)
unfolding path_text
length_path f l = rw (length-append, length_head, length_lines)

pub length_sets : (l : List Float) → length (joint_sets l) ≡ length l / 5
unfolding joint_sets
length_sets l = length_rows 5 joints_from (length l / 5) l

-- ---- what an entry answers, and leaves in its buffer
pub too_short : (text out : List ℕ) → length out < length text → (no_space ≡ told text (length out)) × (out ≡ told_over text out)
unfolding told told_over
too_short text out h =
    let e = lt-leb (length text) (length out) h in
    (rw e, rw e)

pub put_told : {text : List ℕ} {p q : Page} → p.at ≡ 0 → Fits p text → Put p text q → (Ok q.at ≡ told text (length p.out.now)) × (q.out.now ≡ told_over text p.out.now)
unfolding told told_over
put_told {text} {p} {q} z h f =
    let r = h.room in
    let b = f.behind in
    let t = le-leb (length text) (length p.out.now) (omega (arith, r)) in
    let e : q.at ≡ length text = omega (arith, b, z) in
    (rw (t, e), rw (t, ← z) f.whole)

-- ---- a refusal
pub refused_parts : (cause : Cause) (pose : Option ℕ) → refused_text cause pose ≡ labelled refused_word (number_of cause) ++ (pose_part pose ++ newline)
unfolding refused_text pose_part paired
refused_parts cause None = refl
refused_parts cause (Some at) = append_assoc (labelled refused_word (number_of cause)) (labelled pose_word at) newline

module _ (cause : Cause) (pose : Option ℕ) {p : Page} (z : p.at ≡ 0) {k : ℕ} (e : k ≡ length (refused_text cause pose)) (h : k ≤ length p.out.now) where
  pub refused_fits : Fits p (labelled refused_word (number_of cause) ++ (pose_part pose ++ newline))
  refused_fits =
      let w : Fits p (refused_text cause pose) = record { room = omega (arith, z, e, h) } in
      rw refused_parts at w

  pub refused_put : {q : Page} → Put p (labelled refused_word (number_of cause) ++ (pose_part pose ++ newline)) q
      → (Ok q.at ≡ told (refused_text cause pose) (length p.out.now)) × (q.out.now ≡ told_over (refused_text cause pose) p.out.now)
  refused_put f = rw refused_parts (put_told z refused_fits f)

pub length_pose : (cause : Cause) (at : ℕ) → length (refused_text cause (Some at)) ≡ 8 + width (number_of cause) + (6 + width at) + 1
unfolding refused_text
length_pose cause at = rw (length-append, length_paired)

pub length_refusal : (cause : Cause) → length (refused_text cause None) ≡ 8 + width (number_of cause) + 1
unfolding refused_text
length_refusal cause = rw (length-append, length_labelled)

-- ---- a path
module _ (f : Figures) (joints : List Float) where
  whole_length : length (path_text f (joint_sets joints)) ≡ head_length f (length joints / 5) + lines_length (length joints / 5)
  whole_length = rw (length_path, length_sets)

  path_parts : path_text f (joint_sets joints) ≡ head f (length joints / 5) ++ lines 0 (joint_sets joints)
  unfolding path_text
  path_parts = rw length_sets

  pub path_short : (out : List ℕ) → lines_fit (length joints / 5) (head_length f (length joints / 5)) (length out) ≡ false
      → (no_space ≡ told (path_text f (joint_sets joints)) (length out)) × (out ≡ told_over (path_text f (joint_sets joints)) out)
  unfolding lines_fit
  path_short out e =
      let h = leb-false (head_length f (length joints / 5) + lines_length (length joints / 5)) (length out) e in
      let k = whole_length in
      too_short (path_text f (joint_sets joints)) out (omega (arith, h, k))

  module _ {p : Page} (z : p.at ≡ 0) (e : lines_fit (length joints / 5) (head_length f (length joints / 5)) (length p.out.now) ≡ true) where
    pub path_fits : Fits p (head f (length joints / 5) ++ lines 0 (joint_sets joints))
    unfolding lines_fit
    path_fits =
        let h = leb-true (head_length f (length joints / 5) + lines_length (length joints / 5)) (length p.out.now) e in
        let k = whole_length in
        let w : Fits p (path_text f (joint_sets joints)) = record { room = omega (arith, z, h, k) } in
        rw path_parts at w

    pub path_put : {q : Page} → Put p (head f (length joints / 5) ++ lines 0 (joint_sets joints)) q
        → (Ok q.at ≡ told (path_text f (joint_sets joints)) (length p.out.now)) × (q.out.now ≡ told_over (path_text f (joint_sets joints)) p.out.now)
    path_put g = rw path_parts (put_told z path_fits g)
