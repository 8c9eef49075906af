-- `forward_from` beside `forward`: where the chain is ready and the numbers are good, the list of checks passes; where one of them is not, it refuses.
use mathlib.Core.Path.{◌≡◌, refl, sym, ap, ◌∙◌}
use mathlib.Core.Bool.{Bool, true, false, not, ◌&&◌, cond, true≢false, false≢true}
use mathlib.Core.Logic.{◌⊎◌, inl, inr}
use mathlib.Core.List.{List}
use Prim.Native.Nat.{ℕ}
use lib.Ieee as Ieee
use lib.Ieee.{Float}
use lib.Ieee.Scale.{finite}
use Rattle.std.specs.Prelude.{Err, None, Ok, Option, Result, Some, is_ok}
use Rattle.float.specs.Helpers.{nought}
use Rattle.refusal.specs.declared.Refusal.{Refusal}
use Rattle.refusal.specs.declared.Cause.{Cause}
use Rattle.chain.specs.Checked.{Checked}
use Rattle.chain.specs.declared.Joints.{Joints}
use Rattle.chain.specs.declared.Kinematics.{Kinematics}
use Rattle.chain.specs.declared.Prepared.{Prepared}
use Rattle.chain.specs.Check.{demand, then, chain_check, within, all_within, longest, farthest, most_turned, joints_finite, joints_within, chain_within}
use Rattle.chain.specs.Prepared.{prepared}
use Rattle.chain.specs.Forward.{turns_of, reach, posed, length_good, forward_sizes, forward_check, unless_refused, forward, forward_read}
use Rattle.chain.specs.ChainBytes.{read_chain}
use Rattle.chain.specs.Ready.{ready_of, ready_read, ready}
use Rattle.chain.specs.ReadySteps.{numbers_good, refused_by, refused_read, reached_by, told}
use Rattle.chain.proofs.ReadyLaws.{both, same, ok_passed, within_finite, all_within_finite, over_longest, over_farthest, over_turned}

joints_within_finite : (j : Joints) → joints_within j ≡ true → joints_finite j ≡ true
unfolding joints_within joints_finite
joints_within_finite j h =
    let p = both (all_within j.xyz farthest && within j.a0 most_turned) (within j.a1 most_turned) h in
    let q = both (all_within j.xyz farthest) (within j.a0 most_turned) p.0 in
    rw (all_within_finite farthest over_farthest j.xyz q.0, within_finite most_turned over_turned j.a0 q.1, within_finite most_turned over_turned j.a1 p.1)

-- f, n for a length that is finite and not below zero, c for the chain's check, g for finite joints, t, w, p for the sizes of length, joints and pivots
any_order : (f n c g t w p : Bool) → (t ≡ true → f ≡ true) → (w ≡ true → g ≡ true) → ((f && n) && (c && (g && ((t && w) && p)))) ≡ (((n && t) && w) && (c && p))
any_order f n c g t w p length joints = same _ _ forth back
  where
    forth : ((f && n) && (c && (g && ((t && w) && p)))) ≡ true → (((n && t) && w) && (c && p)) ≡ true
    forth h =
        let a = both (f && n) (c && (g && ((t && w) && p))) h in
        let b = both f n a.0 in
        let d = both c (g && ((t && w) && p)) a.1 in
        let e = both g ((t && w) && p) d.1 in
        let i = both (t && w) p e.1 in
        let k = both t w i.0 in
        rw (b.1, k.0, k.1, d.0, i.1)

    back : (((n && t) && w) && (c && p)) ≡ true → ((f && n) && (c && (g && ((t && w) && p)))) ≡ true
    back h =
        let a = both ((n && t) && w) (c && p) h in
        let b = both (n && t) w a.0 in
        let d = both n t b.0 in
        let e = both c p a.1 in
        rw (length d.1, d.0, e.0, joints b.1, d.1, b.1, e.1)

check_passed : (k : Kinematics) (j : Joints) (tool : Float) → is_ok (forward_check k j tool) ≡ (numbers_good j tool && (is_ok (chain_check k) && chain_within k))
unfolding forward_check numbers_good length_good forward_sizes
check_passed k j tool =
    listed (finite tool && not (Ieee.lt tool nought)) (chain_check k) (joints_finite j) (within tool longest && joints_within j && chain_within k)
    ∙ any_order (finite tool) (not (Ieee.lt tool nought)) (is_ok (chain_check k)) (joints_finite j) (within tool longest) (joints_within j) (chain_within k) (within_finite longest over_longest tool) (joints_within_finite j)
  where
    listed : (a : Bool) (c : Checked) (g s : Bool) → is_ok (then (demand a Cause.ToolLength 0) (then c (then (demand g Cause.NotFinite 0) (demand s Cause.TooLarge 0)))) ≡ (a && (is_ok c && (g && s)))
    listed false c g s = refl
    listed true (Err r) g s = refl
    listed true (Ok _) false s = refl
    listed true (Ok _) true true = refl
    listed true (Ok _) true false = refl

-- ---- what an answer of `ready` tells
abbrev is_served : Option Prepared → Bool
is_served (Some p) = true
is_served None = false

abbrev inside : Prepared → Option Prepared → Prepared
inside q (Some p) = p
inside q None = q

served_parts : (b : Bool) (q p : Prepared) → cond b (Some q) None ≡ Some p → (b ≡ true) × (q ≡ p)
served_parts true q p h = (refl, ap (inside p) h)
served_parts false q p h = absurd (false≢true (ap is_served h))

served : (read : Result Kinematics Refusal) (j : Joints) (tool : Float) (p : Prepared) → ready_read read ≡ Some p → numbers_good j tool ≡ true → posed (reach p (turns_of p j.a0 j.a1) j.xyz tool) ≡ forward_read read j tool
unfolding ready_of forward
served (Err r) j tool p h n = absurd (false≢true (ap is_served h))
served (Ok k) j tool p h n =
    let s = served_parts (is_ok (chain_check k) && chain_within k) (prepared k) p h in
    let e : (numbers_good j tool && (is_ok (chain_check k) && chain_within k)) ≡ true = rw (n, s.0) in
    rw (ok_passed (forward_check k j tool) (check_passed k j tool ∙ e), s.1)

unserved : (read : Result Kinematics Refusal) (j : Joints) (tool : Float) → (numbers_good j tool ≡ false) ⊎ (ready_read read ≡ None) → refused_read read j tool ≡ forward_read read j tool
unfolding forward
unserved (Err r) j tool h = refl
unserved (Ok k) j tool h = go (forward_check k j tool) refl
  where
    clash : (b : Bool) → (numbers_good j tool && b) ≡ true → cond b (Some (prepared k)) None ≡ ready_of k → ⊥
    clash b e r = refuse h (both (numbers_good j tool) b e)
      where
        refuse : (numbers_good j tool ≡ false) ⊎ (ready_of k ≡ None) → (numbers_good j tool ≡ true) × (b ≡ true) → ⊥
        refuse (inl n) p = true≢false (sym p.0 ∙ n)
        refuse (inr u) p = true≢false (sym (ap (λ (z : Bool). is_served (cond z (Some (prepared k)) None)) p.1) ∙ ap is_served (r ∙ u))

    opened : cond (is_ok (chain_check k) && chain_within k) (Some (prepared k)) None ≡ ready_of k
    opened = unfold ready_of in refl

    go : (c : Checked) → forward_check k j tool ≡ c → refused_by c ≡ unless_refused c (posed (reach (prepared k) (turns_of (prepared k) j.a0 j.a1) j.xyz tool))
    go (Err r) e = refl
    go (Ok _) e = absurd (clash (is_ok (chain_check k) && chain_within k) (sym (check_passed k j tool) ∙ ap is_ok e) opened)

-- the same of bytes
module _ (bytes : List ℕ) (j : Joints) (tool : Float) where
  pub served_is_read : (p : Prepared) → ready bytes ≡ Some p → numbers_good j tool ≡ true → posed (reach p (turns_of p j.a0 j.a1) j.xyz tool) ≡ forward_read (read_chain bytes) j tool
  unfolding ready
  served_is_read p h n = served (read_chain bytes) j tool p h n

  pub numbers_refused : numbers_good j tool ≡ false → refused_read (read_chain bytes) j tool ≡ forward_read (read_chain bytes) j tool
  numbers_refused h = unserved (read_chain bytes) j tool (inl h)

  pub chain_refused : ready bytes ≡ None → refused_read (read_chain bytes) j tool ≡ forward_read (read_chain bytes) j tool
  unfolding ready
  chain_refused h = unserved (read_chain bytes) j tool (inr h)

  -- whatever the bytes come to
  pub reached_is : (x : Option Prepared) → ready bytes ≡ x → numbers_good j tool ≡ true → told (reached_by x j tool) (read_chain bytes) j tool ≡ forward_read (read_chain bytes) j tool
  reached_is (Some p) h n = served_is_read p h n
  reached_is None h n = chain_refused h
