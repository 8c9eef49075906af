-- Demand 3 of the two lent outputs: what the halving answers stands at their front, and what they hold besides is +0.0.
use Prim.Native.Nat.{ℕ, ◌+◌, ◌-◌, ◌*◌, ◌≤◌, ◌<◌}
use native.Mathlib.Omega.{arith}
use mathlib.Core.Path.{◌≡◌, refl, sym, ap, ◌∙◌, subst}
use mathlib.Core.Bool.{Bool, true, false, false≢true}
use mathlib.Core.List.{List, [], ◌∷◌, ◌++◌, map}
use lib.Ieee.{Float}
use lib.ListN.{length, drop, replicate, length-append, length-map, length-replicate}
use lib.Seq.{drop-append_seam}
use Rattle.std.specs.Prelude.{Err, Ok}
use Rattle.float.specs.Helpers.{nought}
use Rattle.lists.specs.Padding.{padded}
use Rattle.lists.specs.Rows.{rows, paired, flat}
use Rattle.lists.proofs.Rows.{rows_append_le, rows_flat, length_flat}
use Rattle.halving.specs.Halving.{Answer}
use Rattle.halving.specs.Halving as Halving
use Rattle.chain.specs.declared.Joints.{Joints}
use Rattle.chain.specs.declared.Kinematics.{Kinematics}
use Rattle.chain.specs.declared.ToolPose.{ToolPose}
use Rattle.chain.specs.Prepared.{prepared}
use Rattle.path.specs.Solving.{pose_from, joint_numbers}
use Rattle.refusal.specs.declared.Refusal.{Refusal}
use Rattle.middle.specs.declared.Item.{Item}
use Rattle.middle.specs.declared.Tolerances.{Tolerances}
use Rattle.turn.specs.declared.Stop.{Stop}
use Rattle.turn.specs.Items.{joints_from, pose_numbers, item, items_in}
use Rattle.machine.specs.Dividing.{Divided, divided_in, poses_over, joints_over}
use Rattle.divide.specs.declared.DivisionError.{DivisionError}
use Rattle.divide.specs.Subdividing.{Division, ended}
use Rattle.divide.specs.Price.{Result, AllZero, ZeroBehind, Checks, Price}
use Rattle.turn.proofs.Stored.{pose_codec, joints_codec}
use Rattle.divide.proofs.Price.{Answered}

-- ---- the cases of an answer
-- a division that ended passed its checks
pub checks_ended : (d : Divided) → Checks (ended d)
checks_ended (Ok n) = tt
checks_ended (Err s) = tt

abbrev pub is_ended : Division → Bool
is_ended (Err (DivisionError.Refused r)) = false
is_ended (Err (DivisionError.AtPose r)) = false
is_ended (Ok n) = true
is_ended (Err (DivisionError.Stopped s)) = true

abbrev pub is_done : Division → Bool
is_done (Err (DivisionError.Refused r)) = false
is_done (Err (DivisionError.AtPose r)) = false
is_done (Ok n) = true
is_done (Err (DivisionError.Stopped (Stop.TooMany n))) = false
is_done (Err (DivisionError.Stopped (Stop.NoSpace n))) = false

abbrev pub is_many : Division → Bool
is_many (Err (DivisionError.Refused r)) = false
is_many (Err (DivisionError.AtPose r)) = false
is_many (Ok n) = false
is_many (Err (DivisionError.Stopped (Stop.TooMany n))) = true
is_many (Err (DivisionError.Stopped (Stop.NoSpace n))) = false

abbrev pub is_full : Division → Bool
is_full (Err (DivisionError.Refused r)) = false
is_full (Err (DivisionError.AtPose r)) = false
is_full (Ok n) = false
is_full (Err (DivisionError.Stopped (Stop.TooMany n))) = false
is_full (Err (DivisionError.Stopped (Stop.NoSpace n))) = true

abbrev pub count_in : Division → ℕ
count_in (Err (DivisionError.Refused r)) = 0
count_in (Err (DivisionError.AtPose r)) = 0
count_in (Ok n) = n
count_in (Err (DivisionError.Stopped (Stop.TooMany n))) = n
count_in (Err (DivisionError.Stopped (Stop.NoSpace n))) = n

pub done_by : (answer : Answer Item) (n : ℕ) → ended (divided_in answer) ≡ Ok n → (l : List Item) × (answer ≡ Halving.Done n l)
done_by (Halving.Done m l) n e = (l, ap (λ (i : ℕ). Halving.Done i l) (ap count_in e))
done_by (Halving.TooMany m) n e = absurd (false≢true (ap is_done e))
done_by (Halving.NoSpace m) n e = absurd (false≢true (ap is_done e))

many_by : (answer : Answer Item) (n : ℕ) → ended (divided_in answer) ≡ Err (DivisionError.Stopped (Stop.TooMany n)) → answer ≡ Halving.TooMany n
many_by (Halving.Done m l) n e = absurd (false≢true (ap is_many e))
many_by (Halving.TooMany m) n e = ap Halving.TooMany (ap count_in e)
many_by (Halving.NoSpace m) n e = absurd (false≢true (ap is_many e))

full_by : (answer : Answer Item) (n : ℕ) → ended (divided_in answer) ≡ Err (DivisionError.Stopped (Stop.NoSpace n)) → answer ≡ Halving.NoSpace n
full_by (Halving.Done m l) n e = absurd (false≢true (ap is_full e))
full_by (Halving.TooMany m) n e = absurd (false≢true (ap is_full e))
full_by (Halving.NoSpace m) n e = ap Halving.NoSpace (ap count_in e)

-- ---- what is written can be read
paired_apart : (l : List Item) → paired item (map (λ (t : Item). t.pose) l) (map (λ (t : Item). t.joints) l) ≡ l
unfolding paired
paired_apart [] = refl
paired_apart (t ∷ l) = ap (λ (z : List Item). t ∷ z) (paired_apart l)

pub items_left : (l : List Item) (a b : ℕ)
    → items_in (length l) (padded a nought (flat pose_numbers (map (λ (t : Item). t.pose) l))) (padded b nought (flat joint_numbers (map (λ (t : Item). t.joints) l))) ≡ l
unfolding items_in padded
items_left l a b =
    let ps = map (λ (t : Item). t.pose) l in
    let js = map (λ (t : Item). t.joints) l in
    let p : length ps ≡ length l = length-map l (λ (t : Item). t.pose) in
    let q : length js ≡ length l = length-map l (λ (t : Item). t.joints) in
    let u : length l * 6 ≤ length (flat pose_numbers ps) = rw (length_flat pose_codec ps, p) (omega arith) in
    let v : length l * 5 ≤ length (flat joint_numbers js) = rw (length_flat joints_codec js, q) (omega arith) in
    rw (rows_append_le pose_codec (length l) (flat pose_numbers ps) (replicate (a - length (flat pose_numbers ps)) nought) u, rows_append_le joints_codec (length l) (flat joint_numbers js) (replicate (b - length (flat joint_numbers js)) nought) v)
    (ap (λ (n : ℕ). paired item (rows 6 pose_from n (flat pose_numbers ps)) (rows 5 joints_from (length l) (flat joint_numbers js))) (sym p)
    ∙ ap (λ (n : ℕ). paired item (rows 6 pose_from (length ps) (flat pose_numbers ps)) (rows 5 joints_from n (flat joint_numbers js))) (sym q)
    ∙ ap (λ (z : List ToolPose). paired item z (rows 5 joints_from (length js) (flat joint_numbers js))) (rows_flat pose_codec ps)
    ∙ ap (λ (z : List Joints). paired item ps z) (rows_flat joints_codec js)
    ∙ paired_apart l)

behind : (a n : ℕ) (l : List Float) → length l ≡ n → drop n (padded a nought l) ≡ replicate (length (padded a nought l) - n) nought
unfolding padded
behind a n l e =
    let long : length (l ++ replicate (a - length l) nought) ≡ length l + (a - length l) = length-append l (replicate (a - length l) nought) ∙ ap (λ (k : ℕ). length l + k) (length-replicate (a - length l) nought) in
    let same : a - length l ≡ length (l ++ replicate (a - length l) nought) - n = omega (arith, long, e) in
    subst (λ (k : ℕ). drop k (l ++ replicate (a - length l) nought) ≡ replicate (length (l ++ replicate (a - length l) nought) - n) nought) e
    (drop-append_seam l (replicate (a - length l) nought) ∙ ap (λ (k : ℕ). replicate k nought) same)

pub zero_all : (a : ℕ) (out : List Float) → out ≡ replicate a nought → out ≡ replicate (length out) nought
zero_all a out e = e ∙ ap (λ (k : ℕ). replicate k nought) (sym (ap length e ∙ length-replicate a nought))

-- ---- a division that was begun
module _ {k : Kinematics} {tol : Tolerances} {space : ℕ} {g : List Item} (answer : Answer Item) {said : Division} (p₀ j₀ : List Float) {poses joints : List Float}
    (a : Answered k (prepared k) tol space g answer) (e : said ≡ ended (divided_in answer)) (u : poses ≡ poses_over answer p₀) (v : joints ≡ joints_over answer j₀) where
  items_there : (n : ℕ) (l : List Item) → answer ≡ Halving.Done n l → length l ≡ length g + n → items_in (length g + n) poses joints ≡ l
  items_there n l f c = rw (u, v, f, ← c) (items_left l (length p₀) (length j₀))

  result_there : (n : ℕ) → said ≡ Ok n → Result k (prepared k) tol g n (items_in (length g + n) poses joints)
  result_there n w =
      let (l, f) = done_by answer n (sym e ∙ w) in
      let r = a.divided n l f in
      subst (Result k (prepared k) tol g n) (sym (items_there n l f r.counted)) r

  zero_behind : (n : ℕ) → said ≡ Ok n → ZeroBehind (length g + n) poses joints
  zero_behind n w =
      let (l, f) = done_by answer n (sym e ∙ w) in
      let c = (a.divided n l f).counted in
      let ps = map (λ (t : Item). t.pose) l in
      let js = map (λ (t : Item). t.joints) l in
      let x : length (flat pose_numbers ps) ≡ (length g + n) * 6 = length_flat pose_codec ps ∙ ap (λ (i : ℕ). i * 6) (length-map l (λ (t : Item). t.pose) ∙ c) in
      let y : length (flat joint_numbers js) ≡ (length g + n) * 5 = length_flat joints_codec js ∙ ap (λ (i : ℕ). i * 5) (length-map l (λ (t : Item). t.joints) ∙ c) in
      (rw (u, f) (behind (length p₀) ((length g + n) * 6) (flat pose_numbers ps) x), rw (v, f) (behind (length j₀) ((length g + n) * 5) (flat joint_numbers js) y))

  many_zeros : (c : ℕ) → said ≡ Err (DivisionError.Stopped (Stop.TooMany c)) → AllZero poses joints
  many_zeros c w =
      let f = many_by answer c (sym e ∙ w) in
      (zero_all (length p₀) poses (rw f at u), zero_all (length j₀) joints (rw f at v))

  full_zeros : (c : ℕ) → said ≡ Err (DivisionError.Stopped (Stop.NoSpace c)) → AllZero poses joints
  full_zeros c w =
      let f = full_by answer c (sym e ∙ w) in
      (zero_all (length p₀) poses (rw f at u), zero_all (length j₀) joints (rw f at v))

  said_many : {c : ℕ} → answer ≡ Halving.TooMany c → said ≡ Err (DivisionError.Stopped (Stop.TooMany c))
  said_many f = e ∙ ap (λ (z : Answer Item). ended (divided_in z)) f

  said_full : {c : ℕ} → answer ≡ Halving.NoSpace c → said ≡ Err (DivisionError.Stopped (Stop.NoSpace c))
  said_full f = e ∙ ap (λ (z : Answer Item). ended (divided_in z)) f

  pub begun_price : length g ≤ space → Price k tol space g said poses joints
  begun_price room = record {
    divided = result_there;
    unused = zero_behind;
    many = λ h i. (λ q. (a.many i).0 (q.0, many_by answer q.0 (sym e ∙ q.1)), λ n. let (c, f) = (a.many i).1 n in (c, said_many f));
    never_full = λ h c w. a.never_full h c (full_by answer c (sym e ∙ w));
    full = λ h r i. (λ q. (a.full i).0 (q.0, full_by answer q.0 (sym e ∙ q.1)), λ n. let (c, f) = (a.full i).1 n in (c, said_full f));
    never_many = λ h c w. a.never_many h c (many_by answer c (sym e ∙ w));
    fewer = λ h i. absurd (omega arith);
    many_count = λ c w. a.many_count c (many_by answer c (sym e ∙ w));
    full_count = λ r c w. a.full_count c (full_by answer c (sym e ∙ w));
    many_zero = many_zeros;
    full_zero = full_zeros;
  }

-- ---- without space for what is given
pub none_price : {k : Kinematics} {tol : Tolerances} {space : ℕ} {g : List Item} {said : Division} (p₀ j₀ : List Float) {poses joints : List Float}
    → space < length g → said ≡ Err (DivisionError.Stopped (Stop.NoSpace 0)) → poses ≡ replicate (length p₀) nought → joints ≡ replicate (length j₀) nought → Price k tol space g said poses joints
none_price {space = space} {g = g} {said = said} p₀ j₀ {poses} {joints} h e u v = record {
  divided = λ n w. absurd (false≢true (ap is_done (sym e ∙ w)));
  unused = λ n w. absurd (false≢true (ap is_done (sym e ∙ w)));
  many = λ i j. absurd (omega arith);
  never_full = λ i c w. absurd (omega arith);
  full = λ i r j. absurd (omega arith);
  never_many = λ i c w. absurd (false≢true (ap is_many (sym e ∙ w)));
  fewer = λ i j. e;
  many_count = λ c w. absurd (false≢true (ap is_many (sym e ∙ w)));
  full_count = λ r c w. absurd (omega arith);
  many_zero = λ c w. (zero_all (length p₀) poses u, zero_all (length j₀) joints v);
  full_zero = λ c w. (zero_all (length p₀) poses u, zero_all (length j₀) joints v);
}

-- ---- refused before the first test
pub refused_price : {k : Kinematics} {tol : Tolerances} {space : ℕ} {g : List Item} {said : Division} {poses joints : List Float} {r : Refusal} → said ≡ Err (DivisionError.Refused r) → Price k tol space g said poses joints
refused_price {said = said} {r = r} e = record {
  divided = λ n w. absurd (false≢true (ap is_ended (sym e ∙ w)));
  unused = λ n w. absurd (false≢true (ap is_ended (sym e ∙ w)));
  many = λ i j. absurd (subst Checks e i);
  never_full = λ i c w. false≢true (ap is_ended (sym e ∙ w));
  full = λ i s j. absurd (subst Checks e i);
  never_many = λ i c w. false≢true (ap is_ended (sym e ∙ w));
  fewer = λ i j. absurd (subst Checks e i);
  many_count = λ c w. absurd (false≢true (ap is_ended (sym e ∙ w)));
  full_count = λ s c w. absurd (false≢true (ap is_ended (sym e ∙ w)));
  many_zero = λ c w. absurd (false≢true (ap is_ended (sym e ∙ w)));
  full_zero = λ c w. absurd (false≢true (ap is_ended (sym e ∙ w)));
}
