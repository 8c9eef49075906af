-- That what `ready_chain` tests is what the list of checks tests, in another order and each direction once.
use mathlib.Core.Path.{◌≡◌, refl, sym, ap, ◌∙◌}
use mathlib.Core.Bool.{Bool, true, false, not, ◌&&◌, cond, false≢true}
use mathlib.Core.List.{List}
use Prim.Native.Nat.{ℕ, zero, suc, ◌+◌, ◌*◌, ◌≤◌, ◌<◌}
use native.Mathlib.Omega.{arith}
use lib.Dec.{eqb, ltb}
use lib.ListN.{length}
use lib.Ieee.{Float, nan, inf, fin, of_bits, le, lt, eq}
use lib.Ieee.Scale.{finite}
use borrow.Author.Tests.{eq-eqb, ne_eqb, le-ltb, lt-ltb, ltb-true}
use Rattle.std.specs.Prelude.{Err, None, Ok, Option, Some, is_err, is_ok}
use Rattle.float.specs.Helpers.{size_of}
use Rattle.geometry.specs.declared.Vec3.{Vec3}
use Rattle.geometry.specs.Direction.{all_finite, unit_direction, unit_or, along}
use Rattle.refusal.specs.declared.Cause.{Cause}
use Rattle.chain.specs.Checked.{Checked}
use Rattle.chain.specs.declared.RotaryJoint.{RotaryJoint}
use Rattle.chain.specs.declared.Kinematics.{Kinematics}
use Rattle.chain.specs.declared.Prepared.{Prepared}
use Rattle.chain.specs.declared.Spin.{Spin}
use Rattle.chain.specs.Bytes.{byte_at, vector_at}
use Rattle.chain.specs.Check.{demand, then, served, has_direction, known_letter, other_letter, travel_good, rotary_check, second_check, chain_check, one_or_two, within, all_within, longest, farthest, most_turned, chain_within, rotary_within}
use Rattle.chain.specs.ChainBytes.{zeros, axis_field, second_field, spindle_field, rotary_fields, second_fields, chain_fields, rotary_at, second_at, no_rotary, chain_at, chain_unless, no_chain, read_count, read_chain, read_counted, record_length}
use Rattle.chain.specs.Prepared.{unit_axis, spin_of, second_spin, prepared}
use Rattle.chain.specs.Ready.{ready_of, ready_read, ready}
use Rattle.chain.specs.ReadySteps.{rotary_good, record_good, first_good, second_good, spin_at, directed_second, with_second, ready_counted}

-- ---- booleans, and checks as booleans
pub both : (a b : Bool) → (a && b) ≡ true → (a ≡ true) × (b ≡ true)
both true b h = (refl, h)
both false b h = absurd (false≢true h)

and_false : (a : Bool) → (a && false) ≡ false
and_false true = refl
and_false false = refl

pub same : (a b : Bool) → (a ≡ true → b ≡ true) → (b ≡ true → a ≡ true) → a ≡ b
same true b f g = sym (f refl)
same false true f g = absurd (false≢true (g refl))
same false false f g = refl

pub passed_demand : (b : Bool) (n : Cause) (at : ℕ) → is_ok (demand b n at) ≡ b
passed_demand true n at = refl
passed_demand false n at = refl

pub passed_then : (c d : Checked) → is_ok (then c d) ≡ (is_ok c && is_ok d)
passed_then (Ok _) d = refl
passed_then (Err r) d = refl

pub ok_passed : (c : Checked) → is_ok c ≡ true → c ≡ Ok tt
ok_passed (Ok _) h = refl
ok_passed (Err r) h = absurd (false≢true h)

-- what a test for a refusal says
pub failed : (c : Checked) → is_err c ≡ true → is_ok c ≡ false
failed (Ok _) h = absurd (false≢true h)
failed (Err r) h = refl

pub not_failed : (c : Checked) → is_err c ≡ false → is_ok c ≡ true
not_failed (Ok _) h = refl
not_failed (Err r) h = absurd (false≢true (sym h))

pub two_checks : (c d : Checked) → is_ok (then c d) ≡ true → (is_ok c ≡ true) × (is_ok d ≡ true)
two_checks c d h = both (is_ok c) (is_ok d) (sym (passed_then c d) ∙ h)

pub demanded : (b : Bool) (n : Cause) (at : ℕ) → is_ok (demand b n at) ≡ true → b ≡ true
demanded b n at h = sym (passed_demand b n at) ∙ h

-- ---- what makes a test of finiteness needless
direction_finite : (v : Vec3) → has_direction v ≡ true → all_finite v ≡ true
unfolding has_direction unit_direction
direction_finite v h = go (all_finite v) _ h
  where
    go : (b : Bool) (d : Option Vec3) → served (cond (not b) None d) ≡ true → b ≡ true
    go true d h = refl
    go false d h = absurd (false≢true h)

pub within_finite : (c : Float) → le (inf false) c ≡ false → (x : Float) → within x c ≡ true → finite x ≡ true
unfolding within size_of
within_finite c h nan l = absurd (false≢true (sym (below c) ∙ l))
  where
    below : (c : Float) → le nan c ≡ false
    below c = unfold le in unfold lt in unfold eq in refl
within_finite c h (inf s) l = absurd (false≢true (sym h ∙ l))
within_finite c h (fin s m e) l = refl

pub over_longest : le (inf false) longest ≡ false
unfolding le lt eq of_bits
over_longest = refl

pub over_farthest : le (inf false) farthest ≡ false
unfolding le lt eq of_bits
over_farthest = refl

pub over_turned : le (inf false) most_turned ≡ false
unfolding le lt eq of_bits
over_turned = refl

pub all_within_finite : (c : Float) → le (inf false) c ≡ false → (v : Vec3) → all_within v c ≡ true → all_finite v ≡ true
unfolding all_within all_finite
all_within_finite c h v l =
    let p = both (within v.x c && within v.y c) (within v.z c) l in
    let q = both (within v.x c) (within v.y c) p.0 in
    rw (within_finite c h v.x q.0, within_finite c h v.y q.1, within_finite c h v.z p.1)

-- ---- a rotary
module _ (j : RotaryJoint) (earlier : Option ℕ) (i : ℕ) where
  abbrev K : Bool
  K = known_letter j.letter

  abbrev O : Bool
  O = other_letter j.letter earlier

  abbrev L : Bool
  L = travel_good j.limits

  abbrev D : Bool
  D = has_direction j.axis

  abbrev F : Bool
  F = finite j.rest

  rotary_passed : is_ok (rotary_check j earlier i) ≡ (K && (O && (all_finite j.axis && (D && (all_finite j.pivot && (L && F))))))
  unfolding rotary_check
  rotary_passed = go (known_letter j.letter) (other_letter j.letter earlier) (all_finite j.axis) (has_direction j.axis) (all_finite j.pivot) (travel_good j.limits) (finite j.rest)
    where
      go : (a b c d e f g : Bool) → is_ok (then (demand a Cause.RotaryLetter i) (then (demand b Cause.LetterTwice i) (then (demand c Cause.ChainNotFinite i) (then (demand d Cause.RotaryAxisZero i) (then (demand e Cause.ChainNotFinite i) (then (demand f Cause.LimitsRefused i) (demand g Cause.ChainNotFinite i)))))))
          ≡ (a && (b && (c && (d && (e && (f && g))))))
      go false b c d e f g = refl
      go true false c d e f g = refl
      go true true false d e f g = refl
      go true true true false e f g = refl
      go true true true true false f g = refl
      go true true true true true false g = refl
      go true true true true true true true = refl
      go true true true true true true false = refl

  pub rotary_good_is : (is_ok (rotary_check j earlier i) && rotary_within j) ≡ (rotary_good j earlier && D)
  unfolding rotary_good rotary_within
  rotary_good_is =
      ap (λ (z : Bool). z && (all_within j.pivot longest && within j.rest most_turned)) rotary_passed
      ∙ go K O (all_finite j.axis) D (all_finite j.pivot) L F (all_within j.pivot longest) (within j.rest most_turned) (direction_finite j.axis) (all_within_finite longest over_longest j.pivot) (within_finite most_turned over_turned j.rest)
    where
      go : (k o a d p l f w v : Bool) → (d ≡ true → a ≡ true) → (w ≡ true → p ≡ true) → (v ≡ true → f ≡ true)
          → ((k && (o && (a && (d && (p && (l && f)))))) && (w && v)) ≡ (k && o && l && (w && v) && d)
      go k o a d p l f w v x y z = same _ _ forth back
        where
          forth : ((k && (o && (a && (d && (p && (l && f)))))) && (w && v)) ≡ true → (k && o && l && (w && v) && d) ≡ true
          forth h =
              let q = both (k && (o && (a && (d && (p && (l && f)))))) (w && v) h in
              let wv = both w v q.1 in
              let k1 = both k (o && (a && (d && (p && (l && f))))) q.0 in
              let o1 = both o (a && (d && (p && (l && f)))) k1.1 in
              let a1 = both a (d && (p && (l && f))) o1.1 in
              let d1 = both d (p && (l && f)) a1.1 in
              let p1 = both p (l && f) d1.1 in
              let l1 = both l f p1.1 in
              rw (k1.0, o1.0, l1.0, wv.0, wv.1, d1.0)

          back : (k && o && l && (w && v) && d) ≡ true → ((k && (o && (a && (d && (p && (l && f)))))) && (w && v)) ≡ true
          back h =
              let q = both (k && o && l && (w && v)) d h in
              let r = both (k && o && l) (w && v) q.0 in
              let s = both (k && o) l r.0 in
              let m = both k o s.0 in
              let wv = both w v r.1 in
              rw (m.0, m.1, x q.1, q.1, y wv.0, s.1, z wv.1, wv.0, wv.1)

-- ---- the chain's bytes, with records of w bytes
module _ (w : ℕ) (bytes : List ℕ) where
  -- what the three calls for each rotary test, with the direction of its axis
  abbrev R : ℕ → Option ℕ → ℕ → Bool
  R at earlier i = is_ok (rotary_fields bytes at) && (is_ok (rotary_check (rotary_at w bytes at) earlier i) && rotary_within (rotary_at w bytes at))

  record_good_is : (at : ℕ) (earlier : Option ℕ) (i : ℕ) → R at earlier i ≡ (record_good w bytes at earlier && has_direction (rotary_at w bytes at).axis)
  unfolding record_good
  record_good_is at earlier i =
      ap (λ (z : Bool). is_ok (rotary_fields bytes at) && z) (rotary_good_is (rotary_at w bytes at) earlier i)
      ∙ turn (is_ok (rotary_fields bytes at)) (rotary_good (rotary_at w bytes at) earlier) (has_direction (rotary_at w bytes at).axis)
    where
      turn : (a b c : Bool) → (a && (b && c)) ≡ (a && b && c)
      turn true b c = refl
      turn false b c = refl

-- ---- the two orders of the tests: z for the chain's zero bytes, f, r, w for a rotary's bytes, check and sizes, g for what is tested of it without its direction, d and e for directions
any_order : (z f1 f2 r1 r2 a e w1 w2 g1 g2 d1 d2 : Bool) → (f1 && (r1 && w1)) ≡ (g1 && d1) → (f2 && (r2 && w2)) ≡ (g2 && d2) → (e ≡ true → a ≡ true)
    → ((z && (f1 && f2)) && ((r1 && (r2 && (a && e))) && (w1 && w2))) ≡ ((z && g1) && (g2 && (d1 && (d2 && e))))
any_order z f1 f2 r1 r2 a e w1 w2 g1 g2 d1 d2 first second finite = same _ _ forth back
  where
    forth : ((z && (f1 && f2)) && ((r1 && (r2 && (a && e))) && (w1 && w2))) ≡ true → ((z && g1) && (g2 && (d1 && (d2 && e)))) ≡ true
    forth h =
        let p = both (z && (f1 && f2)) ((r1 && (r2 && (a && e))) && (w1 && w2)) h in
        let fields = both z (f1 && f2) p.0 in
        let f = both f1 f2 fields.1 in
        let q = both (r1 && (r2 && (a && e))) (w1 && w2) p.1 in
        let w = both w1 w2 q.1 in
        let r = both r1 (r2 && (a && e)) q.0 in
        let s = both r2 (a && e) r.1 in
        let t = both a e s.1 in
        let i : (f1 && (r1 && w1)) ≡ true = rw (f.0, r.0, w.0) in
        let j : (f2 && (r2 && w2)) ≡ true = rw (f.1, s.0, w.1) in
        let x = both g1 d1 (sym first ∙ i) in
        let y = both g2 d2 (sym second ∙ j) in
        rw (fields.0, x.0, y.0, x.1, y.1, t.1)

    back : ((z && g1) && (g2 && (d1 && (d2 && e)))) ≡ true → ((z && (f1 && f2)) && ((r1 && (r2 && (a && e))) && (w1 && w2))) ≡ true
    back h =
        let p = both (z && g1) (g2 && (d1 && (d2 && e))) h in
        let x = both z g1 p.0 in
        let y = both g2 (d1 && (d2 && e)) p.1 in
        let u = both d1 (d2 && e) y.1 in
        let v = both d2 e u.1 in
        let i : (g1 && d1) ≡ true = rw (x.1, u.0) in
        let j : (g2 && d2) ≡ true = rw (y.0, v.0) in
        let f = both f1 (r1 && w1) (first ∙ i) in
        let g = both r1 w1 f.1 in
        let k = both f2 (r2 && w2) (second ∙ j) in
        let l = both r2 w2 k.1 in
        rw (x.0, f.0, k.0, g.0, l.0, finite v.1, v.1, g.1, l.1)

-- the code's tests, one after another: of two rotaries and of one
opened : (f s : Bool) (d1 d2 e : Option Vec3) (v1 v2 v : Vec3) (S : Vec3 → Option Spin) (X : Vec3 → Option Spin → Vec3 → Prepared)
    → cond (not f) None (cond (not s) None (along d1 None (λ a. with_second (along d2 None (λ b. Some (S b))) (λ b. along e None (λ c. Some (X a b c))))))
    ≡ cond (f && (s && (served d1 && (served d2 && served e)))) (Some (X (along d1 v1 (λ u. u)) (S (along d2 v2 (λ u. u))) (along e v (λ u. u)))) None
opened false s d1 d2 e v1 v2 v S X = refl
opened true false d1 d2 e v1 v2 v S X = refl
opened true true None d2 e v1 v2 v S X = refl
opened true true (Some a) None e v1 v2 v S X = refl
opened true true (Some a) (Some b) None v1 v2 v S X = refl
opened true true (Some a) (Some b) (Some c) v1 v2 v S X = refl

opened_one : (f s : Bool) (d1 e : Option Vec3) (v1 v : Vec3) (X : Vec3 → Option Spin → Vec3 → Prepared)
    → cond (not f) None (cond (not s) None (along d1 None (λ a. along e None (λ c. Some (X a None c)))))
    ≡ cond (f && (s && (served d1 && served e))) (Some (X (along d1 v1 (λ u. u)) None (along e v (λ u. u)))) None
opened_one false s d1 e v1 v X = refl
opened_one true false d1 e v1 v X = refl
opened_one true true None e v1 v X = refl
opened_one true true (Some a) None v1 v X = refl
opened_one true true (Some a) (Some c) v1 v X = refl

-- the definition's, as one
closed : (c : Checked) (k : Kinematics) → ready_read (chain_unless c k) ≡ cond (is_ok c && (is_ok (chain_check k) && chain_within k)) (Some (prepared k)) None
unfolding ready_of
closed (Ok _) k = refl
closed (Err r) k = refl

module _ (w : ℕ) (bytes : List ℕ) where
  abbrev Read : ℕ → Kinematics
  Read count = chain_at w bytes count

  -- where the second rotary's axis is
  abbrev inner : ℕ
  inner = axis_field (second_field w)

  fields_passed : (count : ℕ) → is_ok (chain_fields w bytes count) ≡ (is_ok (zeros bytes 1 7) && (is_ok (rotary_fields bytes 8) && is_ok (second_fields w bytes count)))
  unfolding chain_fields
  fields_passed count =
      passed_then (zeros bytes 1 7) (then (rotary_fields bytes 8) (second_fields w bytes count))
      ∙ ap (λ (z : Bool). is_ok (zeros bytes 1 7) && z) (passed_then (rotary_fields bytes 8) (second_fields w bytes count))

  check_passed : (k : Kinematics) → one_or_two k.count ≡ true
      → is_ok (chain_check k) ≡ (is_ok (rotary_check k.first None 0) && (is_ok (second_check k) && (all_finite k.spindle_axis && has_direction k.spindle_axis)))
  unfolding chain_check
  check_passed k h = rw h (go (rotary_check k.first None 0) (second_check k) (all_finite k.spindle_axis) (has_direction k.spindle_axis))
    where
      go : (c d : Checked) (a b : Bool) → is_ok (then c (then d (then (demand a Cause.ChainNotFinite 0) (demand b Cause.SpindleZero 0)))) ≡ (is_ok c && (is_ok d && (a && b)))
      go (Err r) d a b = refl
      go (Ok _) (Err r) a b = refl
      go (Ok _) (Ok _) false b = refl
      go (Ok _) (Ok _) true true = refl
      go (Ok _) (Ok _) true false = refl

  -- the code's tests
  abbrev Tests : ℕ → Bool
  Tests count =
      first_good w bytes
      && (second_good w bytes count
      && (served (unit_direction (vector_at bytes 16)) && (cond (eqb count 2) (served (unit_direction (vector_at bytes inner))) true && served (unit_direction (vector_at bytes (spindle_field w count))))))

  -- the code's answer, with the chain prepared as `prepare` does it
  abbrev made : Vec3 → Option Spin → Vec3 → Prepared
  made axis second spindle = record { first = spin_at bytes 8 axis; second = second; spindle = spindle }

  two_answer : ready_counted w bytes 2 ≡ cond (Tests 2) (Some (prepared (Read 2))) None
  unfolding ready_counted prepared spin_of second_spin unit_axis unit_or chain_at rotary_at second_at spin_at directed_second
  two_answer =
      opened (first_good w bytes) (second_good w bytes 2) (unit_direction (vector_at bytes 16)) (unit_direction (vector_at bytes inner)) (unit_direction (vector_at bytes (spindle_field w 2))) (vector_at bytes 16) (vector_at bytes inner)
      (vector_at bytes (spindle_field w 2)) (λ axis. Some (spin_at bytes (second_field w) axis)) made

  one_answer : ready_counted w bytes 1 ≡ cond (Tests 1) (Some (prepared (Read 1))) None
  unfolding ready_counted prepared spin_of second_spin unit_axis unit_or chain_at rotary_at spin_at directed_second
  one_answer =
      opened_one (first_good w bytes) (second_good w bytes 1) (unit_direction (vector_at bytes 16)) (unit_direction (vector_at bytes (spindle_field w 1))) (vector_at bytes 16) (vector_at bytes (spindle_field w 1)) made

  -- the definition's tests, from the code's
  two_order : (is_ok (chain_fields w bytes 2) && (is_ok (chain_check (Read 2)) && chain_within (Read 2))) ≡ Tests 2
  unfolding first_good second_good has_direction second_fields second_check chain_within chain_at second_at rotary_at one_or_two
  two_order = rw (fields_passed 2, check_passed (Read 2) refl)
      (any_order (is_ok (zeros bytes 1 7)) (is_ok (rotary_fields bytes 8)) (is_ok (rotary_fields bytes (second_field w))) (is_ok (rotary_check (rotary_at w bytes 8) None 0)) (is_ok (rotary_check (rotary_at w bytes (second_field w)) (Some (byte_at bytes 8)) 1))
      (all_finite (vector_at bytes (spindle_field w 2))) (has_direction (vector_at bytes (spindle_field w 2))) (rotary_within (rotary_at w bytes 8)) (rotary_within (rotary_at w bytes (second_field w))) (record_good w bytes 8 None)
      (record_good w bytes (second_field w) (Some (byte_at bytes 8))) (has_direction (vector_at bytes 16)) (has_direction (vector_at bytes inner))
      (record_good_is w bytes 8 None 0) (record_good_is w bytes (second_field w) (Some (byte_at bytes 8)) 1) (direction_finite (vector_at bytes (spindle_field w 2))))

  one_order : (is_ok (chain_fields w bytes 1) && (is_ok (chain_check (Read 1)) && chain_within (Read 1))) ≡ Tests 1
  unfolding first_good second_good has_direction second_fields second_check chain_within chain_at second_at no_rotary rotary_at one_or_two
  one_order = rw (fields_passed 1, check_passed (Read 1) refl)
      (any_order (is_ok (zeros bytes 1 7)) (is_ok (rotary_fields bytes 8)) true (is_ok (rotary_check (rotary_at w bytes 8) None 0)) true (all_finite (vector_at bytes (spindle_field w 1))) (has_direction (vector_at bytes (spindle_field w 1)))
      (rotary_within (rotary_at w bytes 8)) true (record_good w bytes 8 None) true (has_direction (vector_at bytes 16)) true
      (record_good_is w bytes 8 None 0) refl (direction_finite (vector_at bytes (spindle_field w 1))))

  counted : (count : ℕ) → one_or_two count ≡ true → ready_counted w bytes count ≡ ready_read (chain_unless (chain_fields w bytes count) (Read count))
  counted zero h = absurd (none h)
    where
      none : one_or_two 0 ≡ true → ⊥
      none h = false≢true (unfold one_or_two in h)
  counted (suc zero) h = one_answer ∙ ap (λ (z : Bool). cond z (Some (prepared (Read 1))) None) (sym one_order) ∙ sym (closed (chain_fields w bytes 1) (Read 1))
  counted (suc (suc zero)) h = two_answer ∙ ap (λ (z : Bool). cond z (Some (prepared (Read 2))) None) (sym two_order) ∙ sym (closed (chain_fields w bytes 2) (Read 2))
  counted (suc (suc (suc n))) h = absurd (none n h)
    where
      over : (n : ℕ) → suc (suc (suc n)) < 3 → ⊥
      over n h = omega arith

      none : (n : ℕ) → one_or_two (suc (suc (suc n))) ≡ true → ⊥
      none n h = over n (ltb-true (suc (suc (suc n))) 3 (both (not (ltb (suc (suc (suc n))) 1)) (ltb (suc (suc (suc n))) 3) (unfold one_or_two in h)).1)

  -- with records as long as the bytes' length says
  module _ (count : ℕ) (record_is : w ≡ record_length (length bytes) count) (some : 1 ≤ length bytes) (of : one_or_two count ≡ true) where
    read_counted_is : byte_at bytes 0 ≡ count → length bytes ≡ 32 + w * count → read_chain bytes ≡ chain_unless (chain_fields w bytes count) (Read count)
    unfolding read_chain read_counted read_count
    read_counted_is b e = rw (le-ltb _ _ some, b, ← record_is, of, eq-eqb _ _ e)

    pub ready_counted_is : byte_at bytes 0 ≡ count → length bytes ≡ 32 + w * count → ready_counted w bytes count ≡ ready bytes
    unfolding ready
    ready_counted_is b e = counted count of ∙ ap ready_read (sym (read_counted_is b e))

    pub no_length : count ≡ byte_at bytes 0 → (length bytes ≡ 32 + w * count → ⊥) → None ≡ ready bytes
    unfolding ready read_chain read_counted read_count
    no_length b e = rw (le-ltb _ _ some, ← b, ← record_is, of, ne_eqb _ _ e)

module _ (bytes : List ℕ) where
  refused_count : (count : ℕ) → one_or_two count ≡ false → None ≡ ready_of (no_chain count)
  unfolding ready_of chain_check no_chain
  refused_count count o = rw o

  -- what is read as no chain, or as one that is refused for its count
  pub no_bytes : length bytes < 1 → None ≡ ready bytes
  unfolding ready read_chain
  no_bytes h = rw (lt-ltb _ _ h)

  pub no_count : (count : ℕ) → count ≡ byte_at bytes 0 → 1 ≤ length bytes → one_or_two count ≡ false → None ≡ ready bytes
  unfolding ready read_chain read_counted read_count
  no_count count b l o = rw (le-ltb _ _ l, ← b, o) (refused_count count o)
