-- What a list of checks that passed says of each of them, and a check that refused of what it tests.
use Prim.Native.Nat.{ℕ}
use mathlib.Core.Path.{◌≡◌, refl, sym, ap, ◌∙◌}
use mathlib.Core.Bool.{Bool, true, false, false≢true}
use Rattle.std.specs.Prelude.{Err, Ok, Result}
use Rattle.refusal.specs.Numbers.{refusal}
use Rattle.refusal.specs.declared.Cause.{Cause}
use Rattle.refusal.specs.declared.Refusal.{Refusal}
use Rattle.chain.specs.declared.Kinematics.{Kinematics}
use Rattle.chain.specs.ChainBytes.{chain_unless}
use Rattle.chain.specs.Checked.{Checked}
use Rattle.chain.specs.Check.{demand, then}

abbrev is_passed : Checked → Bool
is_passed (Ok _) = true
is_passed (Err r) = false

pub refused_passed : {r : Refusal} → ◌≡◌ {A = Checked} (Err r) (Ok tt) → ⊥
refused_passed e = false≢true (ap is_passed e)

pub then_passed : (first second : Checked) → then first second ≡ Ok tt → (first ≡ Ok tt) × (second ≡ Ok tt)
then_passed (Ok _) second e = (refl, e)
then_passed (Err r) second e = absurd (refused_passed e)

-- the first that refuses is the answer
pub first_refused : {first : Checked} {r : Refusal} (second : Checked) → first ≡ Err r → ◌≡◌ {A = Checked} (Err r) (then first second)
first_refused second e = rw e refl

pub demand_passed : (ok : Bool) (cause : Cause) (at : ℕ) → demand ok cause at ≡ Ok tt → ok ≡ true
demand_passed true cause at e = refl
demand_passed false cause at e = absurd (refused_passed e)

abbrev refusal_or : Refusal → Checked → Refusal
refusal_or other (Err r) = r
refusal_or other (Ok _) = other

pub demand_refused : (ok : Bool) (cause : Cause) (at : ℕ) {r : Refusal} → demand ok cause at ≡ Err r → (ok ≡ false) × (r ≡ refusal cause at)
demand_refused true cause at e = absurd (refused_passed (sym e))
demand_refused false cause at {r} e = (refl, sym (ap (refusal_or r) e))

-- ---- a chain that is read into a lent place
pub read_refused : {said : Checked} (k : Kinematics) {read : Result Kinematics Refusal} {r : Refusal} → chain_unless said k ≡ read → said ≡ Err r → read ≡ Err r
read_refused k e was = sym e ∙ ap (λ (c : Checked). chain_unless c k) was

pub read_served : {said : Checked} (k : Kinematics) {read : Result Kinematics Refusal} → chain_unless said k ≡ read → said ≡ Ok tt → read ≡ Ok k
read_served k e was = sym e ∙ ap (λ (c : Checked). chain_unless c k) was

-- ---- six checks in a row
pub record SixPassed (a b c d e f : Checked) : Type 0 where
  pub first : a ≡ Ok tt
  pub second : b ≡ Ok tt
  pub third : c ≡ Ok tt
  pub fourth : d ≡ Ok tt
  pub fifth : e ≡ Ok tt
  pub sixth : f ≡ Ok tt

pub six_passed : (a b c d e f : Checked) → then a (then b (then c (then d (then e f)))) ≡ Ok tt → SixPassed a b c d e f
six_passed a b c d e f h =
    let p = then_passed a (then b (then c (then d (then e f)))) h in
    let q = then_passed b (then c (then d (then e f))) p.1 in
    let r = then_passed c (then d (then e f)) q.1 in
    let s = then_passed d (then e f) r.1 in
    let t = then_passed e f s.1 in
    record { first = p.0; second = q.0; third = r.0; fourth = s.0; fifth = t.0; sixth = t.1 }
