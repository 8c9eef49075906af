-- Admission behind an entry: what its checks, the chain's bytes and the dispatcher leave is what the definition says.
use Prim.Native.Nat.{ℕ}
use mathlib.Core.Path.{◌≡◌, refl, ap, ◌∙◌}
use mathlib.Core.Bool.{Bool, true, false}
use mathlib.Core.List.{List}
use lib.ListN.{length}
use lib.Ieee.{Float}
use Rattle.std.specs.Prelude.{Err, Ok, Result}
use Rattle.refusal.specs.declared.Refusal.{Refusal}
use Rattle.refusal.specs.declared.Cause.{Cause}
use Rattle.refusal.specs.Numbers.{refusal}
use Rattle.chain.specs.declared.Kinematics.{Kinematics}
use Rattle.chain.specs.ChainBytes.{read_chain}
use Rattle.divide.specs.Checking.{four_whole, checks_in_order, division_check}
use Rattle.cell.specs.State.{Buffers}
use Rattle.cell.specs.Admitting.{Admission, Kept, Inputs, inputs, state_check, admitted_in, admit_check, admit_answer, words_after, numbers_after, outputs_after}
use Rattle.maztubel.specs.CellEntries.{AdmitAsked, refused_check, admit_read, admit_of, words_read, numbers_read, outputs_read, words_admitted, numbers_admitted, outputs_admitted}

abbrev pub refused_by : Refusal → Result ℕ Refusal
refused_by r = Err r

module _ (words : List ℕ) (numbers : List Float) (a : AdmitAsked) where
  pub record AdmitLeft (said : Result ℕ Refusal) (words' : List ℕ) (numbers' poses' joints' : List Float) : Type 0 where
    pub answer : said ≡ admitted_in (admit_of words numbers a)
    pub words_so : words' ≡ words_admitted (admit_of words numbers a) words a
    pub numbers_so : numbers' ≡ numbers_admitted (admit_of words numbers a) words numbers a
    pub poses_so : poses' ≡ (outputs_admitted (admit_of words numbers a) a).poses
    pub joints_so : joints' ≡ (outputs_admitted (admit_of words numbers a) a).joints

  -- ---- a refusal keeps all, whatever the bytes are
  words_kept : (c : Result Kinematics Refusal) (r : Refusal) → words ≡ words_read c (Kept r) words a
  words_kept (Err s) r = refl
  words_kept (Ok k) r = refl

  numbers_kept : (c : Result Kinematics Refusal) (r : Refusal) → numbers ≡ numbers_read c (Kept r) words numbers a
  numbers_kept (Err s) r = refl
  numbers_kept (Ok k) r = refl

  outputs_kept : (c : Result Kinematics Refusal) (r : Refusal) → a.out ≡ outputs_read c (Kept r) a
  outputs_kept (Err s) r = refl
  outputs_kept (Ok k) r = refl

  refused : {r : Refusal} → Kept r ≡ admit_of words numbers a → AdmitLeft (Err r) words numbers a.out.poses a.out.joints
  refused {r} e =
      let c = read_chain a.chain in
      let o = outputs_kept c r ∙ ap (λ (x : Admission). outputs_read c x a) e in
      record {
        answer = ap admitted_in e;
        words_so = words_kept c r ∙ ap (λ (x : Admission). words_read c x words a) e;
        numbers_so = numbers_kept c r ∙ ap (λ (x : Admission). numbers_read c x words numbers a) e;
        poses_so = ap (λ (b : Buffers). b.poses) o;
        joints_so = ap (λ (b : Buffers). b.joints) o;
      }

  abbrev whole : Bool
  whole = four_whole (length a.poses) (length a.joints) (length a.out.poses) (length a.out.joints)

  state_refused : (c : Result Kinematics Refusal) {r : Refusal} → state_check words numbers ≡ Err r → Kept r ≡ admit_read c words numbers a
  unfolding refused_check admit_answer admit_check
  state_refused (Err s) e = rw e
  state_refused (Ok k) e = rw e

  pub admit_state : {r : Refusal} → state_check words numbers ≡ Err r → AdmitLeft (Err r) words numbers a.out.poses a.out.joints
  unfolding admit_of
  admit_state e = refused (state_refused (read_chain a.chain) e)

  module _ (passed : state_check words numbers ≡ Ok tt) where
    -- the dispatcher's own first check of a path is that of its lengths
    lengths_refused : (c : Result Kinematics Refusal) → whole ≡ false → Kept (refusal Cause.LengthsDiffer 0) ≡ admit_read c words numbers a
    unfolding refused_check admit_answer admit_check division_check checks_in_order
    lengths_refused (Err s) w = rw (passed, w)
    lengths_refused (Ok k) w = rw (passed, w)

    pub admit_lengths : whole ≡ false → AdmitLeft (Err (refusal Cause.LengthsDiffer 0)) words numbers a.out.poses a.out.joints
    unfolding admit_of
    admit_lengths w = refused (lengths_refused (read_chain a.chain) w)

    pub admit_bytes : {r : Refusal} → whole ≡ true → read_chain a.chain ≡ Err r → AdmitLeft (Err r) words numbers a.out.poses a.out.joints
    unfolding admit_of refused_check
    admit_bytes w e = refused (rw (e, passed, w))

  module _ {k : Kinematics} (read : read_chain a.chain ≡ Ok k) where
    abbrev given : Inputs
    given = inputs k a.chord a.axis a.poses a.joints

    same : admit_of words numbers a ≡ admit_answer words numbers given a.out
    unfolding admit_of
    same = rw read

    pub admit_chain : {said : Result ℕ Refusal} {words' : List ℕ} {numbers' poses' joints' : List Float}
        → said ≡ admitted_in (admit_answer words numbers given a.out)
        → words' ≡ words_after (admit_answer words numbers given a.out) words given a.out
        → numbers' ≡ numbers_after (admit_answer words numbers given a.out) words numbers given a.out
        → poses' ≡ (outputs_after (admit_answer words numbers given a.out) given a.out).poses
        → joints' ≡ (outputs_after (admit_answer words numbers given a.out) given a.out).joints → AdmitLeft said words' numbers' poses' joints'
    admit_chain s x y u v =
        record { answer = rw same s; words_so = rw (same, read) x; numbers_so = rw (same, read) y; poses_so = rw (same, read) u; joints_so = rw (same, read) v }
