-- Slices of turns, one after another, come to what all turns in one come to; and one slice of as many turns as there is
-- work for comes to it at once (`ends_at_once`): so the whole division and a part of it run by one loop.
use Prim.Native.Nat.{ℕ, zero, suc, ◌+◌, ◌-◌, ◌*◌, ◌≤◌, ◌<◌}
use native.Mathlib.Omega.{arith}
use mathlib.Core.Path.{◌≡◌, refl, ap, ◌∙◌, subst}
use mathlib.Core.Bool.{Bool, true, false, cond}
use mathlib.Core.List.{List}
use borrow.Author.Tests.{leb-true, leb-false}
use lib.Dec.{leb}
use lib.Ieee.{Float}
use Rattle.std.specs.Prelude.{Err, Ok}
use Rattle.halving.specs.Halving.{Answer, Done}
use Rattle.halving.proofs.Machine.{start_anywhere, finish}
use Rattle.chain.specs.declared.Prepared.{Prepared}
use Rattle.middle.specs.declared.Item.{Item}
use Rattle.middle.specs.declared.Tolerances.{Tolerances}
use Rattle.turn.specs.declared.Machine.{Machine}
use Rattle.turn.specs.declared.Stop.{Stop}
use Rattle.turn.specs.Turning.{most, Turn, turn, poses_after, joints_after}
use Rattle.turn.proofs.Stored.{items_length, items_take}
use Rattle.turn.proofs.Running.{Here, Turned, work, turned}
use Rattle.slice.specs.Slicing.{Slice, stopped, going_on, sliced}
use Rattle.machine.specs.Dividing.{Ready, held, halved_from, Ran}

-- ---- from a machine that is ready
module _ (p : Prepared) (tol : Tolerances) (space : ℕ) (poses₀ joints₀ : List Float) (m₀ : Machine) where
  abbrev given : List Item
  given = held space m₀ poses₀ joints₀

  abbrev whole : Answer Item
  whole = halved_from p tol space m₀ poses₀ joints₀

  abbrev Going : Machine → List Float → List Float → Type 0
  Going m poses joints = Here p tol space given m₀.inserted poses joints m

  going_start : Ready p tol space m₀ poses₀ joints₀ → Going m₀ poses₀ joints₀
  going_start r = record {
    state = start_anywhere (items_length space poses₀ joints₀) r.some_placed r.apart r.waits r.few r.calm;
    cached = r.cached;
    poses_long = r.poses_long;
    joints_long = r.joints_long;
  }

  going_end : (m : Machine) (poses joints : List Float) → Going m poses joints → space ≤ m.waiting → Ran whole space poses joints (Ok m)
  unfolding halved_from
  going_end m poses joints g h =
      let s = g.state in
      let k : m.placed ≤ space = omega (arith, s.apart, s.waits) in
      record { so = (finish s h ∙ ap (Done m.inserted) (items_take m.placed space poses joints k), k) }

  -- what so many turns leave: a machine that goes on, or the end
  abbrev Left : Turn → List Float → List Float → Type 0
  Left (Ok m) poses joints = Going m poses joints
  Left (Err s) poses joints = Ran whole space poses joints (Err s)

  abbrev LeftBy : Slice → Type 0
  LeftBy s = Left s.turn s.poses s.joints

  stopped_so : (m : Machine) (poses joints : List Float) (s : Stop) → Turned p tol space given m₀.inserted m poses joints (Err s) → Left (Err s) poses joints
  unfolding halved_from
  stopped_so m poses joints (Stop.TooMany n) e = record { so = e }
  stopped_so m poses joints (Stop.NoSpace n) e = record { so = e }

  slice_left : (n : ℕ) (m : Machine) (poses joints : List Float) → Going m poses joints → LeftBy (sliced n p tol space m poses joints)
  unfolding sliced
  slice_left zero m poses joints g = g
  slice_left (suc n) m poses joints g = by_waiting (leb space m.waiting) (leb-false space m.waiting) (slice_left n)
    where
      ps : List Float
      ps = poses_after p tol space m poses joints

      js : List Float
      js = joints_after p tol space m poses joints

      by_turn : (t : Turn) → Turned p tol space given m₀.inserted m ps js t → ((k : Machine) (a b : List Float) → Going k a b → LeftBy (sliced n p tol space k a b))
          → LeftBy (going_on (sliced n p tol space) t ps js)
      by_turn (Ok next) h ih = ih next ps js h.0
      by_turn (Err s) h ih = stopped_so m ps js s h

      by_waiting : (b : Bool) → (b ≡ false → m.waiting < space) → ((k : Machine) (a b : List Float) → Going k a b → LeftBy (sliced n p tol space k a b))
          → LeftBy (cond b (stopped (Ok m) poses joints) (going_on (sliced n p tol space) (turn p tol space m poses joints) ps js))
      by_waiting true f ih = g
      by_waiting false f ih = by_turn (turn p tol space m poses joints) (turned p tol space given m₀.inserted g (f refl)) ih

  -- ---- slice after slice, the outputs as the last one left them
  abbrev pub Finished : Turn → Type 0
  Finished (Ok m) = space ≤ m.waiting
  Finished (Err s) = Unit {0}

  pub data Sliced (tests : ℕ) : Machine → List Float → List Float → Turn → List Float → List Float → Type 0 where
    last : {m : Machine} {poses joints poses' joints' : List Float} {t : Turn} → sliced tests p tol space m poses joints ≡ stopped t poses' joints' → Finished t
        → Sliced tests m poses joints t poses' joints'
    again : {m next : Machine} {poses joints ps js poses' joints' : List Float} {t : Turn} → sliced tests p tol space m poses joints ≡ stopped (Ok next) ps js
        → Sliced tests next ps js t poses' joints' → Sliced tests m poses joints t poses' joints'

  ended : (t : Turn) (poses joints : List Float) → Left t poses joints → Finished t → Ran whole space poses joints t
  ended (Ok m) poses joints g h = going_end m poses joints g h
  ended (Err s) poses joints r h = r

  slices_go : {tests : ℕ} {m : Machine} {poses joints poses' joints' : List Float} {t : Turn} → Sliced tests m poses joints t poses' joints' → Going m poses joints
      → Ran whole space poses' joints' t
  slices_go {tests} {m} {poses} {joints} (last {poses' = ps} {joints' = js} {t = t} e h) g = ended t ps js (subst LeftBy e (slice_left tests m poses joints g)) h
  slices_go {tests} {m} {poses} {joints} (again {next = next} {ps = ps} {js = js} e s) g = slices_go s (subst LeftBy e (slice_left tests m poses joints g))

  -- however many turns a slice has, the end is that of all turns in one
  pub slices_end : {tests : ℕ} {poses joints : List Float} {t : Turn} → Ready p tol space m₀ poses₀ joints₀ → Sliced tests m₀ poses₀ joints₀ t poses joints
      → Ran whole space poses joints t
  slices_end r s = slices_go s (going_start r)

  -- ---- a slice of at least as many turns as there is work for is finished
  abbrev left_to_do : Machine → ℕ
  left_to_do = work p tol space given m₀.inserted

  abbrev FinishedBy : Slice → Type 0
  FinishedBy s = Finished s.turn

  slice_finished : (n : ℕ) (m : Machine) (poses joints : List Float) → Going m poses joints → left_to_do m ≤ n → FinishedBy (sliced n p tol space m poses joints)
  unfolding sliced
  slice_finished zero m poses joints g h = let k : space ≤ m.waiting = omega (arith, h) in k
  slice_finished (suc n) m poses joints g h = by_waiting (leb space m.waiting) (leb-true space m.waiting) (leb-false space m.waiting) (slice_finished n)
    where
      ps : List Float
      ps = poses_after p tol space m poses joints

      js : List Float
      js = joints_after p tol space m poses joints

      by_turn : (t : Turn) → Turned p tol space given m₀.inserted m ps js t
          → ((k : Machine) (a b : List Float) → Going k a b → left_to_do k ≤ n → FinishedBy (sliced n p tol space k a b))
          → FinishedBy (going_on (sliced n p tol space) t ps js)
      by_turn (Ok next) e ih = let less = e.1 in ih next ps js e.0 (omega (arith, less, h))
      by_turn (Err s) e ih = tt

      by_waiting : (b : Bool) → (b ≡ true → space ≤ m.waiting) → (b ≡ false → m.waiting < space)
          → ((k : Machine) (a b : List Float) → Going k a b → left_to_do k ≤ n → FinishedBy (sliced n p tol space k a b))
          → FinishedBy (cond b (stopped (Ok m) poses joints) (going_on (sliced n p tol space) (turn p tol space m poses joints) ps js))
      by_waiting true f e ih = f refl
      by_waiting false f e ih = by_turn (turn p tol space m poses joints) (turned p tol space given m₀.inserted g (e refl)) ih

  pub ends_at_once : {tests : ℕ} {r : Turn} {poses joints : List Float} → Ready p tol space m₀ poses₀ joints₀ → 2 * (most - m₀.inserted) + (space - m₀.waiting) ≤ tests
      → r ≡ (sliced tests p tol space m₀ poses₀ joints₀).turn → poses ≡ (sliced tests p tol space m₀ poses₀ joints₀).poses → joints ≡ (sliced tests p tol space m₀ poses₀ joints₀).joints
      → Ran whole space poses joints r
  ends_at_once {tests} ready h a b c =
      let g = going_start ready in
      let s = sliced tests p tol space m₀ poses₀ joints₀ in
      rw (a, b, c) (ended s.turn s.poses s.joints (slice_left tests m₀ poses₀ joints₀ g) (slice_finished tests m₀ poses₀ joints₀ g h))

-- no outputs have work for more turns than this
pub enough : (space : ℕ) (m : Machine) (long : ℕ) → space * 6 ≤ long → long < 18446744073709551616 → 2 * (most - m.inserted) + (space - m.waiting) ≤ 18446744073709551615
enough space m long a b = omega (arith, a, b)
