-- Forward takes no fallback, whatever it is asked, once its checks pass. A total definition needs an answer where the
-- Rust's has none: no turn beyond 45,000 degrees (`turn_of`), the given axis where it has no direction (`unit_axis`), the
-- unit spindle where the reached axis has none (`forward_core`), and refusal 9 for that axis (`posed`). `forward_plain`
-- says that none of them is ever taken, and `read_plain` the same of a chain that is read from bytes, where nothing is
-- left to suppose.
use mathlib.Core.Path.{◌≡◌, refl, ap, ◌∙◌, subst}
use mathlib.Core.Bool.{Bool, true, false, not, cond, ◌&&◌, and-eq-true_iff}
use mathlib.Core.List.{List}
use Prim.Native.Nat.{ℕ, ◌*◌, ◌+◌}
use lib.Dec.{T, ltb, eqb, lit≤}
use lib.ListN.{length}
use lib.Ieee.{Float, binary64, neg, of_bits, fits}
use lib.Ieee.Bits.{of_bits-fits}
use Rattle.std.specs.Prelude.{Err, Ok, Result, Some}
use Rattle.float.specs.Units.{U, Is}
use Rattle.float.proofs.UpTo.{UpTo, double_up_to}
use Rattle.geometry.specs.declared.Turn.{Turn}
use Rattle.geometry.specs.Direction.{unit_direction}
use Rattle.geometry.specs.Doubles.{FitVec}
use Rattle.geometry.proofs.Range.{plain_turn, Turnable, sized_turnable, turn_served}
use Rattle.refusal.specs.declared.Refusal.{Refusal}
use Rattle.refusal.specs.declared.Cause.{Cause}
use Rattle.chain.specs.Checked.{Checked}
use Rattle.chain.specs.declared.Carrier.{Carrier}
use Rattle.chain.specs.declared.Carrier.TheVariants.{Table, Head}
use Rattle.chain.specs.declared.Prepared.{Prepared}
use Rattle.chain.specs.declared.Kinematics.{Kinematics}
use Rattle.chain.specs.declared.Joints.{Joints}
use Rattle.chain.specs.declared.Turns.{Turns}
use Rattle.chain.specs.Bytes.{byte_at, little_endian, number_at, vector_at}
use Rattle.chain.specs.ChainBytes.{axis_field, second_field, spindle_field, length_of_chain, rotary_at, no_rotary, second_at, chain_fields, chain_at, no_chain, chain_unless, malformed, record_length, read_count, read_counted, read_chain}
use Rattle.chain.specs.Check.{demand, then, one_or_two, chain_check, within, all_within, longest, farthest, most_turned, joints_finite, joints_within, chain_within}
use Rattle.chain.specs.Prepared.{prepared}
use Rattle.chain.specs.Forward.{of_second, still, swing, turns_of, swing_forth, tables_forth, reach_axis, reach, forward_core, posed, unless_refused, length_good, forward_sizes, forward_check, forward}
use Rattle.chain.proofs.Passing.{then_passed, demand_passed}
use Rattle.chain.proofs.TablesForth.{second_same}
use Rattle.chain.proofs.UnitAxes.{FitAxes, ChainDirections, chain_directions, chain_units}
use Rattle.chain.proofs.ReachDirected.{core_served, core_directed}

-- ---- the angles: within 36,000 degrees, as demand 2 has it, a turn and the turn back are no fallback
pub most_turned_units : Is most_turned false (36000 * U)
unfolding of_bits U
most_turned_units = (refl, refl)

pub within_turns : (x : Float) → within x most_turned ≡ true → Turnable x
unfolding within
within_turns x h = sized_turnable 36000 most_turned most_turned_units (lit≤ tt) x h

pub within_up_to : (x : Float) → T (fits binary64 x) → within x most_turned ≡ true → UpTo 36000 x
unfolding within
within_up_to x f h = double_up_to 36000 most_turned most_turned_units x f h

-- ---- the turns, without the fallback
abbrev pub plain_swing : Carrier → Float → Turn
plain_swing Table angle = plain_turn (neg angle)
plain_swing Head angle = plain_turn angle

abbrev pub plain_forth : Carrier → Float → Turn
plain_forth Table angle = plain_turn angle
plain_forth Head angle = still

abbrev pub plain_turns : Prepared → Float → Float → Turns
plain_turns p a0 a1 = record { first = plain_swing p.first.carrier a0; second = of_second p.second still (λ s. plain_swing s.carrier a1) }

abbrev pub plain_tables : Prepared → Float → Float → Turns
plain_tables p a0 a1 = record { first = plain_forth p.first.carrier a0; second = of_second p.second still (λ s. plain_forth s.carrier a1) }

swing_plain : (m : Carrier) (angle : Float) → Turnable angle → swing m angle ≡ plain_swing m angle
swing_plain Table angle A = turn_served (neg angle) A.back
swing_plain Head angle A = turn_served angle A.forth

forth_plain : (m : Carrier) (angle : Float) → Turnable angle → swing_forth m angle ≡ plain_forth m angle
forth_plain Table angle A = turn_served angle A.forth
forth_plain Head angle A = refl

pub turns_plain : (p : Prepared) (a0 a1 : Float) → Turnable a0 → Turnable a1 → turns_of p a0 a1 ≡ plain_turns p a0 a1
unfolding turns_of
turns_plain p a0 a1 A B =
    ap (λ (t : Turn). record { first = t; second = of_second p.second still (λ s. swing s.carrier a1) }) (swing_plain p.first.carrier a0 A)
    ∙ ap (λ (t : Turn). record { first = plain_swing p.first.carrier a0; second = t }) (second_same p.second (λ c. swing c a1) (λ c. plain_swing c a1) (λ c. swing_plain c a1 B))

pub tables_plain : (p : Prepared) (a0 a1 : Float) → Turnable a0 → Turnable a1 → tables_forth p a0 a1 ≡ plain_tables p a0 a1
unfolding tables_forth
tables_plain p a0 a1 A B =
    ap (λ (t : Turn). record { first = t; second = of_second p.second still (λ s. swing_forth s.carrier a1) }) (forth_plain p.first.carrier a0 A)
    ∙ ap (λ (t : Turn). record { first = plain_forth p.first.carrier a0; second = t }) (second_same p.second (λ c. swing_forth c a1) (λ c. plain_forth c a1) (λ c. forth_plain c a1 B))

-- ---- joints within demand 2's ranges
pub record TurnableJoints (j : Joints) : Type 0 where
  pub first : Turnable j.a0
  pub second : Turnable j.a1

pub joints_turn : (j : Joints) → joints_within j ≡ true → TurnableJoints j
unfolding joints_within
joints_turn j h =
    let a = (and-eq-true_iff (all_within j.xyz farthest && within j.a0 most_turned) (within j.a1 most_turned)).0 h in
    let b = (and-eq-true_iff (all_within j.xyz farthest) (within j.a0 most_turned)).0 a.0 in
    record { first = within_turns j.a0 b.1; second = within_turns j.a1 a.1 }

-- ---- forward
record ForwardPassed (k : Kinematics) (j : Joints) : Type 0 where
  chain : chain_check k ≡ Ok tt
  joints : joints_within j ≡ true

forward_passed : (k : Kinematics) (j : Joints) (tool : Float) → forward_check k j tool ≡ Ok tt → ForwardPassed k j
unfolding forward_check forward_sizes
forward_passed k j tool h =
    let tool-good = demand (length_good tool) Cause.ToolLength 0 in
    let numbers = demand (joints_finite j) Cause.NotFinite 0 in
    let sizes = demand (within tool longest && joints_within j && chain_within k) Cause.TooLarge 0 in
    let a = then_passed (chain_check k) (then numbers sizes) (then_passed tool-good (then (chain_check k) (then numbers sizes)) h).1 in
    let s = demand_passed (within tool longest && joints_within j && chain_within k) Cause.TooLarge 0 (then_passed numbers sizes a.1).1 in
    record { chain = a.0; joints = ((and-eq-true_iff (within tool longest) (joints_within j)).0 ((and-eq-true_iff (within tool longest && joints_within j) (chain_within k)).0 s).0).1 }

-- What holds where forward's checks pass. `axes`: the axes that it turns about, and the spindle, are the unit vectors
-- of the given ones. `turns`: both turns are made of a sine and a cosine. `answer`: it serves, with the pose of
-- `forward_core`, which inverse, the paths and division use. `directed`: the axis of that pose is the unit vector of the
-- one that is reached.
pub record ForwardPlain (k : Kinematics) (j : Joints) (tool : Float) : Type 0 where
  pub axes : ChainDirections k
  pub turns : turns_of (prepared k) j.a0 j.a1 ≡ plain_turns (prepared k) j.a0 j.a1
  pub answer : forward k j tool ≡ Ok (forward_core (prepared k) (turns_of (prepared k) j.a0 j.a1) j.xyz tool)
  pub directed : unit_direction (reach_axis (prepared k) (turns_of (prepared k) j.a0 j.a1)) ≡ Some (forward_core (prepared k) (turns_of (prepared k) j.a0 j.a1) j.xyz tool).axis

pub forward_served : (k : Kinematics) (j : Joints) (tool : Float) → FitAxes k → forward_check k j tool ≡ Ok tt
    → forward k j tool ≡ Ok (forward_core (prepared k) (turns_of (prepared k) j.a0 j.a1) j.xyz tool)
unfolding forward
forward_served k j tool F h =
    ap (λ (c : Checked). unless_refused c (posed (reach (prepared k) (turns_of (prepared k) j.a0 j.a1) j.xyz tool))) h
    ∙ core_served (prepared k) (chain_units k F (forward_passed k j tool h).chain) j.a0 j.a1 j.xyz tool

pub forward_plain : (k : Kinematics) (j : Joints) (tool : Float) → FitAxes k → forward_check k j tool ≡ Ok tt → ForwardPlain k j tool
forward_plain k j tool F h =
    let c = forward_passed k j tool h in
    let t = joints_turn j c.joints in
    record {
      axes = chain_directions k c.chain;
      turns = turns_plain (prepared k) j.a0 j.a1 t.first t.second;
      answer = forward_served k j tool F h;
      directed = core_directed (prepared k) (chain_units k F c.chain) j.a0 j.a1 j.xyz tool;
    }

-- ---- the same of a chain's bytes: what is read is of doubles
number_fits : (bytes : List ℕ) (at : ℕ) → T (fits binary64 (number_at bytes at))
unfolding number_at
number_fits bytes at = of_bits-fits binary64 (little_endian 8 bytes at)

vector_fits : (bytes : List ℕ) (at : ℕ) → FitVec (vector_at bytes at)
unfolding vector_at
vector_fits bytes at = (number_fits bytes at, number_fits bytes (at + 8), number_fits bytes (at + 16))

zero_fits : FitVec no_rotary.axis
unfolding no_rotary
zero_fits = (of_bits-fits binary64 0, of_bits-fits binary64 0, of_bits-fits binary64 0)

abbrev ReadFits : Result Kinematics Refusal → Type 0
ReadFits (Ok k) = FitAxes k
ReadFits (Err r) = Unit {0}

chain_fits : (w : ℕ) (bytes : List ℕ) (count : ℕ) → FitAxes (chain_at w bytes count)
unfolding chain_at rotary_at second_at
chain_fits w bytes count = (vector_fits bytes 16, second (eqb count 2), vector_fits bytes (spindle_field w count))
  where
    second : (b : Bool) → FitVec (cond b (rotary_at w bytes (second_field w)) no_rotary).axis
    second true = unfold rotary_at in vector_fits bytes (axis_field (second_field w))
    second false = zero_fits

unless_fits : (c : Checked) (k : Kinematics) → FitAxes k → ReadFits (chain_unless c k)
unless_fits (Ok _) k F = F
unless_fits (Err r) k F = tt

count_fits : (w : ℕ) (bytes : List ℕ) (count : ℕ) → ReadFits (read_count w bytes count)
unfolding read_count
count_fits w bytes count = go (not (one_or_two count)) (not (eqb (length bytes) (length_of_chain w count)))
  where
    go : (a b : Bool) → ReadFits (cond a (Ok (no_chain count)) (cond b (malformed 0) (chain_unless (chain_fields w bytes count) (chain_at w bytes count))))
    go true b = unfold no_chain in (zero_fits, zero_fits, (of_bits-fits binary64 0, of_bits-fits binary64 0, of_bits-fits binary64 0))
    go false true = tt
    go false false = unless_fits (chain_fields w bytes count) (chain_at w bytes count) (chain_fits w bytes count)

read_fits : (bytes : List ℕ) → ReadFits (read_chain bytes)
unfolding read_chain read_counted
read_fits bytes = go (ltb (length bytes) 1)
  where
    go : (b : Bool) → ReadFits (cond b (malformed 0) (read_count (record_length (length bytes) (byte_at bytes 0)) bytes (byte_at bytes 0)))
    go true = tt
    go false = count_fits (record_length (length bytes) (byte_at bytes 0)) bytes (byte_at bytes 0)

pub read_plain : (bytes : List ℕ) (k : Kinematics) (j : Joints) (tool : Float) → read_chain bytes ≡ Ok k → forward_check k j tool ≡ Ok tt → ForwardPlain k j tool
read_plain bytes k j tool e h = forward_plain k j tool (subst ReadFits e (read_fits bytes)) h
