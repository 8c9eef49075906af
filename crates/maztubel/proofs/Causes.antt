-- What the number that a division returns says of its answer: 0 that the path is divided, 27 that it needs a 10,001st
-- pose, and nothing else. For no check and no pose is refused with either of these two numbers: one lemma for each list
-- of checks and for each definition of a pose's answer.
use Prim.Native.Nat.{ℕ, zero, suc, ◌+◌, ◌*◌, ◌/◌}
use mathlib.Core.Path.{◌≡◌, refl, sym, ap, ◌∙◌, subst}
use mathlib.Core.Bool.{Bool, true, false, not, cond, ◌&&◌, false≢true}
use mathlib.Core.List.{List, [], ◌∷◌}
use lib.Dec.{eqb, leb, ltb}
use lib.ListN.{length}
use lib.Ieee as Ieee
use lib.Ieee.Scale.{finite}
use lib.Ieee.{Float}
use Rattle.std.specs.Prelude.{Err, None, Ok, Option, Result, Some}
use Rattle.lists.specs.Rows.{flat}
use Rattle.refusal.specs.declared.Refusal.{Refusal}
use Rattle.refusal.specs.Numbers as Numbers
use Rattle.refusal.specs.Numbers.{number_of}
use Rattle.refusal.specs.declared.Cause.{Cause}
use Rattle.geometry.specs.declared.Vec3.{Vec3}
use Rattle.geometry.specs.Vector.{cross, norm}
use Rattle.geometry.specs.Direction.{all_finite, unit_direction, along}
use Rattle.chain.specs.Checked.{Checked}
use Rattle.chain.specs.declared.Joints.{Joints}
use Rattle.chain.specs.declared.Kinematics.{Kinematics}
use Rattle.chain.specs.declared.RotaryJoint.{RotaryJoint}
use Rattle.chain.specs.declared.ToolPose.{ToolPose}
use Rattle.chain.specs.Bytes.{byte_at, spare}
use Rattle.chain.specs.ChainBytes.{count_field, empty_field, first_field, second_field, carrier_field, limits_field, empty_fields, min_field, max_field, length_of_chain, zeros, flag, rotary_fields, second_fields, chain_fields, chain_at, no_chain, malformed, chain_unless, record_length, read_count, read_counted, read_chain}
use Rattle.chain.specs.Check.{demand, then, first_refusal, known_letter, other_letter, has_direction, travel_good, rotary_check, one_or_two, second_check, chain_check, all_within, longest}
use Rattle.inverse.specs.Subproblem.{shortest}
use Rattle.inverse.specs.AxisMap.{axis_map_of}
use Rattle.inverse.specs.declared.Angles.{Angles}
use Rattle.path.specs.declared.Bounds.{Bounds}
use Rattle.inverse.specs.declared.Ranked.{Ranked}
use Rattle.path.specs.declared.Setup.{Setup}
use Rattle.path.specs.declared.SingularFrame.{SingularFrame}
use Rattle.path.specs.Unwinding.{different_branch, inside, has_second}
use Rattle.path.specs.Singular.{in_singular_cone, nearest_pole}
use Rattle.path.specs.Locking.{refused, within_limits, finite_position, placed_at, locked_joints, strays, limited, unless_straying, cone_solution}
use Rattle.path.specs.Exact.{angles_of, position_finite, ranked, ranks_before, closest_or_other, of_ranked, alone, both, of_candidates, of_positions, of_raw, exact_pose}
use Rattle.path.specs.Posing.{set_up, leaves_limits, succeeds, locked_or_exact, by_frame, solve_one, turned_within, with_turns, solved_tip, solved_pose, at_pose, pose_answer}
use Rattle.lists.specs.Each.{Each}
use Rattle.path.specs.Solving.{PathAnswer, poses_in, then_on, with_pose, solve_poses, start_angles, start_finite, whole_records, cone_good, parallel, path_chain, path_sizes, solve_check, unless_kept, solve_checked, solve_path}
use Rattle.path.specs.Solving as Path
use Rattle.middle.specs.declared.Tolerances.{Tolerances}
use Rattle.turn.specs.declared.Stop.{Stop}
use Rattle.turn.specs.Items.{space_in}
use Rattle.divide.specs.declared.DivisionError.{DivisionError}
use Rattle.divide.specs.Checking.{four_whole, checks_in_order, division_check}
use Rattle.divide.specs.Subdividing.{DivisionAnswer, Kept, AtPose, Cleared, Halved, division_in, clearing, after_solving, subdivide_path, three_whole, solved_path, solve_and_divide}
use Rattle.divide.specs.Subdividing as Ways
use Rattle.halving.specs.Halving as Halving
use Rattle.maztubel.specs.PathEntries.{start_in}
use Rattle.maztubel.specs.DivideEntries.{division_number, subdivide_read, subdivide_of, both_lengths, both_read, both_of, Says}

-- ---- a number other than 0 and 27, and below those of quotas
abbrev pub other : ℕ → Bool
other number = not (eqb number Numbers.served) && not (eqb number (number_of Cause.TooManyInsertions)) && ltb number (number_of Cause.UnknownShop)

abbrev pub Plain : Refusal → Type 0
Plain r = other (number_of r.cause) ≡ true

-- ---- lists of checks
abbrev CheckCause : Checked → Type 0
CheckCause (Ok _) = Unit {0}
CheckCause (Err r) = Plain r

demand_cause : (ok : Bool) (cause : Cause) (at : ℕ) → other (number_of cause) ≡ true → CheckCause (demand ok cause at)
demand_cause true cause at h = tt
demand_cause false cause at h = h

then_cause : (c d : Checked) → CheckCause c → CheckCause d → CheckCause (then c d)
then_cause (Ok _) d g h = h
then_cause (Err r) d g h = g

cond_cause : (b : Bool) (c d : Checked) → CheckCause c → CheckCause d → CheckCause (cond b c d)
cond_cause true c d g h = g
cond_cause false c d g h = h

causes : (l : List Checked) → Each CheckCause l → CheckCause (first_refusal l)
causes [] h = tt
causes (c ∷ []) h = h.0
causes (c ∷ d ∷ l) h = then_cause c (first_refusal (d ∷ l)) h.0 (causes (d ∷ l) h.1)

-- ---- a chain
rotary_cause : (j : RotaryJoint) (earlier : Option ℕ) (i : ℕ) → CheckCause (rotary_check j earlier i)
unfolding rotary_check
rotary_cause j earlier i =
    causes
    (demand (known_letter j.letter) Cause.RotaryLetter i
    ∷ demand (other_letter j.letter earlier) Cause.LetterTwice i
    ∷ demand (all_finite j.axis) Cause.ChainNotFinite i
    ∷ demand (has_direction j.axis) Cause.RotaryAxisZero i
    ∷ demand (all_finite j.pivot) Cause.ChainNotFinite i
    ∷ demand (travel_good j.limits) Cause.LimitsRefused i
    ∷ demand (finite j.rest) Cause.ChainNotFinite i
    ∷ []) (
      demand_cause (known_letter j.letter) Cause.RotaryLetter i refl,
      (
        demand_cause (other_letter j.letter earlier) Cause.LetterTwice i refl,
        (
          demand_cause (all_finite j.axis) Cause.ChainNotFinite i refl,
          (
            demand_cause (has_direction j.axis) Cause.RotaryAxisZero i refl,
            (
              demand_cause (all_finite j.pivot) Cause.ChainNotFinite i refl,
              (demand_cause (travel_good j.limits) Cause.LimitsRefused i refl, (demand_cause (finite j.rest) Cause.ChainNotFinite i refl, tt)),
            ),
          ),
        ),
      ),
    )

chain_cause : (k : Kinematics) → CheckCause (chain_check k)
unfolding chain_check second_check
chain_cause k =
    causes
    (demand (one_or_two k.count) Cause.RotaryCount 0
    ∷ rotary_check k.first None 0
    ∷ second_check k
    ∷ demand (all_finite k.spindle_axis) Cause.ChainNotFinite 0
    ∷ demand (has_direction k.spindle_axis) Cause.SpindleZero 0
    ∷ []) (
      demand_cause (one_or_two k.count) Cause.RotaryCount 0 refl,
      (
        rotary_cause k.first None 0,
        (
          cond_cause (eqb k.count 2) (rotary_check k.second (Some k.first.letter) 1) (Ok tt) (rotary_cause k.second (Some k.first.letter) 1) tt,
          (
            demand_cause (all_finite k.spindle_axis) Cause.ChainNotFinite 0 refl,
            (demand_cause (has_direction k.spindle_axis) Cause.SpindleZero 0 refl, tt),
          ),
        ),
      ),
    )

path_chain_cause : (k : Kinematics) → CheckCause (path_chain k)
unfolding path_chain
path_chain_cause k =
    causes (chain_check k ∷ demand (not (parallel k)) Cause.ParallelRotaries 0 ∷ [])
    (chain_cause k, (demand_cause (not (parallel k)) Cause.ParallelRotaries 0 refl, tt))

-- ---- a chain's bytes
zeros_cause : (bytes : List ℕ) (at n : ℕ) → CheckCause (zeros bytes at n)
unfolding zeros
zeros_cause bytes at zero = tt
zeros_cause bytes at (suc n) =
    then_cause (demand (eqb (byte_at bytes at) 0) Cause.Malformed at) (zeros bytes (at + 1) n)
    (demand_cause (eqb (byte_at bytes at) 0) Cause.Malformed at refl) (zeros_cause bytes (at + 1) n)

rotary_fields_cause : (bytes : List ℕ) (at : ℕ) → CheckCause (rotary_fields bytes at)
unfolding rotary_fields
rotary_fields_cause bytes at =
    causes
    (demand (flag bytes (carrier_field at)) Cause.Malformed (carrier_field at)
    ∷ demand (flag bytes (limits_field at)) Cause.Malformed (limits_field at)
    ∷ zeros bytes (empty_fields at) 5
    ∷ demand (spare bytes (limits_field at) (min_field at)) Cause.Malformed (min_field at)
    ∷ demand (spare bytes (limits_field at) (max_field at)) Cause.Malformed (max_field at)
    ∷ []) (
      demand_cause (flag bytes (carrier_field at)) Cause.Malformed (carrier_field at) refl,
      (
        demand_cause (flag bytes (limits_field at)) Cause.Malformed (limits_field at) refl,
        (
          zeros_cause bytes (empty_fields at) 5,
          (
            demand_cause (spare bytes (limits_field at) (min_field at)) Cause.Malformed (min_field at) refl,
            (demand_cause (spare bytes (limits_field at) (max_field at)) Cause.Malformed (max_field at) refl, tt),
          ),
        ),
      ),
    )

fields_cause : (w : ℕ) (bytes : List ℕ) (count : ℕ) → CheckCause (chain_fields w bytes count)
unfolding chain_fields second_fields
fields_cause w bytes count =
    causes (zeros bytes empty_field 7 ∷ rotary_fields bytes first_field ∷ second_fields w bytes count ∷ []) (
      zeros_cause bytes empty_field 7,
      (
        rotary_fields_cause bytes first_field,
        (cond_cause (eqb count 2) (rotary_fields bytes (second_field w)) (Ok tt) (rotary_fields_cause bytes (second_field w)) tt, tt),
      ),
    )

abbrev ReadCause : Result Kinematics Refusal → Type 0
ReadCause (Err r) = Plain r
ReadCause (Ok k) = Unit {0}

cond_read : (b : Bool) (c d : Result Kinematics Refusal) → ReadCause c → ReadCause d → ReadCause (cond b c d)
cond_read true c d g h = g
cond_read false c d g h = h

unless_read : (c : Checked) (k : Kinematics) → CheckCause c → ReadCause (chain_unless c k)
unless_read (Ok _) k h = tt
unless_read (Err r) k h = h

read_cause : (bytes : List ℕ) → ReadCause (read_chain bytes)
unfolding read_chain read_counted read_count
read_cause bytes =
    let count = byte_at bytes count_field in
    let w = record_length (length bytes) count in
    cond_read (ltb (length bytes) 1) (malformed 0) (read_count w bytes count) refl
    (cond_read (not (one_or_two count)) (Ok (no_chain count)) _ tt
    (cond_read (not (eqb (length bytes) (length_of_chain w count))) (malformed 0) (chain_unless (chain_fields w bytes count) (chain_at w bytes count)) refl
    (unless_read (chain_fields w bytes count) (chain_at w bytes count) (fields_cause w bytes count))))

-- ---- a pose
abbrev PoseCause : Result Joints Refusal → Type 0
PoseCause (Ok j) = Unit {0}
PoseCause (Err r) = Plain r

cond_pose : (b : Bool) (x y : Result Joints Refusal) → PoseCause x → PoseCause y → PoseCause (cond b x y)
cond_pose true x y g h = g
cond_pose false x y g h = h

limits_cause : (b : Bounds) (j : Joints) → PoseCause (within_limits b j)
unfolding within_limits
limits_cause b j = cond_pose (inside b j) (Ok j) _ tt refl

closest_cause : (b : Bounds) (c o : Joints) → PoseCause (closest_or_other b c o)
unfolding closest_or_other
closest_cause b c o =
    cond_pose (inside b c) (Ok c) _ tt
    (cond_pose (inside b o) _ (within_limits b c) (cond_pose (different_branch (has_second b) o c) (refused Cause.BranchFlips) (Ok o) refl tt) (limits_cause b c))

ranked_cause : (b : Bounds) (r q : Ranked) → PoseCause (of_ranked b r q)
unfolding of_ranked
ranked_cause b r q = cond_pose (ranks_before q r) _ _ (closest_cause b q.joints r.joints) (closest_cause b r.joints q.joints)

candidates_cause : (b : Bounds) (previous : Angles) (c d : Option Joints) → PoseCause (of_candidates b previous c d)
unfolding both alone
candidates_cause b previous (Some j) (Some k) = ranked_cause b (ranked (has_second b) previous j) (ranked (has_second b) previous k)
candidates_cause b previous (Some j) None = limits_cause b _
candidates_cause b previous None (Some k) = limits_cause b _
candidates_cause b previous None None = refl

positions_cause : (b : Bounds) (previous : Angles) (c d : Option Joints) → PoseCause (of_positions b previous c d)
unfolding of_positions
positions_cause b previous c d =
    cond_pose (not (position_finite c)) (refused Cause.NotFinite) _ refl
    (cond_pose (not (position_finite d)) (refused Cause.NotFinite) _ refl (candidates_cause b previous c d))

exact_cause : (s : Setup) (target tip : Vec3) (previous : Angles) → PoseCause (exact_pose s target tip previous)
unfolding exact_pose of_raw
exact_cause s target tip previous = positions_cause s.bounds previous _ _

locked_cause : (s : Setup) (onSecond : Bool) (target tip : Vec3) (previous : Angles) → PoseCause (locked_joints s onSecond target tip previous)
unfolding locked_joints placed_at finite_position
locked_cause s onSecond target tip previous =
    cond_pose (Ieee.lt (norm (cross (axis_map_of s.chain).wa (axis_map_of s.chain).wb)) shortest) (refused Cause.PoseUnreachable) _ refl
    (cond_pose (all_finite _) (Ok _) (refused Cause.NotFinite) tt refl)

limited_cause : (b : Bounds) (a : Result Joints Refusal) → PoseCause a → PoseCause (limited b a)
limited_cause b (Ok j) h = limits_cause b j
limited_cause b (Err r) h = h

straying_cause : (s : Setup) (target : Vec3) (pole a : Result Joints Refusal) → PoseCause pole → PoseCause a → PoseCause (unless_straying s target pole a)
straying_cause s target pole (Ok j) g h = cond_pose (strays s target j) pole _ g (limits_cause s.bounds j)
straying_cause s target pole (Err r) g h = h

cone_cause : (s : Setup) (f : SingularFrame) (target tip : Vec3) (previous : Angles) → PoseCause (cone_solution s f target tip previous)
unfolding cone_solution
cone_cause s f target tip previous =
    let pole = locked_joints s f.on_second (nearest_pole target f.direction) tip previous in
    straying_cause s target (limited s.bounds pole) (locked_joints s f.on_second target tip previous)
    (limited_cause s.bounds pole (locked_cause s f.on_second (nearest_pole target f.direction) tip previous))
    (locked_cause s f.on_second target tip previous)

taken_cause : (locked exact : Result Joints Refusal) → PoseCause locked → PoseCause exact → PoseCause (locked_or_exact locked exact)
unfolding locked_or_exact
taken_cause locked exact g h = cond_pose (leaves_limits locked && succeeds exact) exact locked h g

frame_cause : (s : Setup) (target tip : Vec3) (previous : Angles) (f : Option SingularFrame) → PoseCause (by_frame s target tip previous f)
frame_cause s target tip previous (Some f) =
    cond_pose (in_singular_cone f s.cone target) _ _
    (taken_cause (cone_solution s f target tip previous) (exact_pose s target tip previous) (cone_cause s f target tip previous) (exact_cause s target tip previous))
    (exact_cause s target tip previous)
frame_cause s target tip previous None = exact_cause s target tip previous

turns_cause : (a : Result Joints Refusal) → PoseCause a → PoseCause (with_turns a)
turns_cause (Ok j) h = cond_pose (turned_within j) (Ok j) _ tt refl
turns_cause (Err r) h = h

tip_cause : (s : Setup) (target tip : Vec3) (previous : Angles) → PoseCause (solved_tip s target tip previous)
unfolding solved_tip solve_one
tip_cause s target tip previous =
    cond_pose (not (all_finite tip)) (refused Cause.NotFinite) _ refl
    (cond_pose (not (all_within tip longest)) (refused Cause.TooLarge) _ refl
    (turns_cause (by_frame s target tip previous s.frame) (frame_cause s target tip previous s.frame)))

toward_cause : (s : Setup) (d : Option Vec3) (tip : Vec3) (previous : Angles) → PoseCause (along d (refused Cause.PoseUnreachable) (λ target. solved_tip s target tip previous))
toward_cause s (Some target) tip previous = tip_cause s target tip previous
toward_cause s None tip previous = refl

at_cause : (a : Result Joints Refusal) (i : ℕ) → PoseCause a → PoseCause (at_pose a i)
at_cause (Ok j) i h = h
at_cause (Err r) i h = h

pose_cause : (s : Setup) (pose : ToolPose) (previous : Angles) (i : ℕ) → PoseCause (pose_answer s pose previous i)
unfolding pose_answer solved_pose
pose_cause s pose previous i = at_cause (solved_pose s pose previous) i (toward_cause s (unit_direction pose.axis) pose.tip previous)

-- ---- a path
abbrev PathCause : PathAnswer → Type 0
PathCause (Path.Along l) = Unit {0}
PathCause (Path.AtPose r) = Plain r
PathCause (Path.Kept r) = Plain r

on_cause : (j : Joints) (a : PathAnswer) → PathCause a → PathCause (then_on j a)
on_cause j (Path.Along l) h = tt
on_cause j (Path.AtPose r) h = h
on_cause j (Path.Kept r) h = h

with_cause : (a : Result Joints Refusal) (rest : Joints → PathAnswer) → PoseCause a → ((j : Joints) → PathCause (rest j)) → PathCause (with_pose a rest)
with_cause (Ok j) rest g h = on_cause j (rest j) (h j)
with_cause (Err r) rest g h = g

poses_cause : (s : Setup) (l : List ToolPose) (previous : Angles) (i : ℕ) → PathCause (solve_poses s previous i l)
unfolding solve_poses
poses_cause s [] previous i = tt
poses_cause s (pose ∷ l) previous i = with_cause (pose_answer s pose previous i) _ (pose_cause s pose previous i) (λ j. poses_cause s l (angles_of j) (suc i))

kept_cause : (c : Checked) (a : PathAnswer) → CheckCause c → PathCause a → PathCause (unless_kept c a)
kept_cause (Ok _) a g h = h
kept_cause (Err r) a g h = g

check_cause : (k : Kinematics) (start : Option Joints) (cone : Float) (numbers room : ℕ) → CheckCause (solve_check k start cone numbers room)
unfolding solve_check
check_cause k start cone numbers room =
    causes
    (demand (whole_records numbers room) Cause.LengthsDiffer 0
    ∷ demand (cone_good cone) Cause.Cone 0
    ∷ path_chain k
    ∷ demand (start_finite start) Cause.NotFinite 0
    ∷ demand (path_sizes k start (numbers / 6)) Cause.TooLarge 0
    ∷ demand (leb (numbers / 6) (room / 5)) Cause.NoSpace 0
    ∷ []) (
      demand_cause (whole_records numbers room) Cause.LengthsDiffer 0 refl,
      (
        demand_cause (cone_good cone) Cause.Cone 0 refl,
        (
          path_chain_cause k,
          (
            demand_cause (start_finite start) Cause.NotFinite 0 refl,
            (
              demand_cause (path_sizes k start (numbers / 6)) Cause.TooLarge 0 refl,
              (demand_cause (leb (numbers / 6) (room / 5)) Cause.NoSpace 0 refl, tt),
            ),
          ),
        ),
      ),
    )

path_cause : (k : Kinematics) (poses : List Float) (start : Option Joints) (cone : Float) (room : ℕ) → PathCause (solve_path k poses start cone room)
unfolding solve_path solve_checked
path_cause k poses start cone room =
    kept_cause (solve_check k start cone (length poses) room) _ (check_cause k start cone (length poses) room) (poses_cause (set_up k cone) (poses_in poses) (start_angles start) 0)

-- ---- a division
abbrev pub AnswerCause : DivisionAnswer → Type 0
AnswerCause (Kept r) = Plain r
AnswerCause (AtPose r) = Plain r
AnswerCause (Cleared r) = Plain r
AnswerCause (Halved a) = Unit {0}

cond_answer : (b : Bool) (x y : DivisionAnswer) → AnswerCause x → AnswerCause y → AnswerCause (cond b x y)
cond_answer true x y g h = g
cond_answer false x y g h = h

order_cause : (k : Kinematics) (whole chord axis asMany finite sizes : Bool) → CheckCause (checks_in_order k whole chord axis asMany finite sizes)
unfolding checks_in_order
order_cause k whole chord axis asMany finite sizes =
    causes
    (demand whole Cause.LengthsDiffer 0
    ∷ demand chord Cause.Tolerance 0
    ∷ demand axis Cause.Tolerance 0
    ∷ demand asMany Cause.LengthsDiffer 0
    ∷ path_chain k
    ∷ demand finite Cause.NotFinite 0
    ∷ demand sizes Cause.TooLarge 0
    ∷ []) (
      demand_cause whole Cause.LengthsDiffer 0 refl,
      (
        demand_cause chord Cause.Tolerance 0 refl,
        (
          demand_cause axis Cause.Tolerance 0 refl,
          (
            demand_cause asMany Cause.LengthsDiffer 0 refl,
            (path_chain_cause k, (demand_cause finite Cause.NotFinite 0 refl, (demand_cause sizes Cause.TooLarge 0 refl, tt))),
          ),
        ),
      ),
    )

unless_cause : (c : Checked) (a : DivisionAnswer) → CheckCause c → AnswerCause a → AnswerCause (Ways.unless_kept c a)
unless_cause (Ok _) a g h = h
unless_cause (Err r) a g h = g

divide_cause : (k : Kinematics) (tol : Tolerances) (poses joints : List Float) (a b : ℕ) → AnswerCause (subdivide_path k tol poses joints a b)
unfolding subdivide_path division_check
divide_cause k tol poses joints a b = unless_cause (division_check k tol poses joints a b) _ (order_cause k _ _ _ _ _ _) tt

clearing_cause : (a : DivisionAnswer) → AnswerCause a → AnswerCause (clearing a)
clearing_cause (Kept r) h = h
clearing_cause (AtPose r) h = h
clearing_cause (Cleared r) h = h
clearing_cause (Halved a) h = tt

after_cause : (p : PathAnswer) (f : List Joints → DivisionAnswer) → PathCause p → ((l : List Joints) → AnswerCause (f l)) → AnswerCause (after_solving p f)
after_cause (Path.Along l) f g h = clearing_cause (f l) (h l)
after_cause (Path.AtPose r) f g h = g
after_cause (Path.Kept r) f g h = g

cond_path : (b : Bool) (x y : PathAnswer) → PathCause x → PathCause y → PathCause (cond b x y)
cond_path true x y g h = g
cond_path false x y g h = h

both_cause : (k : Kinematics) (poses : List Float) (start : Option Joints) (cone : Float) (tol : Tolerances) (a b : ℕ) → AnswerCause (solve_and_divide k poses start cone tol a b)
unfolding solve_and_divide solved_path
both_cause k poses start cone tol a b =
    after_cause (solved_path k poses start cone a b) (λ l. subdivide_path k tol poses (flat Path.joint_numbers l) a b)
    (cond_path (three_whole (length poses) a b) (solve_path k poses start cone (space_in a b * 5)) _ (path_cause k poses start cone (space_in a b * 5)) refl)
    (λ l. divide_cause k tol poses (flat Path.joint_numbers l) a b)

-- ---- the two entries
subdivide_read_cause : (read : Result Kinematics Refusal) (tol : Tolerances) (poses joints : List Float) (a b : ℕ) → ReadCause read → AnswerCause (subdivide_read read tol poses joints a b)
subdivide_read_cause (Err r) tol poses joints a b h = h
subdivide_read_cause (Ok k) tol poses joints a b h = divide_cause k tol poses joints a b

both_read_cause : (read : Result Kinematics Refusal) (poses : List Float) (start : Option Joints) (cone : Float) (tol : Tolerances) (a b : ℕ) → ReadCause read → AnswerCause (both_read read poses start cone tol a b)
both_read_cause (Err r) poses start cone tol a b h = h
both_read_cause (Ok k) poses start cone tol a b h = both_cause k poses start cone tol a b

pub subdivide_cause : (chain : List ℕ) (tol : Tolerances) (poses joints : List Float) (a b : ℕ) → AnswerCause (subdivide_of chain tol poses joints a b)
unfolding subdivide_of
subdivide_cause chain tol poses joints a b =
    cond_answer (not (four_whole (length poses) (length joints) a b)) _ (subdivide_read (read_chain chain) tol poses joints a b) refl
    (subdivide_read_cause (read_chain chain) tol poses joints a b (read_cause chain))

both_entry_cause : (chain : List ℕ) (poses start : List Float) (cone : Float) (tol : Tolerances) (a b : ℕ) → AnswerCause (both_of chain poses start cone tol a b)
unfolding both_of
both_entry_cause chain poses start cone tol a b =
    cond_answer (not (both_lengths (length poses) (length start) a b)) _ (both_read (read_chain chain) poses (start_in start) cone tol a b) refl
    (both_read_cause (read_chain chain) poses (start_in start) cone tol a b (read_cause chain))

-- ---- what the number says
not_served : (r : Refusal) → Plain r → number_of r.cause ≡ Numbers.served → ⊥
not_served r h e = false≢true (subst (λ (n : ℕ). other n ≡ true) e h)

not_many : (r : Refusal) → Plain r → number_of r.cause ≡ number_of Cause.TooManyInsertions → ⊥
not_many r h e = false≢true (subst (λ (n : ℕ). other n ≡ true) e h)

pub unlike : (a b : ℕ) → eqb a b ≡ false → a ≡ b → (eqb b b ≡ true) → ⊥
unlike a b f e g = false≢true (sym f ∙ ap (λ (n : ℕ). eqb n b) e ∙ g)

done_only : (a : DivisionAnswer) → AnswerCause a → division_number (division_in a) ≡ Numbers.served → (n : ℕ) × (division_in a ≡ Ok n)
done_only (Kept r) h e = absurd (not_served r h e)
done_only (AtPose r) h e = absurd (not_served r h e)
done_only (Cleared r) h e = absurd (not_served r h e)
done_only (Halved (Halving.Done n l)) h e = (n, refl)
done_only (Halved (Halving.TooMany n)) h e = absurd (unlike (number_of Cause.TooManyInsertions) Numbers.served refl e refl)
done_only (Halved (Halving.NoSpace n)) h e = absurd (unlike (number_of Cause.NoSpace) Numbers.served refl e refl)

many_only : (a : DivisionAnswer) → AnswerCause a → division_number (division_in a) ≡ number_of Cause.TooManyInsertions → (n : ℕ) × (division_in a ≡ Err (DivisionError.Stopped (Stop.TooMany n)))
many_only (Kept r) h e = absurd (not_many r h e)
many_only (AtPose r) h e = absurd (not_many r h e)
many_only (Cleared r) h e = absurd (not_many r h e)
many_only (Halved (Halving.Done n l)) h e = absurd (unlike Numbers.served (number_of Cause.TooManyInsertions) refl e refl)
many_only (Halved (Halving.TooMany n)) h e = (n, refl)
many_only (Halved (Halving.NoSpace n)) h e = absurd (unlike (number_of Cause.NoSpace) (number_of Cause.TooManyInsertions) refl e refl)

pub says : (a : DivisionAnswer) → AnswerCause a → (number : ℕ) → number ≡ division_number (division_in a) → Says number (division_in a)
says a h number e = record {
  done = (λ f. done_only a h (sym e ∙ f), λ w. e ∙ ap division_number w.1);
  many = (λ f. many_only a h (sym e ∙ f), λ w. e ∙ ap division_number w.1);
}

pub subdivide_says : (chain : List ℕ) (tol : Tolerances) (poses joints : List Float) (a b number : ℕ) → number ≡ division_number (division_in (subdivide_of chain tol poses joints a b))
    → Says number (division_in (subdivide_of chain tol poses joints a b))
subdivide_says chain tol poses joints a b number e = says (subdivide_of chain tol poses joints a b) (subdivide_cause chain tol poses joints a b) number e

pub both_says : (chain : List ℕ) (poses start : List Float) (cone : Float) (tol : Tolerances) (a b number : ℕ) → number ≡ division_number (division_in (both_of chain poses start cone tol a b))
    → Says number (division_in (both_of chain poses start cone tol a b))
both_says chain poses start cone tol a b number e = says (both_of chain poses start cone tol a b) (both_entry_cause chain poses start cone tol a b) number e
