-- One step of the machine that finds a quotation's figures. It keeps no list: the last item that stays and the first
-- that waits are tested; then the second stays, or their midpoint waits before it. The midpoints' joint sets wait in
-- one scratch. The other has space for 10,000 tips, so for the poses of 5,000 of them: those are not evaluated again.
use Rattle.std.specs.Prelude.{ℕ, ⊤, ◌+◌, ◌-◌, ◌*◌, ◌<◌, ◌≤◌, ◌≡◌, Bool, cond, List, eqb, ltb, Float, Err, None, Ok, Option, Some}
use Rattle.geometry.specs.declared.Vec3.{Vec3}
use Rattle.chain.specs.declared.Joints.{Joints}
use Rattle.chain.specs.declared.Prepared.{Prepared}
use Rattle.chain.specs.declared.ToolPose.{ToolPose}
use Rattle.path.specs.Solving.{pose_in, joints_over}
use Rattle.middle.specs.declared.Item.{Item}
use Rattle.middle.specs.declared.Tolerances.{Tolerances}
use Rattle.middle.specs.Testing.{pose_of, midpoint, divides}
use Rattle.turn.specs.Items.{item, joints_in, item_at, pose_over}
use Rattle.turn.specs.Turning.{most, axis_at, reached}
use Rattle.turn.specs.declared.Stop.{Stop}
use Rattle.quote.specs.declared.Place.{Place}
use Rattle.quote.specs.declared.QuoteError.{QuoteError}
use Rattle.quote.specs.declared.Quoter.{Quoter}
use Rattle.quote.specs.Quotation.{Quote, cost_of, figures}

-- ---- the first that waits
-- a joint set with the pose that it reaches, as every midpoint has it
unfoldable pub arrived : Prepared → Joints → Item
arrived p j = item (pose_of p j) j

-- the next given item; the last one where none is left, so that there always is one
unfoldable pub next_given : (count next : ℕ) → ℕ
next_given count next = cond (ltb next count) next (count - 1)

-- the joint set on top of the stack, or where the stack is empty the next given item
unfoldable pub first_waiting : Prepared → (count top next : ℕ) → (lent solved stack : List Float) → Item
first_waiting p count top next lent solved stack = cond (eqb top most) (item_at lent solved (next_given count next)) (arrived p (joints_in stack (top * 5)))

-- ---- the poses that are kept: those of the joint sets from 5,000 on, which wait first
abbrev pub bare : ℕ
bare = 5000

-- each is the pose that its joint set reaches
abbrev pub PosesKept : Prepared → ℕ → (stack tips : List Float) → Type 0
PosesKept p top stack tips = (i : ℕ) → top ≤ i + bare → i < bare → pose_in tips (i * 6) ≡ pose_of p (joints_in stack ((i + bare) * 5))

unfoldable pub keep_pose : ToolPose → List Float → ℕ → List Float
keep_pose pose tips i = cond (ltb i bare) tips (pose_over pose tips ((i - bare) * 6))

-- whether one waits: on the stack, or a given item
unfoldable pub goes_on : ℕ → Place → Bool
goes_on count s = ltb (s.top + s.next) (most + count)

-- ---- one step, by the numbers and the left item
unfoldable pub verdict_of : Prepared → Tolerances → Item → Item → Option Item
verdict_of p tol left right = cond (divides p tol left right) (Some (midpoint p left right)) None

-- the first that waits stays
unfoldable pub past : Place → Item → ℕ → Place
past s right tested =
    cond (eqb s.top most)
    (record { left = right; top = s.top; next = s.next + 1; inserted = s.inserted; evaluations = s.evaluations + tested })
    (record { left = right; top = s.top + 1; next = s.next; inserted = s.inserted; evaluations = s.evaluations + tested })

-- a midpoint waits before it
unfoldable pub with_midpoint : Place → ℕ → Place
with_midpoint s tested = record { left = s.left; top = s.top - 1; next = s.next; inserted = s.inserted + 1; evaluations = s.evaluations + tested + 1 }

unfoldable pub if_inserted : Place → Item → List Float → List Float
if_inserted s middle stack = cond (eqb s.inserted most) stack (joints_over middle.joints stack ((s.top - 1) * 5))

unfoldable pub if_kept : Place → Item → List Float → List Float
if_kept s middle tips = cond (eqb s.inserted most) tips (keep_pose middle.pose tips (s.top - 1))

unfoldable pub place_with : Place → ℕ → Option Place
place_with s tested = cond (eqb s.inserted most) None (Some (with_midpoint s tested))

abbrev pub place_by : Tolerances → Place → Item → Option Item → Option Place
place_by tol s right None = Some (past s right (cost_of tol s.left right))
place_by tol s right (Some middle) = place_with s (cost_of tol s.left right)

abbrev pub stack_by : Place → List Float → Option Item → List Float
stack_by s stack None = stack
stack_by s stack (Some middle) = if_inserted s middle stack

-- none where one more is too many
unfoldable pub place_after : Prepared → Tolerances → Place → Item → Option Place
place_after p tol s right = place_by tol s right (verdict_of p tol s.left right)

unfoldable pub stack_after : Prepared → Tolerances → Place → Item → List Float → List Float
stack_after p tol s right stack = stack_by s stack (verdict_of p tol s.left right)

-- ---- the same with what is kept of the evaluations: it is what would be evaluated
unfoldable pub keeping : Prepared → ℕ → Place → (lent solved stack : List Float) → Quoter
keeping p count s lent solved stack = record {
  place = s;
  left_axis = reached p s.left;
  right = first_waiting p count s.top s.next lent solved stack;
  right_axis = reached p (first_waiting p count s.top s.next lent solved stack);
  end_axis = axis_at p solved (next_given count s.next);
}

-- how it comes about: the axis of the first that waits, and that of the next given joint set once the first that waits
-- stays
unfoldable pub waiting_axis : ℕ → Item → Vec3 → Vec3
waiting_axis top right endAxis = cond (eqb top most) endAxis right.pose.axis

unfoldable pub end_after : Prepared → (count top next : ℕ) → Vec3 → List Float → Vec3
end_after p count top next endAxis solved = cond (eqb top most) (axis_at p solved (next_given count next)) endAxis

abbrev pub stepped : Prepared → ℕ → (lent solved stack : List Float) → Option Place → Option Quoter
stepped p count lent solved stack None = None
stepped p count lent solved stack (Some s) = Some (keeping p count s lent solved stack)

unfoldable pub with_middle : Quoter → Item → ℕ → Quoter
with_middle m middle tested = record {
  place = with_midpoint m.place tested;
  left_axis = m.left_axis;
  right = middle;
  right_axis = middle.pose.axis;
  end_axis = m.end_axis;
}

-- the state that a step leaves, none where one more is too many
abbrev pub left_by : Option ⊤ → Quoter → Option Quoter
left_by None m = None
left_by (Some _) m = Some m

-- the poses that are kept then
abbrev pub KeptOf : Prepared → (stack tips : List Float) → Option Quoter → Type 0
KeptOf p stack tips None = Unit {0}
KeptOf p stack tips (Some m) = PosesKept p m.place.top stack tips

unfoldable pub inserting : Quoter → Item → ℕ → Option Quoter
inserting m middle tested = cond (eqb m.place.inserted most) None (Some (with_middle m middle tested))

-- ---- the start, and the answer at the end
unfoldable pub begun : (lent solved : List Float) → Place
begun lent solved = record { left = item_at lent solved 0; top = most; next = 1; inserted = 0; evaluations = 0 }

abbrev pub served_at : ℕ → Place → Quote
served_at count s = Ok (figures s.inserted (count + s.inserted) s.evaluations)

abbrev pub answer_in : ℕ → Option Quoter → Quote
answer_in count (Some last) = served_at count last.place
answer_in count None = Err (QuoteError.Stopped (Stop.TooMany most))

abbrev pub Few : Option Quoter → Type 0
Few (Some last) = last.place.inserted ≤ most
Few None = Unit {0}

-- ---- what a step asks of the numbers and of the lengths
abbrev pub Runs : ℕ → Place → Type 0
Runs count s = ((s.top ≤ most) × (s.next ≤ count)) × (((most ≤ s.top + s.inserted) × (s.inserted ≤ most)) × (s.evaluations ≤ 1000000000))
