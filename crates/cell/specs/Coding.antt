-- A path that waits, in nine words and 23 numbers; and the paths that wait, in the order of waiting.
use Rattle.std.specs.Prelude.{ℕ, zero, suc, ◌+◌, cond, List, [], ◌∷◌, ◌++◌, eqb, leb, get_or, take, drop, Float, None, Option, Some}
use Rattle.std.specs.Float.{nan}
use Rattle.float.specs.Helpers.{nought}
use Rattle.geometry.specs.declared.Vec3.{Vec3}
use Rattle.geometry.specs.Vector.{vector}
use Rattle.chain.specs.declared.Carrier.{Carrier}
use Rattle.chain.specs.declared.Carrier.TheVariants.{Table, Head}
use Rattle.chain.specs.declared.Spin.{Spin}
use Rattle.chain.specs.declared.Prepared.{Prepared}
use Rattle.turn.specs.declared.Machine.{Machine}
use Rattle.queue.specs.Queue.{Waiting}
use Rattle.cell.specs.declared.Entry.{Entry}

-- ---- reading
-- 1 is a head, all else a table
unfoldable pub carrier_in : ℕ → Carrier
carrier_in word = cond (eqb word 1) Head Table

unfoldable pub vec_in : List Float → ℕ → Vec3
vec_in l at = vector (get_or l at nan) (get_or l (at + 1) nan) (get_or l (at + 2) nan)

unfoldable pub spin_in : ℕ → List Float → ℕ → Spin
spin_in word l at = record { carrier = carrier_in word; axis = vec_in l at; pivot = vec_in l (at + 3) }

-- there is a second rotary where its word is 0 or 1
unfoldable pub second_in : ℕ → List Float → Option Spin
second_in word l = cond (leb word 1) (Some (spin_in word l 6)) None

unfoldable pub chain_in : (first second : ℕ) → List Float → Prepared
chain_in first second l = record { first = spin_in first l 0; second = second_in second l; spindle = vec_in l 12 }

unfoldable pub machine_in : List ℕ → List Float → Machine
machine_in w l = record {
  placed = get_or w 3 0;
  waiting = get_or w 4 0;
  inserted = get_or w 6 0;
  given = get_or w 5 0;
  left_axis = vec_in l 15;
  end_axis = vec_in l 18;
}

unfoldable pub path_in : List ℕ → List Float → Entry
path_in w l = record {
  room_poses = get_or w 1 0;
  room_joints = get_or w 2 0;
  chain = chain_in (get_or w 7 0) (get_or w 8 0) l;
  chord = get_or l 21 nan;
  axis = get_or l 22 nan;
  machine = machine_in w l;
}

abbrev pub entry_in : List ℕ → List Float → Waiting Entry
entry_in w l = record { number = get_or w 0 0; path = path_in w l }

-- ---- writing
abbrev pub carrier_word : Carrier → ℕ
carrier_word Table = 0
carrier_word Head = 1

-- 2 where there is no second rotary, whose numbers then are +0.0
abbrev pub second_word : Option Spin → ℕ
second_word None = 2
second_word (Some s) = carrier_word s.carrier

abbrev pub second_stored : Option Spin → Spin
second_stored None = record { carrier = Table; axis = vector nought nought nought; pivot = vector nought nought nought }
second_stored (Some s) = s

-- the number, the lengths of both outputs, the machine's numbers, and where the rotaries are
abbrev pub words_of : ℕ → Entry → List ℕ
words_of number e =
    number ∷ e.room_poses ∷ e.room_joints ∷ e.machine.placed ∷ e.machine.waiting ∷ e.machine.given ∷ e.machine.inserted
    ∷ carrier_word e.chain.first.carrier ∷ second_word e.chain.second ∷ []

abbrev pub vec_numbers : Vec3 → List Float → List Float
vec_numbers a rest = a.x ∷ a.y ∷ a.z ∷ rest

-- the two rotaries' axes and pivots, the spindle, the two axes that the machine keeps, and the tolerances
unfoldable pub numbers_of : Entry → List Float
numbers_of e =
    vec_numbers e.chain.first.axis
    (vec_numbers e.chain.first.pivot
    (vec_numbers (second_stored e.chain.second).axis
    (vec_numbers (second_stored e.chain.second).pivot
    (vec_numbers e.chain.spindle (vec_numbers e.machine.left_axis (vec_numbers e.machine.end_axis (e.chord ∷ e.axis ∷ [])))))))

-- ---- lent lists
-- `count` elements brought forward by w, to the front
unfoldable pub forward : {A : Type 0} → (w count : ℕ) → List A → List A
forward w count l = take count (drop w l) ++ drop count l

-- ---- the paths that wait: n entries, one after another
unfoldable pub entries : ℕ → List ℕ → List Float → List (Waiting Entry)
entries zero w l = []
entries (suc n) w l = entry_in (take 9 w) (take 23 l) ∷ entries n (drop 9 w) (drop 23 l)
