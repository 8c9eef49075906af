-- What every entry does with what it is lent: a refusal's number is answered, its place and letter are written; joints
-- are five numbers; vectors are written over lent numbers.
use Rattle.std.specs.Prelude.{ℕ, ◌+◌, List, get_or, set, Float, Err, Ok, Result}
use Rattle.std.specs.Float.{nan}
use Rattle.geometry.specs.declared.Vec3.{Vec3}
use Rattle.geometry.specs.Vector.{vector}
use Rattle.refusal.specs.declared.Refusal.{Refusal}
use Rattle.refusal.specs.Numbers.{served, number_of}
use Rattle.chain.specs.declared.Joints.{Joints}

-- ---- a refusal, handed back
abbrev pub number_in : {A : Type 0} → Result A Refusal → ℕ
number_in (Ok x) = served
number_in (Err r) = number_of r.cause

-- of a rotary, a link or an offset; 0 where the number has none
abbrev pub place_in : {A : Type 0} → Result A Refusal → ℕ
place_in (Ok x) = 0
place_in (Err r) = r.at

abbrev pub letter_in : {A : Type 0} → Result A Refusal → ℕ
letter_in (Ok x) = 0
letter_in (Err r) = r.letter

-- ---- numbers
-- five numbers: the gauge point's position, and an angle for each rotary
unfoldable pub joints_in : List Float → Joints
joints_in l = record { xyz = vector (get_or l 0 nan) (get_or l 1 nan) (get_or l 2 nan); a0 = get_or l 3 nan; a1 = get_or l 4 nan }

-- from an index on
unfoldable pub vector_over : Vec3 → List Float → ℕ → List Float
vector_over v numbers at = set (set (set numbers at v.x) (at + 1) v.y) (at + 2) v.z
