-- What the entries of a model answer, from the bytes and numbers that they are lent: first 20, then 29 for the chain's
-- bytes, then the list of checks of `model`, which begins with 29 for the model's.
use Rattle.std.specs.Prelude.{ℕ, ◌&&◌, cond, List, [], ◌∷◌, eqb, length, Float, Err, Ok, Result}
use Rattle.geometry.specs.declared.Rigid.{Rigid}
use Rattle.refusal.specs.declared.Refusal.{Refusal}
use Rattle.refusal.specs.Numbers.{refusal}
use Rattle.refusal.specs.declared.Cause.{Cause}
use Rattle.chain.specs.Checked.{Checked}
use Rattle.chain.specs.declared.Joints.{Joints}
use Rattle.chain.specs.declared.Kinematics.{Kinematics}
use Rattle.chain.specs.ChainBytes.{read_chain}
use Rattle.model.specs.ModelCheck.{check_model}
use Rattle.maztubel.specs.Lent.{joints_in}

-- ---- the model check
abbrev pub model_read : Result Kinematics Refusal → List ℕ → List ℕ → Checked
model_read (Err r) name model = Err r
model_read (Ok k) name model = check_model name k model

unfoldable pub check_model_of : List ℕ → List ℕ → List ℕ → Checked
check_model_of name chain model = model_read (read_chain chain) name model

-- ---- link frames: a call of `model`, from a chain's name, the chain, a model, joints and a carrier
abbrev pub Link : Type 0
Link = List ℕ → Kinematics → List ℕ → Joints → List ℕ → Result Rigid Refusal

abbrev pub link_read : Link → Result Kinematics Refusal → List ℕ → List ℕ → Joints → List ℕ → Result Rigid Refusal
link_read link (Err r) name model j carrier = Err r
link_read link (Ok k) name model j carrier = link name k model j carrier

-- `room` is how many numbers the lent frame has
unfoldable pub link_of : Link → List ℕ → List ℕ → List ℕ → List Float → List ℕ → ℕ → Result Rigid Refusal
link_of link name chain model joints carrier room =
    cond (eqb (length joints) 5 && eqb room 12) (link_read link (read_chain chain) name model (joints_in joints) carrier)
    (Err (refusal Cause.LengthsDiffer 0))

-- twelve numbers: the origin, then the three axes
unfoldable pub frame_numbers : Rigid → List Float
frame_numbers r =
    r.origin.x ∷ r.origin.y ∷ r.origin.z
    ∷ r.axis_x.x ∷ r.axis_x.y ∷ r.axis_x.z
    ∷ r.axis_y.x ∷ r.axis_y.y ∷ r.axis_y.z
    ∷ r.axis_z.x ∷ r.axis_z.y ∷ r.axis_z.z
    ∷ []

-- a lent frame afterwards
abbrev pub frame_over : Result Rigid Refusal → List Float → List Float
frame_over (Ok r) before = cond (eqb (length before) 12) (frame_numbers r) before
frame_over (Err r) before = before
