-- The checks of the question, in order: whole joint sets, the model's full check, finite joints, sizes.
use Rattle.std.specs.Prelude.{Bool, ◌&&◌, List, [], ◌∷◌, ℕ, ◌+◌, ◌%◌, eqb, leb, length, Float}
use Rattle.lists.specs.Search.{all}
use Rattle.refusal.specs.declared.Cause.{Cause}
use Rattle.geometry.specs.declared.Vec3.{Vec3}
use Rattle.chain.specs.Checked.{Checked}
use Rattle.chain.specs.declared.Kinematics.{Kinematics}
use Rattle.chain.specs.Check.{demand, first_refusal, within, all_within, longest, chain_within, joints_finite, joints_within}
use Rattle.model.specs.declared.Link.{Link}
use Rattle.model.specs.declared.LinkSolid.{LinkSolid}
use Rattle.model.specs.declared.LinkSolid.TheVariants.{Box, Cylinder}
use Rattle.model.specs.Model.{links_of}
use Rattle.model.specs.ModelCheck.{full_check}
use Rattle.model.specs.Solid.{solid_at}
use Rattle.extremes.specs.Summary.{sets_in}

-- ---- the sizes of a solid: 100,000 for every coordinate, for a radius and for a length. An axis has no limit.
unfoldable pub box_within : Vec3 → Vec3 → Bool
box_within min max = all_within min longest && all_within max longest

unfoldable pub cylinder_within : Vec3 → Float → Float → Bool
cylinder_within base radius length = all_within base longest && within radius longest && within length longest

abbrev pub solid_within : LinkSolid → Bool
solid_within (Box min max) = box_within min max
solid_within (Cylinder base axis radius length) = cylinder_within base radius length

-- every solid of a model that passed its check is whole, so the first test tells no such models apart
unfoldable pub small_solid_at : List ℕ → ℕ → Bool
small_solid_at bytes kind = leb (kind + 65) (length bytes) && solid_within (solid_at bytes kind)

unfoldable pub small_link : List ℕ → Link → Bool
small_link bytes l = small_solid_at bytes l.kind

-- ---- the list
unfoldable pub meeting_sizes : Kinematics → List ℕ → List Float → Bool
meeting_sizes k bytes joints = chain_within k && all joints_within (sets_in joints) && all (small_link bytes) (links_of bytes)

unfoldable pub meeting_check : List ℕ → Kinematics → List ℕ → List Float → Checked
meeting_check name k bytes joints =
    first_refusal
    (demand (eqb (length joints % 5) 0) Cause.LengthsDiffer 0
    ∷ full_check name k bytes
    ∷ demand (all joints_finite (sets_in joints)) Cause.NotFinite 0
    ∷ demand (meeting_sizes k bytes joints) Cause.TooLarge 0
    ∷ [])
