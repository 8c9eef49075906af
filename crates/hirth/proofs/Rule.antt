-- The rule of the table, computed over all its entries at once (`teeth_right`), and cited at an index (`tooth_nearest`).
use Rattle.std.proofs.Common.{ℕ, zero, suc, ◌+◌, ◌*◌, ◌^◌, ◌<◌, T, leb, List, [], ◌∷◌, length, get_or, sym, ◌∙◌, subst, le_of_suc-le-suc, not-suc-le-zero, add-zero, add-suc, suc-add, zero-add, leb→le}
use lib.Ieee.Fits.{and_l, and_r}
use Rattle.trig.specs.Fraction.{Frac}
use Rattle.trig.specs.Angle.{pi_num, pi_den, nearest_k, wave}
use Rattle.trig.specs.Degrees.{degree_wave}
use Rattle.hirth.specs.Teeth.{teeth, tooth_at, half_degrees, Nearest, is_nearest, every_nearest}

-- one test over the whole table
pub teeth_right : T (every_nearest 0 teeth)
unfolding is_nearest teeth degree_wave wave nearest_k pi_num pi_den
teeth_right = tt

nearest_of : (h t : ℕ) (f : Frac) → T (is_nearest h t f) → Nearest h t f
unfolding is_nearest
nearest_of h t f q =
    let a = leb (2 * (t * f.over + 2 ^ h * f.minus)) (2 * (2 ^ h * f.plus) + f.over) in
    let b = leb (2 * (2 ^ h * f.plus)) (2 * (t * f.over + 2 ^ h * f.minus) + f.over) in
    record { below = leb→le _ _ (and_l a b q); above = leb→le _ _ (and_r a b q) }

from : (ts : List ℕ) (i : ℕ) → T (every_nearest i ts) → (k : ℕ) → k < length ts → Nearest 52 (get_or ts k 0) (half_degrees (i + k))
from [] i h k l = absurd (not-suc-le-zero l)
from (t ∷ ts) i h zero l =
    subst (λ (m : ℕ). Nearest 52 t (half_degrees m)) (sym (add-zero i)) (nearest_of 52 t (half_degrees i) (and_l (is_nearest 52 t (half_degrees i)) (every_nearest (suc i) ts) h))
from (t ∷ ts) i h (suc k) l =
    subst (λ (m : ℕ). Nearest 52 (get_or ts k 0) (half_degrees m)) (suc-add i k ∙ sym (add-suc i k))
    (from ts (suc i) (and_r (is_nearest 52 t (half_degrees i)) (every_nearest (suc i) ts) h) k (le_of_suc-le-suc l))

-- an entry
pub tooth_nearest : (i : ℕ) → i < length teeth → Nearest 52 (tooth_at i) (half_degrees i)
unfolding tooth_at
tooth_nearest i h = subst (λ (m : ℕ). Nearest 52 (get_or teeth i 0) (half_degrees m)) (zero-add i) (from teeth 0 teeth_right i h)
