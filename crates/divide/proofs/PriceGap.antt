-- Joint sets that the Rust's comparison takes for unchanged are at most 1e-12 apart in each of their five numbers. A length of at most 1e-12 has no infinity and no NaN among its parts: no size of the joints is needed.
use mathlib.Core.Path.{◌≡◌, refl, sym}
use mathlib.Core.Bool.{Bool, true, false, ◌&&◌, false≢true}
use Prim.Native.Nat.{ℕ, ◌*◌}
use native.Mathlib.Nat.{mul-pos}
use lib.Dec.{T}
use lib.IntN.{ℤ}
use lib.Ieee.{Float, nan, inf, fin, binary64, up, down, add, mul, le, lt, eq, of_bits}
use lib.Ieee.Fits.{down_pos, mul-fits, sub-fits}
use lib.Ieee.Scale.{finite}
use Rattle.float.specs.Helpers.{nought}
use Rattle.root.specs.Root.{root}
use Rattle.float.proofs.Order as order
use Rattle.root.proofs.RootOrder.{round_nn, add_above, norm}
use Rattle.root.proofs.RootGap.{tiny, gap_law}
use Rattle.geometry.specs.Vector as Vector
use Rattle.geometry.specs.Vector.{minus}
use Rattle.chain.specs.declared.Joints.{Joints}
use Rattle.chain.proofs.ReadyLaws.{both}
use Rattle.middle.specs.Testing.{as_near, joints_unchanged}
use Rattle.divide.specs.Price.{AllClose}

-- ---- what is no number, or past all numbers
abbrev Lost : Float → Type 0
Lost nan = Unit {0}
Lost (inf true) = ⊥
Lost (inf false) = Unit {0}
Lost (fin s m e) = ⊥

-- no minus infinity
abbrev High : Float → Type 0
High nan = Unit {0}
High (inf true) = ⊥
High (inf false) = Unit {0}
High (fin s m e) = Unit {0}

lost_high : (a : Float) → Lost a → High a
lost_high nan h = tt
lost_high (inf true) h = h
lost_high (inf false) h = tt
lost_high (fin s m e) h = tt

high_of : (a : Float) → le nought a ≡ true → High a
unfolding le lt eq of_bits
high_of nan h = tt
high_of (inf true) h = false≢true h
high_of (inf false) h = tt
high_of (fin s m e) h = tt

lost_left : (a b : Float) → Lost a → High b → Lost (add binary64 a b)
unfolding add
lost_left nan b h k = tt
lost_left (inf true) b h k = absurd h
lost_left (inf false) nan h k = tt
lost_left (inf false) (inf true) h k = absurd k
lost_left (inf false) (inf false) h k = tt
lost_left (inf false) (fin s m e) h k = tt
lost_left (fin s m e) b h k = absurd h

lost_right : (a b : Float) → High a → Lost b → Lost (add binary64 a b)
unfolding add
lost_right nan b h k = tt
lost_right (inf true) b h k = absurd h
lost_right (inf false) nan h k = tt
lost_right (inf false) (inf true) h k = absurd k
lost_right (inf false) (inf false) h k = tt
lost_right (inf false) (fin s m e) h k = absurd k
lost_right (fin s m e) nan h k = tt
lost_right (fin s m e) (inf true) h k = absurd k
lost_right (fin s m e) (inf false) h k = tt
lost_right (fin s m e) (fin t n d) h k = absurd k

-- ---- squares
square_lost : (x : Float) → finite x ≡ false → Lost (mul binary64 x x)
unfolding mul
square_lost nan h = tt
square_lost (inf true) h = tt
square_lost (inf false) h = tt
square_lost (fin s m e) h = absurd (false≢true (sym h))

square_low : (s : Bool) (m : ℕ) (e : ℤ) → le nought (mul binary64 (fin s m e) (fin s m e)) ≡ true
unfolding mul
square_low true m e = round_nn (m * up e * (m * up e)) (down e * down e) (mul-pos (down_pos e) (down_pos e))
square_low false m e = round_nn (m * up e * (m * up e)) (down e * down e) (mul-pos (down_pos e) (down_pos e))

abbrev square : Float → Float
square x = mul binary64 x x

square_high : (x : Float) → High (square x)
square_high nan = lost_high (square nan) (square_lost nan refl)
square_high (inf s) = lost_high (square (inf s)) (square_lost (inf s) refl)
square_high (fin s m e) = high_of (square (fin s m e)) (square_low s m e)

abbrev squares : Float → Float → Float
squares x y = add binary64 (square x) (square y)

squares_left : (x y : Float) → finite x ≡ false → Lost (squares x y)
squares_left x y h = lost_left (square x) (square y) (square_lost x h) (square_high y)

squares_right : (x y : Float) → finite y ≡ false → Lost (squares x y)
squares_right x y h = lost_right (square x) (square y) (square_high x) (square_lost y h)

squares_high : (x y : Float) → High (squares x y)
squares_high nan y = lost_high (squares nan y) (squares_left nan y refl)
squares_high (inf s) y = lost_high (squares (inf s) y) (squares_left (inf s) y refl)
squares_high (fin s m e) nan = lost_high (squares (fin s m e) nan) (squares_right (fin s m e) nan refl)
squares_high (fin s m e) (inf t) = lost_high (squares (fin s m e) (inf t)) (squares_right (fin s m e) (inf t) refl)
squares_high (fin s m e) (fin t n d) =
    let a = fin s m e in
    let b = fin t n d in
    let above = add_above (square a) (square b) (mul-fits binary64 a a) (mul-fits binary64 b b) (square_low s m e) (square_low t n d) in
    high_of (squares a b) (order.le_trans nought (square a) (squares a b) (square_low s m e) above.0)

-- ---- a length that is not above 1e-12 has finite parts
root_lost : (a : Float) → Lost a → le (root a) tiny ≡ true → ⊥
unfolding root le lt eq of_bits
root_lost nan h k = false≢true k
root_lost (inf true) h k = h
root_lost (inf false) h k = false≢true k
root_lost (fin s m e) h k = h

finite_or : (x : Float) → (finite x ≡ false → ⊥) → T (finite x)
finite_or nan h = h refl
finite_or (inf s) h = h refl
finite_or (fin s m e) h = tt

module _ (x y z : Float) (h : le (norm x y z) tiny ≡ true) where
  kept : Lost (add binary64 (squares x y) (square z)) → ⊥
  kept l = root_lost (add binary64 (squares x y) (square z)) l h

  finite_x : T (finite x)
  finite_x = finite_or x (λ e. kept (lost_left (squares x y) (square z) (squares_left x y e) (square_high z)))

  finite_y : T (finite y)
  finite_y = finite_or y (λ e. kept (lost_left (squares x y) (square z) (squares_right x y e) (square_high z)))

  finite_z : T (finite z)
  finite_z = finite_or z (λ e. kept (lost_right (squares x y) (square z) (squares_high x y) (square_lost z e)))

pub unchanged_close : (a b : Joints) → joints_unchanged a b ≡ true → AllClose a b
unfolding joints_unchanged as_near Vector.gap_vec Vector.norm Vector.sub Vector.dot
unchanged_close a b h =
    let x = minus a.xyz.x b.xyz.x in
    let y = minus a.xyz.y b.xyz.y in
    let z = minus a.xyz.z b.xyz.z in
    let p = both (le (norm x y z) tiny && as_near a.a0 b.a0) (as_near a.a1 b.a1) h in
    let q = both (le (norm x y z) tiny) (as_near a.a0 b.a0) p.0 in
    let n = q.0 in
    let g =
    gap_law x y z (sub-fits binary64 a.xyz.x b.xyz.x) (sub-fits binary64 a.xyz.y b.xyz.y) (sub-fits binary64 a.xyz.z b.xyz.z)
    (finite_x x y z n) (finite_y x y z n) (finite_z x y z n) n in
    record { in_x = g.0; in_y = g.1; in_z = g.2; in_a0 = q.1; in_a1 = p.1 }
