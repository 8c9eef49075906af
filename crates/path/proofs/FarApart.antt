-- Of two squares that are far apart the roots are in the same order: the root grows with its argument, and those of 8,100 and 10,000 are 90 and 100.
use mathlib.Core.Path.{◌≡◌, refl, sym, ◌∙◌}
use mathlib.Core.Bool.{Bool, true, false, ◌&&◌, true≢false, false≢true}
use lib.Dec.{T}
use lib.Ieee.{Float, binary64, round, of_bits, le, lt, eq, fits}
use lib.Ieee.Bits.{of_bits-fits}
use Rattle.float.specs.Helpers.{nought}
use Rattle.root.specs.Root.{root}
use Rattle.float.specs.TotalOrder.{before}
use Rattle.float.proofs.Order as order
use Rattle.root.proofs.RootOrder.{root_mono}
use Rattle.path.specs.Closest.{near_square, far_square, far_apart, root_before}

constants : lt (root near_square) (root far_square) ≡ true
unfolding root of_bits round lt
constants = refl

far_above : le nought far_square ≡ true
unfolding of_bits le lt eq
far_above = refl

left : (a b : Bool) → (a && b) ≡ true → a ≡ true
left true b h = refl
left false b h = absurd (false≢true h)

right : (a b : Bool) → (a && b) ≡ true → b ≡ true
right true b h = h
right false b h = absurd (false≢true h)

roots_ordered : (x y : Float) → T (fits binary64 x) → T (fits binary64 y) → far_apart x y ≡ true → lt (root x) (root y) ≡ true
unfolding far_apart
roots_ordered x y f g h =
    let from = left (le nought x && le x near_square) (le far_square y) h in
    order.lt_le_trans (root x) (root far_square) (root y)
    (order.le_lt_trans (root x) (root near_square) (root far_square) (root_mono x near_square f (of_bits-fits binary64 0x40bf_a400_0000_0000) (left (le nought x) (le x near_square) from) (right (le nought x) (le x near_square) from)) constants)
    (root_mono far_square y (of_bits-fits binary64 0x40c3_8800_0000_0000) g far_above (right (le nought x && le x near_square) (le far_square y) h))

-- ---- what is below stands before
before_below : (x y : Float) → lt x y ≡ true → before x y ≡ true
unfolding before
before_below x y h = rw (order.le_right x y (order.lt_le x y h), h)

not_before : (x y : Float) → lt x y ≡ true → before y x ≡ false
unfolding before
not_before x y h = rw (order.le_left x y (order.lt_le x y h), lower, unequal)
  where
    not_le : le y x ≡ false
    not_le = order.lt_not_le x y h

    lower : lt y x ≡ false
    lower = go (lt y x) refl
      where
        go : (b : Bool) → lt y x ≡ b → b ≡ false
        go true e = absurd (true≢false (sym (order.lt_le y x e) ∙ not_le))
        go false e = refl

    unequal : eq y x ≡ false
    unequal = go (eq y x) refl
      where
        go : (b : Bool) → eq y x ≡ b → b ≡ false
        go true e = absurd (true≢false (sym (order.eq_le y x e) ∙ not_le))
        go false e = refl

module _ (x y : Float) (f : T (fits binary64 x)) (g : T (fits binary64 y)) (h : far_apart x y ≡ true) where
  pub root_first : root_before x y ≡ true
  unfolding root_before
  root_first = before_below (root x) (root y) (roots_ordered x y f g h)

  pub root_last : root_before y x ≡ false
  unfolding root_before
  root_last = not_before (root x) (root y) (roots_ordered x y f g h)
