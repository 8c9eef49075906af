-- The words in which the inner functions of `square_root` promise their results. A reader who believes `Root` needs
-- none of them.
use Rattle.std.specs.Prelude.{◌≡◌, ℕ, ◌+◌, ◌-◌, ◌*◌, ◌^◌, ◌<◌, ◌≤◌, false, Float, None, Option, Some, ⊤}
use Rattle.float.specs.Units.{Is}
use Rattle.root.specs.Root.{root_units}

-- s is the root of n, cut to a whole number
pub record WholeRoot (n s : ℕ) : Type 0 where
  pub below : s * s ≤ n
  pub above : n < (s + 1) * (s + 1)

-- q is the whole number nearest to the root of n: (q - 1/2) ^ 2 < n < (q + 1/2) ^ 2
pub record Nearby (n q : ℕ) : Type 0 where
  pub less : q * q < n + q
  pub more : n ≤ q * q + q

-- what is answered is nearest to the root of m * (1 + o) * 2 ^ 52
abbrev pub Confirmed : ℕ → ℕ → Option ℕ → Type 0
Confirmed m o (Some r) = Nearby (m * (1 + o) * 2 ^ 52) r
Confirmed m o None = ⊤

-- y is the root of m * 2 ^ (f - 65) units
abbrev pub PartsRoot : ℕ → ℕ → Float → Type 0
PartsRoot m f y = (v : ℕ) → v * 2 ^ 64 ≡ m * 2 ^ (f - 1) → y ≡ root_units v

-- y is the root of x * 2 ^ (k - 64)
abbrev pub ScaledRoot : Float → ℕ → Float → Type 0
ScaledRoot x k y = (v w : ℕ) → Is x false w → v * 2 ^ 64 ≡ w * 2 ^ k → y ≡ root_units v

-- x is above zero, finite, and has its 53 digits
pub record Normal (x : Float) : Type 0 where
  pub w : ℕ
  pub is : Is x false w
  pub low : 2 ^ 52 ≤ w
  pub high : w < 2 ^ 2098
