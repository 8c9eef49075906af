use mathlib.Core.Path.{◌≡◌, refl, sym, ap, ◌∙◌, subst}
use Prim.Native.Nat.{ℕ}
use lib.Dec.{T, eqb→eq}
use lib.Ieee.{binary64, fits, of_bits}
use lib.Ieee.Bits.{of_bits-to_bits}
use Rattle.cell.proofs.clearing.is_nought.Goals as goal

pub returns : goal.returns
returns c = λ e.
    let double : T (fits binary64 c.args.x) = subst T (sym c.well_formed.0.1) tt in
    let nothing : c.f64_to_bits_with_nan.result ≡ 0 = eqb→eq _ _ (subst T (sym e) tt) in
    sym (of_bits-to_bits binary64 c.args.x double) ∙ ap (λ (n : ℕ). of_bits binary64 n) (sym c.f64_to_bits_with_nan.ensures ∙ nothing) ∙ refl
