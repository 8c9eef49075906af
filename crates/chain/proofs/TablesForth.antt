-- The tables forth, from the turns by which forward moves the rotaries: `forth_from` of `turns_of` is `tables_forth`, in
-- every bit, whatever the angles.
use mathlib.Core.Path.{◌≡◌, refl}
use lib.Ieee.{Float}
use Rattle.std.specs.Prelude.{None, Option, Some}
use Rattle.geometry.specs.declared.Turn.{Turn}
use Rattle.geometry.proofs.TurningBack.{turn_back}
use Rattle.chain.specs.declared.Carrier.{Carrier}
use Rattle.chain.specs.declared.Carrier.TheVariants.{Table, Head}
use Rattle.chain.specs.declared.Spin.{Spin}
use Rattle.chain.specs.declared.Prepared.{Prepared}
use Rattle.chain.specs.Forward.{of_second, still, swing, swing_forth, swing_from, turns_of, tables_forth, forth_from}

swing_from_is : (c : Carrier) (a : Float) → swing_from c (swing c a) ≡ swing_forth c a
swing_from_is Table a = turn_back a
swing_from_is Head a = refl

-- two turns of a carrier that are the same are so of the second rotary, where there is one
pub second_same : (o : Option Spin) (f g : Carrier → Turn) → ((c : Carrier) → f c ≡ g c) → of_second o still (λ s. f s.carrier) ≡ of_second o still (λ s. g s.carrier)
second_same (Some s) f g h = h s.carrier
second_same None f g h = refl

-- and so of one turn made of another
pub second_from : (o : Option Spin) (f g : Carrier → Turn) (h : Carrier → Turn → Turn) → ((c : Carrier) → h c (f c) ≡ g c)
    → of_second o still (λ s. h s.carrier (of_second o still (λ s. f s.carrier))) ≡ of_second o still (λ s. g s.carrier)
second_from (Some s) f g h e = e s.carrier
second_from None f g h e = refl

pub forth_from_is : (p : Prepared) (a0 a1 : Float) → forth_from p (turns_of p a0 a1) ≡ tables_forth p a0 a1
unfolding turns_of tables_forth forth_from
forth_from_is p a0 a1 =
    rw (swing_from_is p.first.carrier a0, second_from p.second (λ c. swing c a1) (λ c. swing_forth c a1) swing_from (λ c. swing_from_is c a1))
