-- One turn of the halving in lent outputs. `Items`: poses with their joint sets in lent numbers, and the space for
-- them. `Lent`: two outputs after a call. `Stops`: what a stop says. `Turning`: one turn of the machine that divides in
-- them, and the axes that it has at hand.
pub mod Items
pub mod Lent
pub mod Stops
pub mod Turning
