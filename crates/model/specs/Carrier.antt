-- What carrier bytes name: base, table or head, or one letter that the chain has.
use Rattle.std.specs.Prelude.{Bool, true, false, cond, List, [], ◌∷◌, ℕ, eqb, length, get_or}
use Rattle.chain.specs.declared.Kinematics.{Kinematics}
use Rattle.model.specs.declared.LinkKind.{LinkKind}
use Rattle.model.specs.declared.LinkKind.TheVariants.{Base, Table, Head, Rotary, Unknown}
use Rattle.model.specs.Text.{same_bytes}

abbrev pub base : List ℕ
base = 98 ∷ 97 ∷ 115 ∷ 101 ∷ []

abbrev pub table : List ℕ
table = 116 ∷ 97 ∷ 98 ∷ 108 ∷ 101 ∷ []

abbrev pub head : List ℕ
head = 104 ∷ 101 ∷ 97 ∷ 100 ∷ []

unfoldable pub rotary_named : Kinematics → ℕ → LinkKind
rotary_named k letter =
    cond (eqb k.first.letter letter) (Rotary 0) (cond (eqb k.count 2) (cond (eqb k.second.letter letter) (Rotary 1) Unknown) Unknown)

unfoldable pub carrier_kind : Kinematics → List ℕ → LinkKind
carrier_kind k bytes =
    cond (same_bytes bytes base) Base
    (cond (same_bytes bytes table) Table
    (cond (same_bytes bytes head) Head
    (cond (eqb (length bytes) 1) (rotary_named k (get_or bytes 0 0)) Unknown)))

abbrev pub known : LinkKind → Bool
known Unknown = false
known Base = true
known Table = true
known Head = true
known (Rotary i) = true
