-- The bytes of a model are links to their end: a name and a carrier, each its length in two bytes and its bytes; a
-- kind, 0 a box and 1 a cylinder; 8 numbers, of which a box uses 6 and has +0.0 for the others. A breach is `Malformed`
-- with the offset of the first bad field: a text's is that of its length, where the length is not whole or the text not
-- all there.
use Rattle.std.specs.Prelude.{Bool, cond, ◌&&◌, List, [], ◌∷◌, map, ℕ, zero, suc, ◌+◌, ◌-◌, ltb, leb, length, Err, Ok, Result}
use Rattle.std.proofs.Math.Nat.{le-add_right, le_refl}
use Rattle.refusal.specs.declared.Refusal.{Refusal}
use Rattle.refusal.specs.declared.Cause.{Cause}
use Rattle.chain.specs.Checked.{Checked}
use Rattle.chain.specs.Bytes.{byte_at, little_endian, spare}
use Rattle.chain.specs.Check.{demand, first_refusal}
use Rattle.model.specs.declared.Link.{Link}

-- ---- a link, by where it starts
-- past a text's length and bytes
abbrev pub text_end : List ℕ → ℕ → ℕ
text_end bytes at = at + 2 + little_endian 2 bytes at

unfoldable pub link_at : List ℕ → ℕ → Link
link_at bytes at = record {
  name = at;
  carrier = text_end bytes at;
  kind = text_end bytes (text_end bytes at);
  end = text_end bytes (text_end bytes at) + 65;
  in_order = (le-add_right _ _, le-add_right _ _, le_refl _);
}

-- ---- its fields
unfoldable pub kind_good : List ℕ → ℕ → Bool
kind_good bytes kind = ltb kind (length bytes) && ltb (byte_at bytes kind) 2

unfoldable pub whole_number : List ℕ → ℕ → Bool
whole_number bytes at = leb (at + 8) (length bytes)

unfoldable pub whole_vector : List ℕ → ℕ → Checked
whole_vector bytes at =
    first_refusal
    (demand (whole_number bytes at) Cause.Malformed at
    ∷ demand (whole_number bytes (at + 8)) Cause.Malformed (at + 8)
    ∷ demand (whole_number bytes (at + 16)) Cause.Malformed (at + 16)
    ∷ [])

unfoldable pub last_number : List ℕ → ℕ → ℕ → Bool
last_number bytes kind at = leb (at + 8) (length bytes) && spare bytes kind at

unfoldable pub number_fields : List ℕ → ℕ → Checked
number_fields bytes kind =
    first_refusal
    (whole_vector bytes (kind + 1)
    ∷ whole_vector bytes (kind + 25)
    ∷ demand (last_number bytes kind (kind + 49)) Cause.Malformed (kind + 49)
    ∷ demand (last_number bytes kind (kind + 57)) Cause.Malformed (kind + 57)
    ∷ [])

unfoldable pub link_fields : List ℕ → Link → Checked
link_fields bytes l =
    first_refusal
    (demand (leb l.carrier (length bytes)) Cause.Malformed l.name
    ∷ demand (leb l.kind (length bytes)) Cause.Malformed l.carrier
    ∷ demand (kind_good bytes l.kind) Cause.Malformed l.kind
    ∷ number_fields bytes l.kind
    ∷ [])

abbrev pub link_unless : Checked → Link → Result Link Refusal
link_unless (Ok _) l = Ok l
link_unless (Err r) l = Err r

unfoldable pub read_link : List ℕ → ℕ → Result Link Refusal
read_link bytes at = link_unless (link_fields bytes (link_at bytes at)) (link_at bytes at)

-- ---- the links that start from an offset on and before another, of which there are at most n
unfoldable pub links_within : ℕ → List ℕ → ℕ → ℕ → List Link
links_within zero bytes from to = []
links_within (suc n) bytes from to = cond (ltb from to) (link_at bytes from ∷ links_within n bytes (link_at bytes from).end to) []

-- a link has more than a byte, so that bound leaves none out (`links_more`, in proofs)
unfoldable pub links : List ℕ → ℕ → ℕ → List Link
links bytes from to = links_within (to - from) bytes from to

unfoldable pub links_of : List ℕ → List Link
links_of bytes = links bytes 0 (length bytes)

unfoldable pub model_fields : List ℕ → Checked
model_fields bytes = first_refusal (map (link_fields bytes) (links_of bytes))
