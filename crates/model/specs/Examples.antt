-- Worked examples of a model's bytes: where the first bad field is.
use Rattle.std.specs.Prelude.{◌≡◌, refl, List, [], ◌∷◌, ◌++◌, ℕ, replicate, Err, Ok}
use Rattle.chain.specs.Checked.{Checked}
use Rattle.chain.specs.Bytes.{little_endian, spare}
use Rattle.refusal.specs.Numbers.{refusal}
use Rattle.refusal.specs.declared.Cause.{Cause}
use Rattle.model.specs.Model.{link_at, kind_good, whole_number, whole_vector, last_number, number_fields, link_fields, links_within, links, links_of, model_fields}

-- the name a, the carrier B, a box, and n bytes of numbers: 7 bytes before the numbers, the kind at 6
boxed : ℕ → List ℕ
boxed n = 1 ∷ 0 ∷ 97 ∷ 1 ∷ 0 ∷ 66 ∷ 0 ∷ replicate n 0

breach : ℕ → Checked
breach at = Err (refusal Cause.Malformed at)

-- no links; a length that is not whole; a name past the end; a carrier past the end, by the offset of its length
no_links : model_fields [] ≡ Ok tt
unfolding model_fields links_of links links_within
no_links = refl

texts : (model_fields (5 ∷ []) ≡ breach 0) × (model_fields (1 ∷ 0 ∷ []) ≡ breach 0) × (model_fields (1 ∷ 0 ∷ 97 ∷ 2 ∷ 0 ∷ 66 ∷ []) ≡ breach 3)
unfolding breach model_fields links_of links links_within link_at link_fields kind_good whole_number whole_vector last_number number_fields spare little_endian
texts = (refl, refl, refl)

-- the kind missing, or neither a box nor a cylinder
kinds : (model_fields (1 ∷ 0 ∷ 97 ∷ 1 ∷ 0 ∷ 66 ∷ []) ≡ breach 6) × (model_fields (1 ∷ 0 ∷ 97 ∷ 1 ∷ 0 ∷ 66 ∷ 2 ∷ []) ≡ breach 6)
unfolding breach model_fields links_of links links_within link_at link_fields kind_good whole_number whole_vector last_number number_fields spare little_endian
kinds = (refl, refl)

-- the first, the third and the eighth number not whole; all whole; the seventh of a box not +0.0; a second link of one
-- byte
numbers : (model_fields (boxed 0) ≡ breach 7)
    × (model_fields (boxed 23) ≡ breach 23)
    × (model_fields (boxed 63) ≡ breach 63)
    × (model_fields (boxed 64) ≡ Ok tt)
    × (model_fields (boxed 55 ++ 128 ∷ replicate 8 0) ≡ breach 55)
    × (model_fields (boxed 65) ≡ breach 71)
unfolding breach boxed model_fields links_of links links_within link_at link_fields kind_good whole_number whole_vector last_number number_fields spare little_endian
numbers = (refl, refl, refl, refl, refl, refl)
