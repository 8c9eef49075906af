-- The check of a model. Every list is in the order of the papers, and each link is checked whole before the next.
use Rattle.std.specs.Prelude.{Bool, not, List, [], ◌∷◌, ℕ, ◌+◌, ltb, leb, length}
use Rattle.lists.specs.Search.{any}
use Rattle.refusal.specs.declared.Cause.{Cause}
use Rattle.chain.specs.Checked.{Checked}
use Rattle.chain.specs.declared.Kinematics.{Kinematics}
use Rattle.chain.specs.Check.{demand, first_refusal, chain_check, chain_sizes}
use Rattle.model.specs.declared.Link.{Link}
use Rattle.model.specs.Carrier.{carrier_kind, known}
use Rattle.model.specs.Model.{links, links_of, model_fields}
use Rattle.model.specs.Solid.{good_solid_at}
use Rattle.model.specs.Text.{text, same_bytes}

-- ---- names: 1 to 256 bytes
unfoldable pub name_check : List ℕ → Checked
name_check name = first_refusal (demand (ltb 0 (length name)) Cause.NameEmpty 0 ∷ demand (leb (length name) 256) Cause.NameTooLong 0 ∷ [])

abbrev pub name_of : List ℕ → Link → List ℕ
name_of bytes l = text bytes (l.name + 2) l.carrier

abbrev pub carrier_of : List ℕ → Link → List ℕ
carrier_of bytes l = text bytes (l.carrier + 2) l.kind

unfoldable pub same_name : List ℕ → Link → Link → Bool
same_name bytes l m = same_bytes (name_of bytes l) (name_of bytes m)

-- by one of the links that start before it
unfoldable pub named_before : List ℕ → Link → Bool
named_before bytes l = any (λ (earlier : Link). same_name bytes earlier l) (links bytes 0 l.name)

-- ---- links
unfoldable pub link_check : Kinematics → List ℕ → Link → ℕ → Checked
link_check k bytes l i =
    first_refusal
    (name_check (name_of bytes l)
    ∷ demand (not (named_before bytes l)) Cause.LinkNameTwice i
    ∷ demand (known (carrier_kind k (carrier_of bytes l))) Cause.CarrierUnknown i
    ∷ demand (good_solid_at bytes l.kind) Cause.SolidBad i
    ∷ [])

-- the checks of links, of which the first has the index i
unfoldable pub link_checks : Kinematics → List ℕ → ℕ → List Link → List Checked
link_checks k bytes i [] = []
link_checks k bytes i (l ∷ ls) = link_check k bytes l i ∷ link_checks k bytes (i + 1) ls

unfoldable pub each_link : Kinematics → List ℕ → Checked
each_link k bytes = first_refusal (link_checks k bytes 0 (links_of bytes))

unfoldable pub links_check : Kinematics → List ℕ → Checked
links_check k bytes = first_refusal (demand (leb (length (links_of bytes)) 64) Cause.TooManyLinks 0 ∷ each_link k bytes ∷ [])

-- ---- the Rust's check, of name, chain and model, after the model's bytes are read; and the same with the sizes
unfoldable pub full_check : List ℕ → Kinematics → List ℕ → Checked
full_check name k bytes = first_refusal (model_fields bytes ∷ name_check name ∷ chain_check k ∷ links_check k bytes ∷ [])

unfoldable pub check_model : List ℕ → Kinematics → List ℕ → Checked
check_model name k bytes = first_refusal (full_check name k bytes ∷ chain_sizes k ∷ [])
