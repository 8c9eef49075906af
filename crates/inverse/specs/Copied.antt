-- The lists of this crate as values that are copied where they stand: how many items, and the items in an array with
-- +0.0 past them; and back, the items of such a value.
use Rattle.std.specs.Prelude.{List, Float, length, take}
use Rattle.lists.specs.Padding.{padded}
use Rattle.float.specs.Helpers.{nought}
use Rattle.chain.specs.declared.Joints.{Joints}
use Rattle.inverse.specs.declared.Angles.{Angles}
use Rattle.inverse.specs.declared.Candidates.{Candidates}
use Rattle.inverse.specs.declared.Pairs.{Pairs}
use Rattle.inverse.specs.declared.Solutions.{Solutions}
use Rattle.inverse.specs.Wraps.{angles_of}
use Rattle.inverse.specs.Solutions.{nowhere}

abbrev pub candidates_of : List Float → Candidates
candidates_of l = record { count = length l; items = padded 5 nought l }

abbrev pub pairs_of : List Angles → Pairs
pairs_of l = record { count = length l; items = padded 50 (angles_of nought nought) l }

abbrev pub solutions_of : List Joints → Solutions
solutions_of l = record { count = length l; items = padded 50 nowhere l }

-- ---- back
abbrev pub turned : Candidates → List Float
turned s = take s.count s.items

abbrev pub paired : Pairs → List Angles
paired s = take s.count s.items

abbrev pub listed : Solutions → List Joints
listed s = take s.count s.items
