-- Rows of calls on joints and a summary that are lent to each of them.
use Rattle.std.specs.Prelude.{List, ℕ, Float}
use Rattle.extremes.specs.Summary.{sets_in, summary_of}
use Rattle.extremes.specs.Entries.{summary_built, joints_replaced, summary_replaced}

pub record Beside : Type 0 where
  pub joints : List Float
  pub summary : List Float

-- a call with what it is given besides, be it served or refused: an index and a new joint set, a rotary and an angle
pub data Call : Type 0 where
  Build : Call
  Replace : ℕ → List Float → Call
  Ask : ℕ → Float → Call

-- what a call leaves
unfoldable pub after : Beside → Call → Beside
after b Build = record { joints = b.joints; summary = summary_built b.joints b.summary }
after b (Replace index fresh) = record {
  joints = joints_replaced b.joints b.summary index fresh;
  summary = summary_replaced b.joints b.summary index fresh;
}
after b (Ask rotary angle) = b

-- joints with their own summary
abbrev pub own : List Float → Beside
own joints = record { joints = joints; summary = summary_of (sets_in joints) }
