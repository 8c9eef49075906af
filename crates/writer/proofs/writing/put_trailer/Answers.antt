use Rattle.writer.proofs.Parts.{trailer_parts}
use Rattle.writer.proofs.Room.{trailer_room, four_fits, number_fits, behind_four, behind_number}
use Rattle.job.proofs.Written.{put_then}
use Rattle.writer.proofs.writing.put_trailer.Goals as goal

pub put_four-requires : goal.put_four-requires
put_four-requires c =
    let r0 = trailer_room _ _ _ _ _ c.requires in
    four_fits 36 _ r0

pub put_four-requires-2 : goal.put_four-requires-2
put_four-requires-2 c =
    let r0 = trailer_room _ _ _ _ _ c.requires in
    let r1 = behind_four 36 _ r0 c.put_four.ensures in
    four_fits 32 _ r1

pub put_four-requires-3 : goal.put_four-requires-3
put_four-requires-3 c =
    let r0 = trailer_room _ _ _ _ _ c.requires in
    let r1 = behind_four 36 _ r0 c.put_four.ensures in
    let r2 = behind_four 32 _ r1 c.put_four-2.ensures in
    four_fits 28 _ r2

pub put_four-requires-4 : goal.put_four-requires-4
put_four-requires-4 c =
    let r0 = trailer_room _ _ _ _ _ c.requires in
    let r1 = behind_four 36 _ r0 c.put_four.ensures in
    let r2 = behind_four 32 _ r1 c.put_four-2.ensures in
    let r3 = behind_four 28 _ r2 c.put_four-3.ensures in
    four_fits 24 _ r3

pub put_number-requires : goal.put_number-requires
put_number-requires c =
    let r0 = trailer_room _ _ _ _ _ c.requires in
    let r1 = behind_four 36 _ r0 c.put_four.ensures in
    let r2 = behind_four 32 _ r1 c.put_four-2.ensures in
    let r3 = behind_four 28 _ r2 c.put_four-3.ensures in
    let r4 = behind_four 24 _ r3 c.put_four-4.ensures in
    number_fits 16 _ r4

pub put_number-requires-2 : goal.put_number-requires-2
put_number-requires-2 c =
    let r0 = trailer_room _ _ _ _ _ c.requires in
    let r1 = behind_four 36 _ r0 c.put_four.ensures in
    let r2 = behind_four 32 _ r1 c.put_four-2.ensures in
    let r3 = behind_four 28 _ r2 c.put_four-3.ensures in
    let r4 = behind_four 24 _ r3 c.put_four-4.ensures in
    let r5 = behind_number 16 _ r4 c.put_number.ensures in
    number_fits 8 _ r5

pub put_number-requires-3 : goal.put_number-requires-3
put_number-requires-3 c =
    let r0 = trailer_room _ _ _ _ _ c.requires in
    let r1 = behind_four 36 _ r0 c.put_four.ensures in
    let r2 = behind_four 32 _ r1 c.put_four-2.ensures in
    let r3 = behind_four 28 _ r2 c.put_four-3.ensures in
    let r4 = behind_four 24 _ r3 c.put_four-4.ensures in
    let r5 = behind_number 16 _ r4 c.put_number.ensures in
    let r6 = behind_number 8 _ r5 c.put_number-2.ensures in
    number_fits 0 _ r6

pub returns : goal.returns
returns c =
    rw trailer_parts
    (put_then c.put_four.ensures
    (put_then c.put_four-2.ensures
    (put_then c.put_four-3.ensures (put_then c.put_four-4.ensures (put_then c.put_number.ensures (put_then c.put_number-2.ensures c.put_number-3.ensures))))))
