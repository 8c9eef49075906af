use Rattle.std.proofs.Common.{◌≡◌, ◌+◌, ◌-◌, length, arith, drop-drop, refl}
use Rattle.job.proofs.Written.{written_between}
use Rattle.job.proofs.spelling.Page.put.Goals as goal

pub returns : goal.returns
returns c =
    let at = c.args.self.now.at in
    let k : at + length c.args.text.now - at ≡ length c.args.text.now = omega arith in
    record { same = refl; whole = rw (k, c.copy_from_slice.ensures.after, drop-drop) (written_between _ _ _ c.requires.room); behind = refl }
