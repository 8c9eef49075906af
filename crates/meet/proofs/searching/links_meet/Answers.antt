use mathlib.Core.Path.{ap, ◌∙◌}
use Rattle.std.proofs.Common.{Ok}
use Rattle.std.proofs.lemmas.Result.{err_from_is_err_and}
use Rattle.lists.proofs.Tests.{is}
use Rattle.meet.proofs.Passing.{passed_sound}
use Rattle.meet.proofs.CarrierKinds.{meeting_agree}
use Rattle.meet.proofs.Promises.{refused_is, with_promise}
use Rattle.meet.proofs.searching.links_meet.Goals as goal

pub returns-in_err-meeting_check : goal.returns-in_err-meeting_check
returns-in_err-meeting_check c =
    let p = err_from_is_err_and c.from_residual.result c.from_residual.ensures.1 in
    let all = with_promise _ _ _ _ (rw (p.1, p.2) (refused_is _ _ _ _ (is c.meeting_check.ensures c.in_err-meeting_check.was))) in
    record { answer = all.0; first = all.1 }

pub balls_in-balls-requires : goal.balls_in-balls-requires
balls_in-balls-requires c =
    let s = passed_sound _ _ _ _ (is c.meeting_check.ensures c.in_ok-meeting_check.was) in
    (s.few, s.each.all_whole)

pub returns : goal.returns
returns c =
    let passed = is c.meeting_check.ensures c.in_ok-meeting_check.was in
    let all = with_promise _ _ _ _ (ap Ok c.along.ensures ∙ meeting_agree _ _ _ _ _ _ passed c.prepare-p.ensures c.balls_in-balls.ensures) in
    record { answer = all.0; first = all.1 }
