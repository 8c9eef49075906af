-- `Balls`: the ball of a solid, and where it stands. `Checking`: what is refused. `Meeting`: which links meet first.
-- `First`: what that promises. `MeetingSteps`: the words of inner functions.
pub mod Balls
pub mod Checking
pub mod Meeting
pub mod First
pub mod MeetingSteps
