use Rattle.path.proofs.locking.limited.Goals as goal

-- a refusal is handed on by `?`
-- joints are held to the limits, and to nothing else
pub returns : goal.returns
returns c = rw (c.within_limits.ensures, c.in_ok-j.was)
