use Rattle.std.proofs.Common.{ℕ, ◌+◌, ◌%◌, ◌^◌, ◌<◌, ◌≤◌, arith, lit≤}
use Rattle.root.proofs.RootParts.{radicand_hi}
use Rattle.root.proofs.RootNearby.{fallback}
use Rattle.root.proofs.square_root.Parts.sure_digits.Goals as goal

odd_two : (f : ℕ) → (f + 1) % 2 < 2
odd_two f = omega arith

room : (s n : ℕ) → s < 2 ^ 54 → n ≤ 2 ^ 60 → s + n < 2 ^ 64
room s n h k = omega arith

pub overflow_mul-self : goal.overflow_mul-self
overflow_mul-self c = record { fits = radicand_hi _ _ c.args.self.normal.1 (odd_two c.args.self.f) }

pub overflow_add-result : goal.overflow_add-result
overflow_add-result c = record { fits = room _ _ (fallback _ _ _ c.args.self.normal.0 c.args.self.normal.1 (odd_two c.args.self.f) c.root54.ensures).0 (lit≤ tt) }

pub returns : goal.returns
returns c = (fallback _ _ _ c.args.self.normal.0 c.args.self.normal.1 (odd_two c.args.self.f) c.root54.ensures).1
